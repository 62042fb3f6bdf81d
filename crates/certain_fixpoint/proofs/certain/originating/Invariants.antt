use Rattle.std.proofs.Common.{◌≡◌}
use Rattle.std.specs.Option.{is_some}
use Rattle.net_types.specs.Turns.{set_of}
use Rattle.certain_fixpoint.specs.Certain.{local_at, round_read}
use Rattle.certain_fixpoint.proofs.certain.originating.Given as goal

abbrev pub invariant-loop-router : goal.invariant-loop-router
invariant-loop-router l = l.set ≡ set_of (λ u. is_some (local_at (round_read l.reading) u)) l.router
