use Rattle.std.proofs.Common.{◌≡◌, ◌&&◌, not}
use Rattle.net_types.specs.Sets.{has}
use Rattle.net_types.specs.Turns.{set_of}
use Rattle.certain_fixpoint.specs.Certain.{round_read}
use Rattle.refine_rounds.specs.Steps.{drops_local}
use Rattle.refine_rounds.proofs.dropping.living_locals.Given as goal

abbrev pub invariant-loop-router : goal.invariant-loop-router
invariant-loop-router l = l.living ≡ set_of (λ u. has l.alive u && not (drops_local (round_read l.found.reading.now) u)) l.router
