use Rattle.std.proofs.Common.{◌≡◌}
use Rattle.net_types.specs.Turns.{set_of}
use Rattle.certain_fixpoint.specs.Certain.{round_read}
use Rattle.refine_rounds.specs.Idle.{is_idle}
use Rattle.refine_rounds.proofs.idle.idle_links.Given as goal

abbrev pub invariant-loop-link : goal.invariant-loop-link
invariant-loop-link l = l.idle ≡ set_of (is_idle (round_read l.reading)) l.link
