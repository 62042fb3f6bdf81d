use Rattle.std.proofs.Common.{◌≡◌, ◌&&◌, not}
use Rattle.net_types.specs.Sets.{has}
use Rattle.net_types.specs.Turns.{set_of}
use Rattle.certain_fixpoint.specs.Certain.{round_read}
use Rattle.refine_rounds.specs.Steps.{drops_arc}
use Rattle.refine_rounds.proofs.dropping.living_links.Given as goal

abbrev pub invariant-loop-link : goal.invariant-loop-link
invariant-loop-link l = l.living ≡ set_of (λ link. has l.alive link && not (drops_arc (round_read l.found.reading.now) (record { link = link; down = l.down }))) l.link
