use Rattle.std.proofs.Common.{◌≡◌, map}
use Rattle.std.specs.List.{range_with_len}
use Rattle.certain_fixpoint.specs.Certain.{round_read}
use Rattle.refine_rounds.specs.Arrivals.{arrivals_over}
use Rattle.refine_rounds.proofs.arrivals.arrivals_of.Given as goal

abbrev pub invariant-loop-link : goal.invariant-loop-link
invariant-loop-link l = l.arrivals.items ≡ map (arrivals_over (round_read l.reading) l.certain) (range_with_len 0 l.link)
