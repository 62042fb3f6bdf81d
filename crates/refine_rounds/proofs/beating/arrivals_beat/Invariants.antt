use Rattle.std.proofs.Common.{◌≡◌, drop}
use Rattle.refine_rounds.specs.Arrivals.{arrivals_beat}
use Rattle.refine_rounds.proofs.beating.arrivals_beat.Given as goal

abbrev pub invariant-loop-over : goal.invariant-loop-over
invariant-loop-over l = arrivals_beat l.router l.candidate (drop l.over-index l.arrivals) ≡ arrivals_beat l.router l.candidate l.arrivals
