use Rattle.possible_fixpoint.specs.Standing.{Stands}
use Rattle.possible_fixpoint.proofs.PassLemmas.{left_to_rise}
use Rattle.possible_fixpoint.proofs.passes.settle.Given as goal

abbrev pub invariant-loop-marks : goal.invariant-loop-marks
invariant-loop-marks g l = Stands (g.A.Analysis.flow l.analysis) l.rows l.marks.gave l.marks.changed

abbrev pub decreases-loop-marks : goal.decreases-loop-marks
decreases-loop-marks g l = left_to_rise (g.A.Analysis.flow l.analysis) l.rows l.marks.changed
