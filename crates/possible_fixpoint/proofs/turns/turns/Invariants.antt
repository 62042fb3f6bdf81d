use Rattle.std.proofs.Common.{◌-◌, ◌*◌, ◌^◌, false}
use Rattle.possible_fixpoint.specs.Standing.{list_rank}
use Rattle.possible_fixpoint.specs.Working.{Stood}
use Rattle.possible_fixpoint.proofs.turns.turns.Given as goal

abbrev pub invariant-loop-notes : goal.invariant-loop-notes
invariant-loop-notes g l = Stood (g.A.Analysis.flow l.analysis) l.fn.seat l.seat l.notes false

abbrev pub decreases-loop-notes : goal.decreases-loop-notes
decreases-loop-notes g l = (g.A.Analysis.flow l.analysis).routers * (14 * 2 ^ 64) - list_rank l.seat.own
