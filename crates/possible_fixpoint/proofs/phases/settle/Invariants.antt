use Rattle.std.proofs.Common.{◌-◌, ◌*◌, ◌^◌}
use Rattle.possible_fixpoint.specs.Phases.{IsOnTheWay}
use Rattle.possible_fixpoint.specs.Possible.{possible}
use Rattle.possible_fixpoint.specs.Standing.{list_rank}
use Rattle.possible_fixpoint.proofs.phases.settle.Given as goal

-- the roof that no running code holds
abbrev pub ghosts-phase : goal.ghosts-phase
ghosts-phase g a = record { rows = possible (g.A.Analysis.flow a.analysis.now) }

abbrev pub invariant-loop-rows : goal.invariant-loop-rows
invariant-loop-rows g l = IsOnTheWay (g.A.Analysis.flow l.analysis) l.rows

abbrev pub decreases-loop-rows : goal.decreases-loop-rows
decreases-loop-rows g l = (g.A.Analysis.flow l.analysis).routers * (14 * 2 ^ 64) - list_rank l.rows
