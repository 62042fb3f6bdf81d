use Rattle.std.proofs.Common.{◌≡◌, ◌+◌, ◌-◌, length}
use Rattle.failure_sets.specs.SetList.{failure_sets}
use Rattle.case_walk.specs.Turns.{IsWalk}
use Rattle.case_walk.proofs.walk.walk.Given as goal

abbrev pub invariant-loop-at : goal.invariant-loop-at
invariant-loop-at g l = record {
  walk : IsWalk l.net (g.S.CaseReader.analysis l.net) l.links l.prefix l.most l.book l.initial.verdicts l.sweep l.verdicts l.at;
  ticks : l.steps ≡ l.initial.steps + l.sweep.solved;
}

abbrev pub decreases-loop-at : goal.decreases-loop-at
decreases-loop-at g l = length (failure_sets l.links l.most) - length l.sweep.words
