use Rattle.std.proofs.Common.{◌≡◌, ◌+◌, length}
use Rattle.case_walk.proofs.ProgressLemmas.{IsProgress}
use Rattle.case_walk.proofs.verdicts.solve_all.Given as goal

abbrev pub invariant-loop-i : goal.invariant-loop-i
invariant-loop-i g l = record {
  progress : IsProgress l.net (g.S.CaseReader.analysis l.net) l.book l.i l.solved l.verdicts;
  ticks : l.steps ≡ l.initial.steps + l.solved;
}
