use Rattle.case_walk.specs.Marks.{IsMarked}
use Rattle.case_walk.proofs.MarkLemmas.{TurnedUpTo}
use Rattle.case_walk.proofs.marks.mark.Given as goal

abbrev pub invariant-loop-j : goal.invariant-loop-j
invariant-loop-j g l = TurnedUpTo (IsMarked l.net (g.S.CaseReader.analysis l.net) l.prefix l.set) l.j l.book l.initial.verdicts l.verdicts
