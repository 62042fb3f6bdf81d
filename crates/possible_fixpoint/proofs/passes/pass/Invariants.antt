use Rattle.possible_fixpoint.proofs.PassLemmas.{Passing}
use Rattle.possible_fixpoint.proofs.passes.pass.Given as goal

abbrev pub invariant-loop-k : goal.invariant-loop-k
invariant-loop-k g l = Passing (g.A.Analysis.flow l.analysis) l.up l.k l.fn.rows l.rows l.now.gave l.marks.changed l.now.changed
