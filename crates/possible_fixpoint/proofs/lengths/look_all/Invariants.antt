use Rattle.std.proofs.Common.{◌≡◌}
use Rattle.possible_fixpoint.specs.Notebook.{IsKept}
use Rattle.possible_fixpoint.proofs.lengths.look_all.Given as goal

abbrev pub invariant-loop-link : goal.invariant-loop-link
invariant-loop-link g l = (l.seat ≡ l.fn.seat) × IsKept (g.A.Analysis.flow l.analysis) l.notes × (l.notes.rows ≡ l.fn.notes.rows)
