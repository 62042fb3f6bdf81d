use Rattle.possible_fixpoint.proofs.PhaseLemmas.{all_solve, solves_met}
use Rattle.possible_fixpoint.proofs.ending.is_solved.Goals as goal

pub returns-clause-yes : goal.returns-clause-yes
returns-clause-yes g c =
    λ yes. all_solve (g.A.Analysis.flow c.args.analysis.now) c.args.rows.now c.requires.solvable c.requires.way (c.have_local_rows.ensures.yes c.if-not-have_local_rows.false) (c.all_add_nothing.ensures.yes yes)

pub returns-clause-no : goal.returns-clause-no
returns-clause-no g c =
    λ no solves. c.all_add_nothing.ensures.no no (solves_met (g.A.Analysis.flow c.args.analysis.now) c.args.rows.now solves)

pub returns-then-not-have_local_rows-clause-no : goal.returns-then-not-have_local_rows-clause-no
returns-then-not-have_local_rows-clause-no g c =
    λ no solves. c.have_local_rows.ensures.no c.if-not-have_local_rows.true solves.local
