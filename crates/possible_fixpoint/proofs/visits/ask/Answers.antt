use Rattle.possible_fixpoint.proofs.VisitLemmas.{walk_begins}
use Rattle.possible_fixpoint.proofs.visits.ask.Goals as goal

pub ask_links-requires-clause-standing : goal.ask_links-requires-clause-standing
ask_links-requires-clause-standing g c =
    rw c.without.ensures (walk_begins (g.A.Analysis.flow c.args.analysis.now) c.args.router c.args.rows.now c.args.marks.now.gave c.args.marks.now.changed
    c.requires.solvable c.requires.router c.requires.standing)
