use Rattle.std.proofs.Common.{◌*◌}
use Rattle.possible_fixpoint.proofs.VisitLemmas.{Walked}
use Rattle.possible_fixpoint.proofs.visits.ask_links.Given as goal

abbrev pub invariant-loop-link : goal.invariant-loop-link
invariant-loop-link g l = Walked (g.A.Analysis.flow l.analysis) l.router (2 * l.link) l.fn.rows l.rows l.asked.gave l.marks.changed l.asked.changed
