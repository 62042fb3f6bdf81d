use Rattle.std.proofs.Common.{arith, ◌+◌, ◌*◌}
use Rattle.possible_fixpoint.specs.Marks.{number}
use Rattle.possible_fixpoint.proofs.VisitLemmas.{at_place, number_down, number_up}
use Rattle.possible_fixpoint.proofs.visits.ask_link.Goals as goal

pub ask_arc-requires-clause-standing : goal.ask_arc-requires-clause-standing
ask_arc-requires-clause-standing g c =
    at_place (g.A.Analysis.flow c.args.analysis.now) c.args.router (number c.both.result.0 + 1) (number c.both.result.1) c.ask_arc-asked.new.rows c.ask_arc-asked.result.gave c.ask_arc-asked.result.changed
    (let a = number_up c.both.result.0 c.args.link c.both.ensures.up in let b = number_down c.both.result.1 c.args.link c.both.ensures.down in omega arith)
    c.ask_arc-asked.ensures.standing

pub returns-clause-standing : goal.returns-clause-standing
returns-clause-standing g c =
    at_place (g.A.Analysis.flow c.args.analysis.now) c.args.router (number c.both.result.1 + 1) (2 * (c.args.link + 1)) c.ask_arc.new.rows c.ask_arc.result.gave c.ask_arc.result.changed
    (let b = number_down c.both.result.1 c.args.link c.both.ensures.down in omega arith)
    c.ask_arc.ensures.standing
