use Rattle.std.proofs.Common.{◌*◌}
use Rattle.abstract_route.specs.Rows.{row_at}
use Rattle.abstract_route.proofs.RowLemmas.{below_trans}
use Rattle.possible_fixpoint.proofs.GatherLemmas.{local_then}
use Rattle.possible_fixpoint.proofs.gathering.gather.Goals as goal

pub returns-clause-local : goal.returns-clause-local
returns-clause-local g c =
    below_trans ((g.A.Analysis.flow c.args.analysis.now).source c.args.router) (row_at c.begin-begun.new.notes.rows c.args.router) (row_at c.visit_all-seat.new.notes.rows c.args.router) c.begin-begun.ensures.local (c.visit_all-seat.ensures.gathers.grows.up c.args.router)

pub returns-clause-gathers : goal.returns-clause-gathers
returns-clause-gathers g c =
    local_then (g.A.Analysis.flow c.args.analysis.now) c.args.seat.start c.args.router (2 * (g.A.Analysis.flow c.args.analysis.now).links) c.args.notes.now c.begin-begun.new.notes c.visit_all-seat.new.notes c.begin-begun.result c.visit_all-seat.result.1 c.begin-begun.ensures.grows c.visit_all-seat.ensures.gathers
