use Rattle.std.proofs.Common.{ap, length, refl, ◌∙◌}
use Rattle.flow_board.specs.Pass.{IsClosed, Pass, no_raises}
use Rattle.possible_fixpoint.specs.Phases.{Phased}
use Rattle.possible_fixpoint.proofs.PhaseLemmas.{closed_phased, opened_none, opened_works, under_ok, way_under}
use Rattle.possible_fixpoint.proofs.phases.phase.Goals as goal

pub open-requires-clause-under : goal.open-requires-clause-under
open-requires-clause-under g c =
    way_under (g.A.Analysis.flow c.args.analysis.now) c.args.rows.now g.K.Roof.rows c.requires.way c.requires.roof

pub crew-shift-requires-clause-works : goal.crew-shift-requires-clause-works
crew-shift-requires-clause-works g c =
    λ κs bounds.
    opened_works (g.A.Analysis.flow c.args.analysis.now) c.args.rows.now g.K.Roof.rows c.in_ok-board.seat (record { board = c.in_ok-board.board.name; start = c.args.rows.now; roof = g.K.Roof.rows; own = no_raises (length c.args.rows.now) })
    c.requires.way c.requires.roof c.in_ok-board.ensures.seat refl refl refl

pub crew-shift-requires-clause-none : goal.crew-shift-requires-clause-none
crew-shift-requires-clause-none g c =
    λ κs bounds.
    opened_none (g.A.Analysis.flow c.args.analysis.now) c.args.rows.now c.in_ok-board.seat (record { board = c.in_ok-board.board.name; start = c.args.rows.now; roof = g.K.Roof.rows; own = no_raises (length c.args.rows.now) })
    c.requires.way c.in_ok-board.ensures.seat refl

pub returns : goal.returns
returns g c =
    under_ok c.close.result (λ ys. IsClosed c.crew-shift.result.seat c.in_ok-board.board.count ys) (λ ys. Phased (g.A.Analysis.flow c.args.analysis.now) c.args.rows.now ys)
    (λ ys closed. closed_phased (g.A.Analysis.flow c.args.analysis.now) c.args.rows.now g.K.Roof.rows ys c.in_ok-board.seat c.crew-shift.result.seat c.in_ok-board.board.count c.args.workers
    c.requires.solvable c.requires.roof c.requires.one (c.in_ok-board.ensures.count ∙ c.requires.way.long) (ap (λ (p : Pass). p.start) c.in_ok-board.ensures.seat) (ap (λ (p : Pass). p.roof) c.in_ok-board.ensures.seat) c.crew-shift.ensures.grown c.crew-shift.ensures.fed closed)
    c.close.ensures
