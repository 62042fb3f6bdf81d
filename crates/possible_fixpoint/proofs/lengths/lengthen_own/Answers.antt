use Rattle.std.proofs.Common.{false}
use Rattle.possible_fixpoint.proofs.WorkLemmas.{looked_raised, stood_from}
use Rattle.possible_fixpoint.proofs.lengths.lengthen_own.Goals as goal

pub lift_all-requires-clause-raised : goal.lift_all-requires-clause-raised
lift_all-requires-clause-raised g c =
    looked_raised (g.A.Analysis.flow c.args.analysis.now) c.args.seat c.look_all-seat.result c.args.notes.now c.look_all-seat.new.notes c.look_all-seat.ensures.same c.look_all-seat.ensures.rows c.requires.raised

pub returns : goal.returns
returns g c =
    stood_from (g.A.Analysis.flow c.args.analysis.now) c.args.seat c.look_all-seat.result c.lift_all.result c.lift_all.new.notes false c.look_all-seat.ensures.same c.lift_all.ensures
