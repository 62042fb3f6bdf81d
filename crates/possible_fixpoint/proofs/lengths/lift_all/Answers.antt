use Rattle.std.proofs.Common.{refl, false}
use Rattle.possible_fixpoint.proofs.WorkLemmas.{fed_long, gave_living, stood_on, stood_still}
use Rattle.possible_fixpoint.proofs.lengths.lift_all.Goals as goal

pub fed-set-requires-clause-living : goal.fed-set-requires-clause-living
fed-set-requires-clause-living g c =
    gave_living (g.A.Analysis.flow c.args.analysis.now) c.args.notes.now c.requires.kept

pub loop-router-init : goal.loop-router-init
loop-router-init g c =
    stood_still (g.A.Analysis.flow c.args.analysis.now) c.args.seat c.args.seat c.args.notes.now c.requires.works refl c.requires.kept c.requires.raised

pub lift_own-seat-requires-clause-climbs : goal.lift_own-seat-requires-clause-climbs
lift_own-seat-requires-clause-climbs g c =
    fed_long (g.A.Analysis.flow c.args.analysis.now) c.args.notes.now c.fed-set.result c.requires.solvable c.requires.kept c.fed-set.ensures.greatest

pub loop-router-preserved : goal.loop-router-preserved
loop-router-preserved g c =
    stood_on (g.A.Analysis.flow c.args.analysis.now) c.args.seat c.loop-router.seat c.lift_own-seat.result c.loop-router.notes c.lift_own-seat.new.notes false false c.loop-router.invariant c.lift_own-seat.ensures
