use Rattle.std.proofs.Common.{arith, ◌*◌}
use Rattle.possible_fixpoint.proofs.FeedLemmas.{lengthened_on}
use Rattle.possible_fixpoint.proofs.feeding.lengthen.Goals as goal

pub loop-router-preserved : goal.loop-router-preserved
loop-router-preserved g c =
    lengthened_on (g.A.Analysis.flow c.args.analysis.now) (21 * c.from-most.result) c.fed-set.result c.loop-router.router c.args.rows.now c.loop-router.rows c.lengthen_member-changed.new.rows
    c.args.marks.now.gave c.args.marks.now.changed c.loop-router.changed c.lengthen_member-changed.result
    c.requires.solvable (let a = c.from-most.ensures in let b = c.routers.ensures in omega arith) c.fed-set.ensures.greatest c.requires.standing
    (let a = c.loop-router-test.true in let b = c.routers-router-end.ensures in omega arith) c.loop-router.invariant c.lengthen_member-changed.ensures
