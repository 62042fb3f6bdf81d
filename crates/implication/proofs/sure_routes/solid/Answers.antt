use Rattle.implication.specs.OnTheWay.{view_seen}
use Rattle.std.proofs.Common.{arith}
use Rattle.std.proofs.lemmas.Bool.Decides.{nat_tests}
use Rattle.implication.proofs.SolidLemmas.{thinning_starts, thinning_more, thinning_falls, thinning_ends}
use Rattle.implication.proofs.sure_routes.solid.Goals as goal

pub loop-set-init : goal.loop-set-init
loop-set-init c = thinning_starts (view_seen c.args.seen.now) c.kept-next.result c.requires.inside c.kept-next.ensures

pub loop-set-smaller : goal.loop-set-smaller
loop-set-smaller c =
    thinning_falls (view_seen c.args.seen.now) c.loop-set.set c.loop-set.next c.loop-set.invariant
    (let a = c.ne.ensures in let b = c.loop-set-test.true in grind (arith, nat_tests))

pub loop-set-preserved : goal.loop-set-preserved
loop-set-preserved c =
    thinning_more (view_seen c.args.seen.now) c.loop-set.set c.loop-set.next c.kept-next-in-loop-set.result c.requires.inside
    c.loop-set.invariant c.kept-next-in-loop-set.ensures

pub returns : goal.returns
returns c =
    thinning_ends (view_seen c.args.seen.now) c.loop-set.set c.loop-set.next c.requires.inside c.loop-set.invariant
    (let a = c.ne.ensures in let b = c.loop-set-test.false in grind (arith, nat_tests))
