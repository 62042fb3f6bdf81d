use Rattle.implication.specs.OnTheWay.{view_seen}
use Rattle.std.proofs.Common.{arith}
use Rattle.std.proofs.lemmas.Bool.Decides.{nat_tests}
use Rattle.implication.specs.OnTheWay.{leads}
use Rattle.implication.proofs.ReachLemmas.{growing_begins, growing_goes_on, growing_ends, growing_rises}
use Rattle.implication.proofs.ReachLemmas.{stays_below}
use Rattle.implication.proofs.ways.reached.Goals as goal

pub loop-set-init : goal.loop-set-init
loop-set-init c =
    let view = view_seen c.args.seen.now in
    growing_begins (leads view c.args.way) view.count c.args.start c.with-set.result c.all_after.result c.union-next.result
    c.requires.start c.with-set.ensures c.all_after.ensures c.union-next.ensures

pub loop-set-smaller : goal.loop-set-smaller
loop-set-smaller c =
    let view = view_seen c.args.seen.now in
    growing_rises (leads view c.args.way) view.count c.args.start c.loop-set.set c.loop-set.next
    (stays_below view c.args.way c.requires.seen.inside) c.loop-set.invariant
    (let a = c.ne.ensures in let b = c.loop-set-test.true in grind (arith, nat_tests))

pub loop-set-preserved : goal.loop-set-preserved
loop-set-preserved c =
    let view = view_seen c.args.seen.now in
    growing_goes_on (leads view c.args.way) view.count c.args.start c.loop-set.set c.loop-set.next c.all_after-in-loop-set.result c.union-next-in-loop-set.result
    c.loop-set.invariant c.all_after-in-loop-set.ensures c.union-next-in-loop-set.ensures

pub returns : goal.returns
returns c =
    let view = view_seen c.args.seen.now in
    growing_ends (leads view c.args.way) view.count c.args.start c.loop-set.set c.loop-set.next
    (stays_below view c.args.way c.requires.seen.inside) c.loop-set.invariant
    (let a = c.ne.ensures in let b = c.loop-set-test.false in grind (arith, nat_tests))
