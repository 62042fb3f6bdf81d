use Rattle.implication.specs.OnTheWay.{view_seen}
use Rattle.implication.proofs.ReachLemmas.{around_of, around_none}
use Rattle.implication.proofs.ways.after_around.Goals as goal

pub returns-then-stops : goal.returns-then-stops
returns-then-stops c =
    around_none (view_seen c.args.seen.now) c.args.via c.args.from c.args.excepting c.stops.result c.stops.ensures c.if-stops.true

pub returns-else-stops : goal.returns-else-stops
returns-else-stops c =
    around_of (view_seen c.args.seen.now) c.args.via c.args.from c.args.excepting c.backs_unless.result c.hops_unless.result c.union.result c.stops.result
    c.stops.ensures c.if-stops.false c.backs_unless.ensures c.hops_unless.ensures c.union.ensures
