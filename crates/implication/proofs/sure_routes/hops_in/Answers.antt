use Rattle.implication.specs.OnTheWay.{view_seen}
use Rattle.implication.proofs.SolidLemmas.{part_is_hops_in}
use Rattle.implication.proofs.sure_routes.hops_in.Goals as goal

pub returns : goal.returns
returns c =
    part_is_hops_in (view_seen c.args.seen.now) c.args.router c.hops.result c.args.set c.is_part.result c.requires.seen.inside c.hops.ensures c.is_part.ensures.part
