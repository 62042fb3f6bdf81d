use Rattle.std.proofs.Common.{◌∙◌}
use Rattle.refine_rounds.proofs.ArrivalLemmas.{drops_found, found_inside}
use Rattle.refine_rounds.proofs.beating.Found.drops_arc.Goals as goal

pub drops_arrival-requires : goal.drops_arrival-requires
drops_arrival-requires c = found_inside c.args.self.now c.requires c.valid.ensures c.args.arc c.arrival.result c.arrival.ensures

pub returns : goal.returns
returns c = c.drops_arrival.ensures ∙ drops_found c.args.self.now c.requires c.valid.ensures c.args.arc c.arrival.result c.arrival.ensures
