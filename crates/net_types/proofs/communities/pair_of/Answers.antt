use Rattle.net_types.proofs.CommunityLemmas.{three_parts}
use Rattle.net_types.proofs.communities.pair_of.Goals as goal

pub returns-in-Some : goal.returns-in-Some
returns-in-Some c = three_parts c.args.text.now _ c.in_ok-first.second.now _ c.in-Some._third.now c.in_ok-first.ensures.parts c.in-Some.ensures.parts
