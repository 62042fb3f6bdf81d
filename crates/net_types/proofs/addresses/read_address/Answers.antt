use Rattle.net_types.proofs.AddressLemmas.{five_parts}
use Rattle.net_types.proofs.addresses.read_address.Goals as goal

pub returns-in-Some : goal.returns-in-Some
returns-in-Some c = five_parts c.args.text.now _ c.in_ok-a.behind_a.now _ c.in_ok-b.behind_b.now _ c.in_ok-c.d.now _ c.in-Some._fifth.now c.in_ok-a.ensures.parts c.in_ok-b.ensures.parts c.in_ok-c.ensures.parts c.in-Some.ensures.parts
