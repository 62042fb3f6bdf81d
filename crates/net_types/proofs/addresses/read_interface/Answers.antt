use Rattle.net_types.proofs.AddressLemmas.{three_parts}
use Rattle.net_types.proofs.addresses.read_interface.Goals as goal

pub returns-in-Some : goal.returns-in-Some
returns-in-Some c = three_parts c.args.text.now _ c.in_ok-address.len.now _ c.in-Some._third.now c.in_ok-address.ensures.parts c.in-Some.ensures.parts
