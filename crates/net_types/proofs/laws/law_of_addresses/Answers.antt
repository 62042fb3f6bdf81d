use Rattle.net_types.proofs.PrefixLemmas.{addresses_lie_in_their_subnets, covers_each_address, overlaps_at_an_address}
use Rattle.net_types.proofs.laws.law_of_addresses.Goals as goal

pub returns-clause-subnets : goal.returns-clause-subnets
returns-clause-subnets c = addresses_lie_in_their_subnets

pub returns-clause-covers : goal.returns-clause-covers
returns-clause-covers c = covers_each_address

pub returns-clause-overlaps : goal.returns-clause-overlaps
returns-clause-overlaps c = overlaps_at_an_address
