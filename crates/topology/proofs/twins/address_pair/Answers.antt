use Rattle.std.proofs.Common.{ap, ◌∙◌}
use Rattle.topology.specs.Addresses.{repeats, share_one}
use Rattle.topology.specs.Pairs.{least_pair}
use Rattle.topology.proofs.AddressLemmas.{address_pair-seen}
use Rattle.topology.proofs.twins.address_pair.Goals as goal

pub returns : goal.returns
returns c = c.least_at_address.ensures ∙ ap (λ xs. least_pair repeats share_one 0 xs) (c.deref.ensures.value ∙ c.in_ok-all.ensures) ∙ address_pair-seen c.args.configs.now
