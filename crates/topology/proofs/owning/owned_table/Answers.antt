use Rattle.std.proofs.Common.{ap, ◌∙◌}
use Rattle.topology.proofs.TableLemmas.{networks_onto, owned-networks}
use Rattle.topology.proofs.owning.owned_table.Goals as goal

pub loop-network-init : goal.loop-network-init
loop-network-init c = λ q. ap (λ o. networks_onto q o c.args.networks.now) (c.in_ok-table.ensures q) ∙ owned-networks q c.args.stubs.now c.args.networks.now
