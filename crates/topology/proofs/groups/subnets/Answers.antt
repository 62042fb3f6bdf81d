use Rattle.topology.proofs.OrderLaws.{prefix_linear}
use Rattle.topology.proofs.groups.subnets.Goals as goal

pub ascending-requires : goal.ascending-requires
ascending-requires c = prefix_linear
