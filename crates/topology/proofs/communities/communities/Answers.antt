use Rattle.topology.proofs.OrderLaws.{number_linear}
use Rattle.topology.proofs.communities.communities.Goals as goal

pub ascending-requires : goal.ascending-requires
ascending-requires c = number_linear
