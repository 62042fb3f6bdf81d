use Rattle.topology.proofs.OrderLaws.{notice_linear}
use Rattle.topology.proofs.notices.notices.Goals as goal

pub ascending-requires : goal.ascending-requires
ascending-requires c = notice_linear
