use Rattle.implication.proofs.ArcLemmas.{is_hop_by}
use Rattle.implication.proofs.cases.Case.is_hop.Goals as goal

pub returns : goal.returns
returns c =
    is_hop_by c.args.self.now.net.now c.args.self.now.prefix c.args.self.now.failed.now c.args.self.now.known.now.distances c.args.arc c.is_next_hop.result
    (rw c.distances.ensures at c.is_next_hop.ensures)
