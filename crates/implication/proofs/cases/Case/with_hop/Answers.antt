use Rattle.std.proofs.Common.{◌≡◌, ◌==◌, true, sym, ◌∙◌}
use Rattle.net_types.proofs.TestLemmas.{equal_self}
use Rattle.implication.proofs.ArcLemmas.{with_receiver}
use Rattle.implication.proofs.cases.Case.with_hop.Goals as goal

pub returns-then-is_hop : goal.returns-then-is_hop
returns-then-is_hop c =
    rw c.with.ensures
    (with_receiver c.args.self.now.net.now c.args.self.now.prefix c.args.self.now.failed.now c.args.self.now.known.now.distances c.args.router
    c.in-Some-Some.from c.in-Some-Some.to c.args.set c.args.arc (sym c.in-Some-Some.ensures.sender) (sym c.in-Some-Some.ensures'.receiver)
    (rw c.if-from-router.true (equal_self c.args.router)) (sym c.is_hop.ensures ∙ c.if-is_hop.true))
