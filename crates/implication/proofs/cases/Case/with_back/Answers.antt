use Rattle.std.proofs.Common.{◌≡◌, ◌==◌, true, sym, ◌∙◌}
use Rattle.net_types.proofs.TestLemmas.{equal_self}
use Rattle.implication.proofs.ArcLemmas.{with_sender}
use Rattle.implication.proofs.cases.Case.with_back.Goals as goal

pub returns-then-may_bring : goal.returns-then-may_bring
returns-then-may_bring c =
    rw c.with.ensures
    (with_sender c.args.self.now.net.now c.args.self.now.prefix c.args.self.now.failed.now c.args.self.now.known.now c.args.router
    c.in-Some-Some.from c.in-Some-Some.to c.args.set c.args.arc (sym c.in-Some-Some.ensures.sender) (sym c.in-Some-Some.ensures'.receiver)
    (rw c.if-to-router.true (equal_self c.args.router)) (sym c.may_bring.ensures ∙ c.if-may_bring.true))
