use Rattle.std.proofs.Common.{subst, ℕ}
use Rattle.http_desk.specs.Serves.{HasServedCause}
use Rattle.serving.proofs.TurnLemmas.{comes_one, served_next}
use Rattle.serving.proofs.serving.serve_next.Goals as goal

pub returns-clause-comes : goal.returns-clause-comes
returns-clause-comes g c = comes_one (g.J.Judge.meaning c.args.judge.now) c.args.store.now.state c.serve_one-served.new.store.state c.serve_one-served.ensures.moved

pub returns-clause-told : goal.returns-clause-told
returns-clause-told g c = λ t e.
    let served = c.serve_one-served.result in
    let after = c.serve_one-served.new in
    served_next
    (g.J.Judge.meaning c.args.judge.now)
    (record { state = c.args.store.now.state; keeper = g.K.Keeper.faults c.args.keeper.now; door = g.D.Door.faults c.args.door.now })
    (record { state = after.store.state; keeper = g.K.Keeper.faults after.keeper; door = g.D.Door.faults after.door })
    t
    (g.D.Door.told c.next.new.self)
    (g.D.Door.told after.door)
    served
    (c.in_ok-next.ensures.told t e)
    (λ u input told talk. c.serve_one-served.ensures.told u input told talk)
    (subst (λ (n : ℕ). HasServedCause n (g.D.Door.faults after.door) served) c.in_ok-next.ensures.cause c.serve_one-served.ensures.cause)
    c.serve_one-served.ensures.counted
