use Rattle.std.proofs.Common.{ℕ, ◌≡◌, length, arith, ap, subst}
use Rattle.std.specs.Option.{is_some}
use Rattle.net_types.specs.Turns.{set_of}
use Rattle.certain_fixpoint.specs.Certain.{local_at, round_read}
use Rattle.certain_fixpoint.proofs.PassLemmas.{sure_when}
use Rattle.certain_fixpoint.proofs.certain.originating.Goals as goal

pub returns-clause-sure : goal.returns-clause-sure
returns-clause-sure c =
    let all : length c.routers-router-end.result.now ≡ length c.args.reading.now.net.now.routers = ap length c.routers-router-end.ensures in
    let end : c.loop-router.router ≡ length c.args.reading.now.net.now.routers = omega arith in
    sure_when (round_read c.args.reading.now) c.loop-router.set
    (subst (λ (n : ℕ). c.loop-router.set ≡ set_of (λ u. is_some (local_at (round_read c.args.reading.now) u)) n) end c.loop-router.invariant)
