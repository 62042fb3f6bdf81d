use Rattle.std.proofs.Common.{◌≡◌, ◌==◌, ◌&&◌, not}
use Rattle.net_types.specs.Sets.{has}
use Rattle.net_types.specs.Turns.{set_of}
use Rattle.implication.specs.OnTheWay.{stays, view_seen}
use Rattle.implication.proofs.sure_routes.kept.Given as goal

abbrev pub invariant-loop-router : goal.invariant-loop-router
invariant-loop-router l = l.left ≡ set_of (λ u. has l.set u && stays (view_seen l.seen) l.set u) l.router
