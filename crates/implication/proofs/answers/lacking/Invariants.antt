use Rattle.std.proofs.Common.{◌≡◌, ◌==◌, ◌&&◌, not}
use Rattle.net_types.specs.Sets.{has}
use Rattle.net_types.specs.Turns.{set_of}
use Rattle.implication.specs.OnTheWay.{has_sure_route, view_seen}
use Rattle.implication.proofs.answers.lacking.Given as goal

abbrev pub invariant-loop-router : goal.invariant-loop-router
invariant-loop-router l = l.found ≡ set_of (λ u. has l.set u && not (has_sure_route (view_seen l.seen) l.solid u)) l.router
