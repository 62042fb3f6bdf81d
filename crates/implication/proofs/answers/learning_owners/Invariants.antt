use Rattle.std.proofs.Common.{◌≡◌, ◌==◌, ◌&&◌, not}
use Rattle.net_types.specs.Sets.{has}
use Rattle.net_types.specs.Turns.{set_of}
use Rattle.implication.specs.OnTheWay.{view_seen}
use Rattle.implication.proofs.answers.learning_owners.Given as goal

abbrev pub invariant-loop-router : goal.invariant-loop-router
invariant-loop-router l = l.found ≡ set_of (λ u. (view_seen l.seen).owner u && (view_seen l.seen).may_learn u) l.router
