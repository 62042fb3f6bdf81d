use Rattle.std.proofs.Common.{◌≡◌, ◌++◌, not, drop, map}
use Rattle.std.specs.List.{filter}
use Rattle.topology.specs.Notices.{makes_session, notices_of}
use Rattle.topology.proofs.notices.push_notices.Given as goal

abbrev pub invariant-loop-neighbor : goal.invariant-loop-neighbor
invariant-loop-neighbor l = l.all.items ++ map (λ n. record { router = l.router; address = n.address }) (filter (λ n. not (makes_session l.links l.router n.address)) (drop l.neighbor-index l.neighbor-items)) ≡ l.fn.all.items ++ notices_of l.links l.router l.config
