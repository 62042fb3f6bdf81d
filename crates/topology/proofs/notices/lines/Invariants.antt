use Rattle.std.proofs.Common.{◌≡◌, ◌++◌, drop, map}
use Rattle.topology.specs.Notices.{notices_from}
use Rattle.topology.proofs.notices.lines.Given as goal

abbrev pub invariant-loop-router : goal.invariant-loop-router
invariant-loop-router l = l.all.items ++ notices_from l.links l.router (map (λ c. c.now) (drop l.router l.configs)) ≡ notices_from l.links 0 (map (λ c. c.now) l.configs)
