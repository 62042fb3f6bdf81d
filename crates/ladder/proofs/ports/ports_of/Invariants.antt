use Rattle.std.proofs.Common.{◌≡◌, ◌++◌, drop, filter_map}
use Rattle.ladder.specs.Ports.{port_of}
use Rattle.ladder.proofs.ports.ports_of.Given as goal

abbrev pub invariant-loop-link : goal.invariant-loop-link
invariant-loop-link l = l.ports ++ filter_map (port_of l.router) (drop l.link-index l.links) ≡ filter_map (port_of l.router) l.links
