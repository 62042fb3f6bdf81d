use Rattle.std.proofs.Common.{◌≡◌, map, take}
use Rattle.topology.specs.Links.{link_of}
use Rattle.topology.proofs.links.links.Given as goal

abbrev pub invariant-loop-wire : goal.invariant-loop-wire
invariant-loop-wire l = l.all.items ≡ map (λ wire. link_of (map (λ c. c.now) l.configs) wire) (take l.wire-index l.wires)
