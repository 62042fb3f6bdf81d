-- What a router of a ladder has on its links. Link i has the subnet 10.0.i.0/30, in which the lower one of its routers
-- has the address that ends in 1, the other one that which ends in 2.
use Rattle.std.specs.Prelude.{ℕ, ◌==◌, List as Seq, filter_map, Option, Some, None, if◌then◌else◌}
use Rattle.ladder.specs.declared.links.LadderLink.{LadderLink}
use Rattle.ladder.specs.declared.ports.Port.{Port}

-- the end of the link at the router, if there is one
abbrev pub port_of : ℕ → LadderLink → Option Port
port_of router link =
    if link.low == router
    then Some (record { link = link.number; own = 1; theirs = 2; other = link.high; session = link.session }) else
    if link.high == router
    then Some (record { link = link.number; own = 2; theirs = 1; other = link.low; session = link.session }) else None

-- the ends of these links at the router, in their order
abbrev pub ports_of : Seq LadderLink → ℕ → Seq Port
ports_of links router = filter_map (port_of router) links
