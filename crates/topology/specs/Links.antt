-- The links of a network: their ends, and whether they are sessions and adjacencies.
use Rattle.std.specs.Prelude.{◌&&◌, true, false, List, Option, Some, map}
use Rattle.net_types.specs.declared.config.RouterConfig.{RouterConfig}
use Rattle.net_types.specs.declared.network.Link.{Link}
use Rattle.net_types.specs.declared.network.End.{End}
use Rattle.topology.specs.declared.interfaces.Port.{Port}
use Rattle.topology.specs.declared.groups.Wire.{Wire}
use Rattle.topology.specs.declared.sessions.Side.{Side}
use Rattle.topology.specs.Sessions.{side_at, no_side}

abbrev pub end_of : Port → Side → End
end_of port side = record { router = port.router; address = port.address; cost = port.cost; «import» = side.import; «export» = side.export }

-- a link is an adjacency where both ends run OSPF, and a session where each end's router has a neighbor
-- line for the other
abbrev pub joined_by : Wire → Option Side → Option Side → Link
joined_by wire (Some low) (Some high) = record {
  subnet = wire.subnet;
  low = end_of wire.low low;
  high = end_of wire.high high;
  session = true;
  adjacency = wire.low.ospf && wire.high.ospf;
}
joined_by wire _ _ = record {
  subnet = wire.subnet;
  low = end_of wire.low no_side;
  high = end_of wire.high no_side;
  session = false;
  adjacency = wire.low.ospf && wire.high.ospf;
}

-- the link of two interfaces; the configurations are in order of the router numbers
abbrev pub link_of : List RouterConfig → Wire → Link
link_of configs wire = joined_by wire (side_at configs wire.low wire.high) (side_at configs wire.high wire.low)

abbrev pub links_of : List RouterConfig → List Wire → List Link
links_of configs wires = map (λ wire. link_of configs wire) wires
