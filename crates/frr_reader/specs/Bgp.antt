-- What the rows of BGP do, given the words of the line, those behind the row's head, and BGP so far.
use Rattle.std.specs.Prelude.{ℕ, Bool, true, false, ◌==◌, List, [], ◌∷◌, ◌++◌, position, codes, Option, Some, None, Result, Ok, option_and_then, option_map, is_some, slice_get, slice_set, if◌then◌else◌}
use Rattle.std.specs.List.{list_any}
use Rattle.net_types.specs.Order.{same_text}
use Rattle.net_types.specs.Addresses.{address_of}
use Rattle.net_types.specs.Prefixes.{same_prefix}
use Rattle.net_types.specs.declared.config.BgpConfig.{BgpConfig}
use Rattle.net_types.specs.declared.config.Neighbor.{Neighbor}
use Rattle.net_types.specs.declared.config.Redistribute.{Redistribute}
use Rattle.net_types.specs.declared.config.Redistribute.TheVariants.{No, Plain, By}
use Rattle.frr_reader.specs.declared.causes.Cause.{Cause}
use Rattle.frr_reader.specs.declared.rows.BgpRow.{BgpRow}
use Rattle.frr_reader.specs.declared.rows.BgpRow.TheVariants.{NoPolicy, RemoteAs, NeighborMap, BgpNetwork, Connected, FromOspf, OfNeighbor}
use Rattle.frr_reader.specs.declared.rows.Direction.{Direction}
use Rattle.frr_reader.specs.declared.rows.Direction.TheVariants.{Import, Export}
use Rattle.frr_policy.specs.Values.{name_of, masked_prefix_of}
use Rattle.frr_reader.specs.Values.{as_of, one, two, is_nothing}
use Rattle.frr_reader.specs.Answers.{needs, needs_before, unless_set, alone}

-- `router bgp` AS: BGP of which nothing else is known
abbrev pub fresh_bgp : ℕ → BgpConfig
fresh_bgp asn = record { asn = asn; needs_policy = true; networks = []; connected = No; ospf = No; neighbors = [] }

abbrev pub second : List (List ℕ) → Option (List ℕ)
second [] = None
second (_ ∷ []) = None
second (_ ∷ word ∷ _) = Some word

-- the address that a line of a neighbor names: the word after `neighbor`
abbrev pub address_in : List (List ℕ) → Option ℕ
address_in line = option_and_then address_of (second line)

-- the place of the neighbor with this address
abbrev pub place_of_neighbor : ℕ → List Neighbor → Option ℕ
place_of_neighbor address neighbors = position (λ (n : Neighbor). n.address == address) neighbors

-- the place of the neighbor that the line names, if its `remote-as` stands before
abbrev pub named_neighbor : List (List ℕ) → BgpConfig → Option ℕ
named_neighbor line b = option_and_then (λ address. place_of_neighbor address b.neighbors) (address_in line)

-- `no bgp ebgp-requires-policy`
unfoldable pub no_policy_line : List (List ℕ) → BgpConfig → Result BgpConfig Cause
no_policy_line rest b = alone rest (record b { needs_policy = false })

-- AS other than the file's
abbrev pub other_as : ℕ → ℕ → Option ℕ
other_as own asn = if asn == own then None else Some asn

abbrev pub fresh_neighbor : ℕ → ℕ → Neighbor
fresh_neighbor address asn = record { address = address; asn = asn; «import» = None; «export» = None }

-- one neighbor more
abbrev pub with_neighbor : ℕ → ℕ → BgpConfig → BgpConfig
with_neighbor address asn b = record b { neighbors = b.neighbors ++ fresh_neighbor address asn ∷ [] }

-- `neighbor` ADDR `remote-as` AS
unfoldable pub remote_as_line : List (List ℕ) → List (List ℕ) → BgpConfig → Result BgpConfig Cause
remote_as_line line rest b =
    needs (address_in line) (λ address.
    needs (option_and_then (other_as b.asn) (one as_of rest)) (λ asn.
    unless_set (is_some (place_of_neighbor address b.neighbors)) (with_neighbor address asn b)))

-- `in`: for what comes in; `out`: for what goes out
abbrev pub direction_of : List ℕ → Option Direction
direction_of word = if same_text (codes "in") word then Some Import else (if same_text (codes "out") word then Some Export else None)

-- NAME, then `in` or `out`
abbrev pub map_and_direction : List (List ℕ) → Option (List ℕ × Direction)
map_and_direction rest = option_and_then (λ w. option_and_then (λ name. option_map (λ d. (name, d)) (direction_of w.1)) (name_of w.0)) (two rest)

-- the map of a direction
abbrev pub map_in : Direction → Neighbor → Option (List ℕ)
map_in Import n = n.import
map_in Export n = n.export

abbrev pub with_map : Direction → List ℕ → Neighbor → Neighbor
with_map Import name n = record n { «import» = Some name }
with_map Export name n = record n { «export» = Some name }

-- the neighbor at this place has this map in this direction
abbrev pub with_map_at : BgpConfig → ℕ → List ℕ × Direction → Neighbor → Result BgpConfig Cause
with_map_at b place m n = unless_set (is_some (map_in m.1 n)) (record b { neighbors = slice_set b.neighbors place (with_map m.1 m.0 n) })

-- `neighbor` ADDR `route-map` NAME `in` or `out`
unfoldable pub neighbor_map_line : List (List ℕ) → List (List ℕ) → BgpConfig → Result BgpConfig Cause
neighbor_map_line line rest b =
    needs_before (named_neighbor line b) (λ place.
    needs (map_and_direction rest) (λ m.
    needs_before (slice_get b.neighbors place) (with_map_at b place m)))

-- `network` PFX
unfoldable pub bgp_network_line : List (List ℕ) → BgpConfig → Result BgpConfig Cause
bgp_network_line rest b =
    needs (one masked_prefix_of rest) (λ prefix.
    unless_set (list_any (λ p. same_prefix p prefix) b.networks) (record b { networks = b.networks ++ prefix ∷ [] }))

-- `route-map` NAME
abbrev pub map_behind : List (List ℕ) → Option (List ℕ)
map_behind rest = option_and_then (λ w. if same_text (codes "route-map") w.0 then name_of w.1 else None) (two rest)

-- nothing, or `route-map` NAME
abbrev pub redistribution : List (List ℕ) → Option Redistribute
redistribution rest = if is_nothing rest then Some Plain else option_map By (map_behind rest)

abbrev pub is_redistributed : Redistribute → Bool
is_redistributed No = false
is_redistributed Plain = true
is_redistributed (By _) = true

-- `redistribute connected`
unfoldable pub connected_line : List (List ℕ) → BgpConfig → Result BgpConfig Cause
connected_line rest b = needs (redistribution rest) (λ r. unless_set (is_redistributed b.connected) (record b { connected = r }))

-- `redistribute ospf`
unfoldable pub from_ospf_line : List (List ℕ) → BgpConfig → Result BgpConfig Cause
from_ospf_line rest b = needs (redistribution rest) (λ r. unless_set (is_redistributed b.ospf) (record b { ospf = r }))

-- a line of a neighbor that changes nothing
unfoldable pub of_neighbor_line : List (List ℕ) → BgpConfig → Result BgpConfig Cause
of_neighbor_line line b = needs_before (named_neighbor line b) (λ place. Ok b)

-- what a row of BGP makes of it
unfoldable pub bgp_effect : BgpRow → List (List ℕ) → List (List ℕ) → BgpConfig → Result BgpConfig Cause
bgp_effect NoPolicy line rest b = no_policy_line rest b
bgp_effect RemoteAs line rest b = remote_as_line line rest b
bgp_effect NeighborMap line rest b = neighbor_map_line line rest b
bgp_effect BgpNetwork line rest b = bgp_network_line rest b
bgp_effect Connected line rest b = connected_line rest b
bgp_effect FromOspf line rest b = from_ospf_line rest b
bgp_effect OfNeighbor line rest b = of_neighbor_line line b

-- the route map that a line of this row names
unfoldable pub named_map : BgpRow → List (List ℕ) → Option (List ℕ)
named_map NoPolicy rest = None
named_map RemoteAs rest = None
named_map NeighborMap rest = option_map (λ m. m.0) (map_and_direction rest)
named_map BgpNetwork rest = None
named_map Connected rest = map_behind rest
named_map FromOspf rest = map_behind rest
named_map OfNeighbor rest = None
