-- What each row of the line table does, given the words of the line and those behind the row's head.
use Rattle.std.specs.Prelude.{ℕ, true, false, ◌==◌, nat_lt, List, [], ◌∷◌, ◌++◌, length, Option, Some, None, Result, Ok, Err, slice_get, slice_set, is_some, option_map, if◌then◌else◌}
use Rattle.std.specs.List.{position_or_len}
use Rattle.net_types.specs.declared.config.Interface.{Interface}
use Rattle.net_types.specs.declared.config.BgpConfig.{BgpConfig}
use Rattle.net_types.specs.declared.config.MapEntry.{MapEntry}
use Rattle.net_types.specs.Order.{same_text}
use Rattle.frr_policy.specs.declared.map_steps.MapStep.{MapStep}
use Rattle.frr_policy.specs.declared.map_steps.MapStep.TheVariants.{Begin, Change}
use Rattle.frr_policy.specs.PrefixLines.{prefix_list_row}
use Rattle.frr_policy.specs.CommunityLines.{community_list_row}
use Rattle.frr_policy.specs.MapLines.{map_line}
use Rattle.frr_reader.specs.declared.causes.Cause.{Cause}
use Rattle.frr_reader.specs.declared.causes.Cause.TheVariants.{BadValue, Repeated}
use Rattle.frr_reader.specs.declared.modes.Mode.TheVariants.{Top, InInterface, InBgp, InOspf, InMap, InFamily}
use Rattle.frr_reader.specs.declared.needs.Needed.TheVariants.{Map}
use Rattle.frr_reader.specs.declared.rows.BgpRow.{BgpRow}
use Rattle.frr_reader.specs.declared.rows.Row.{Row}
use Rattle.frr_reader.specs.declared.rows.Row.TheVariants.{HostName, OpenInterface, OpenBgp, OpenOspf, PrefixListLine, CommunityListLine, MapLine, Address, Area, Cost, Shutdown, OspfNetwork, OfBgp, OpenFamily, Exit, End, ExitFamily, NoEffect}
use Rattle.frr_reader.specs.Answers.{needs, needs_before, unless_set, alone, and_then, by_policy}
use Rattle.frr_reader.specs.Table.{outer}
use Rattle.frr_reader.specs.State.{State}
use Rattle.frr_reader.specs.Entries.{with_prefix_entry, with_community_entry, with_map_entry, place_of_map, place_of_entry, entry_at, with_entry_at}
use Rattle.frr_reader.specs.Needs.{noted, noted_change}
use Rattle.frr_reader.specs.Bgp.{fresh_bgp, bgp_effect, named_map}
use Rattle.frr_policy.specs.Values.{name_of}
use Rattle.frr_reader.specs.Values.{host_of, as_of, area_of, cost_of, interface_address_of, network_of, one, is_nothing, is_unicast}

-- what is done with the interface that is open; there is one in its mode
abbrev pub on_open : State → (Interface → Result State Cause) → Result State Cause
on_open s next = needs_before (slice_get s.interfaces s.open_place) next

-- the open interface is now this
abbrev pub with_open : State → Interface → State
with_open s i = record s { interfaces = slice_set s.interfaces s.open_place i }

-- `hostname` HOST
unfoldable pub host_line : List (List ℕ) → State → Result State Cause
host_line rest s = needs (one host_of rest) (λ host. unless_set (is_some s.host) (record s { host = Some host }))

abbrev pub fresh_interface : List ℕ → Interface
fresh_interface name = record { name = name; address = None; shutdown = false; ospf = false; cost = None }

-- the place of the interface of this name, or how many there are
abbrev pub place_of : List ℕ → List Interface → ℕ
place_of name interfaces = position_or_len (λ i. same_text i.name name) interfaces

-- where none has the name, one more stands at the end
abbrev pub with_interface : List ℕ → List Interface → List Interface
with_interface name interfaces =
    if nat_lt (place_of name interfaces) (length interfaces) then interfaces else interfaces ++ fresh_interface name ∷ []

-- `interface` NAME: opens the interface, or opens it once more
unfoldable pub interface_line : List (List ℕ) → State → Result State Cause
interface_line rest s = needs (one name_of rest) (λ name. Ok (record s {
  mode = InInterface;
  open_place = place_of name s.interfaces;
  interfaces = with_interface name s.interfaces;
}))

-- `ip address` IFP, of a length from 1
unfoldable pub address_line : List (List ℕ) → State → Result State Cause
address_line rest s = needs (one interface_address_of rest)
    (λ address. on_open s (λ i. unless_set (is_some i.address) (with_open s (record i { address = Some address }))))

-- `ip ospf area 0`: the interface runs OSPF
unfoldable pub area_line : List (List ℕ) → State → Result State Cause
area_line rest s = needs (one area_of rest) (λ _. on_open s (λ i. unless_set i.ospf (with_open s (record i { ospf = true }))))

-- `ip ospf cost` NUM
unfoldable pub cost_line : List (List ℕ) → State → Result State Cause
cost_line rest s = needs (one cost_of rest) (λ cost. on_open s (λ i. unless_set (is_some i.cost) (with_open s (record i { cost = Some cost }))))

-- `shutdown`
unfoldable pub shutdown_line : List (List ℕ) → State → Result State Cause
shutdown_line rest s = if is_nothing rest then on_open s (λ i. Ok (with_open s (record i { shutdown = true }))) else Err BadValue

abbrev pub or_empty : {A : Type 0} → Option (List A) → List A
or_empty None = []
or_empty (Some xs) = xs

-- `router ospf`: opens OSPF, or opens it once more
unfoldable pub ospf_line : List (List ℕ) → State → Result State Cause
ospf_line rest s = alone rest (record s { mode = InOspf; ospf = Some (or_empty s.ospf) })

-- `network` PFX `area 0`: adds the prefix
unfoldable pub network_line : List (List ℕ) → State → Result State Cause
network_line rest s = needs (network_of rest) (λ prefix. Ok (record s { ospf = option_map (λ prefixes. prefixes ++ prefix ∷ []) s.ospf }))

-- BGP of this AS is open: it is new, or opened once more; a file has one AS
abbrev pub with_bgp : ℕ → Option BgpConfig → State → Result State Cause
with_bgp asn None s = Ok (record s { mode = InBgp; bgp = Some (fresh_bgp asn) })
with_bgp asn (Some b) s = if b.asn == asn then Ok (record s { mode = InBgp }) else Err Repeated

-- `router bgp` AS
unfoldable pub bgp_line : List (List ℕ) → State → Result State Cause
bgp_line rest s = needs (one as_of rest) (λ asn. with_bgp asn s.bgp s)

-- the state with BGP as a row makes it; in the modes of BGP there is BGP
unfoldable pub by_bgp : BgpRow → List (List ℕ) → List (List ℕ) → State → Result State Cause
by_bgp row line rest s = needs_before s.bgp (λ b. and_then (bgp_effect row line rest b) (λ new. Ok (record s { bgp = Some new })))

-- a map that a line of BGP names has to be there in the end
abbrev pub with_map_noted : BgpRow → List (List ℕ) → State → State
with_map_noted row rest s = record s { needed = noted s.number (option_map Map (named_map row rest)) s.needed }

-- a row of BGP
unfoldable pub of_bgp_line : BgpRow → List (List ℕ) → List (List ℕ) → State → Result State Cause
of_bgp_line row line rest s = and_then (by_bgp row line rest s) (λ t. Ok (with_map_noted row rest t))

-- `address-family`, and `ipv4` or `ipv4 unicast`; in the mode of BGP there is BGP
unfoldable pub family_line : List (List ℕ) → State → Result State Cause
family_line rest s = needs_before s.bgp (λ _. if is_unicast rest then Ok (record s { mode = InFamily }) else Err BadValue)

-- `ip prefix-list`: adds an entry
unfoldable pub prefix_list_line : List (List ℕ) → State → Result State Cause
prefix_list_line rest s =
    and_then (by_policy (prefix_list_row rest s.prefix_lists)) (λ r. Ok (record s { prefix_lists = with_prefix_entry r.0 r.1 s.prefix_lists }))

-- `bgp community-list`, `ip community-list`: adds an entry
unfoldable pub community_list_line : List (List ℕ) → State → Result State Cause
community_list_line rest s =
    and_then (by_policy (community_list_row rest s.community_lists))
    (λ r. Ok (record s { community_lists = with_community_entry r.0 r.1 s.community_lists }))

-- the entry whose block is open, or was last
abbrev pub open_entry : State → Option MapEntry
open_entry s = entry_at s.open_map s.open_entry s.maps

-- `route-map` opens a new entry of the map
unfoldable pub with_begun : List ℕ → MapEntry → State → State
with_begun name entry s = record s {
  mode = InMap;
  open_map = place_of_map name s.maps;
  open_entry = place_of_entry name entry.seq s.maps;
  maps = with_map_entry name entry s.maps;
}

-- what a line needs that makes this of the open entry
abbrev pub with_change_noted : Option MapEntry → MapEntry → State → State
with_change_noted None entry s = s
with_change_noted (Some old) entry s = record s { needed = noted_change s.number old entry s.needed }

abbrev pub with_entry_set : MapEntry → State → State
with_entry_set entry s = record s { maps = with_entry_at s.open_map s.open_entry entry s.maps }

-- the open entry is now this, and what it newly names has to be there in the end
abbrev pub with_changed : MapEntry → State → State
with_changed entry s = with_entry_set entry (with_change_noted (open_entry s) entry s)

abbrev pub with_step : MapStep → State → State
with_step (Begin name entry) s = with_begun name entry s
with_step (Change entry) s = with_changed entry s

-- a line of a route map
unfoldable pub map_row_line : List (List ℕ) → State → Result State Cause
map_row_line line s = and_then (by_policy (map_line line s.maps (open_entry s))) (λ m. Ok (with_step m s))

-- `exit`: to the mode round this one
unfoldable pub exit_line : List (List ℕ) → State → Result State Cause
exit_line rest s = alone rest (record s { mode = outer s.mode })

-- `end`: to the top
unfoldable pub end_line : List (List ℕ) → State → Result State Cause
end_line rest s = alone rest (record s { mode = Top })

-- `exit-address-family`: to BGP
unfoldable pub exit_family_line : List (List ℕ) → State → Result State Cause
exit_family_line rest s = needs_before s.bgp (λ _. alone rest (record s { mode = InBgp }))

-- what the row makes of the state, or the first cause for which it refuses its line
unfoldable pub effect : Row → List (List ℕ) → List (List ℕ) → State → Result State Cause
effect HostName line rest s = host_line rest s
effect OpenInterface line rest s = interface_line rest s
effect OpenBgp line rest s = bgp_line rest s
effect OpenOspf line rest s = ospf_line rest s
effect PrefixListLine line rest s = prefix_list_line rest s
effect CommunityListLine line rest s = community_list_line rest s
effect MapLine line rest s = map_row_line line s
effect Address line rest s = address_line rest s
effect Area line rest s = area_line rest s
effect Cost line rest s = cost_line rest s
effect Shutdown line rest s = shutdown_line rest s
effect OspfNetwork line rest s = network_line rest s
effect (OfBgp row) line rest s = of_bgp_line row line rest s
effect OpenFamily line rest s = family_line rest s
effect Exit line rest s = exit_line rest s
effect End line rest s = end_line rest s
effect ExitFamily line rest s = exit_family_line rest s
effect NoEffect line rest s = Ok s
