-- What each row may be refused for: never for the text, the length or the head of a line.
use Rattle.std.proofs.Common.{ℕ, ◌≡◌, ◌⊎◌, ◌<◌, ◌==◌, Bool, true, false, List, length, nat_lt, Option, Some, None, Result, Ok, Err, MatchResult, slice_get, is_some, option_and_then, if◌then◌else◌, inl, inr, refl, ◌∙◌, ap, arith, cond, IsSomeAnd}
use Rattle.std.specs.List.{list_any, position_or_len}
use Rattle.std.proofs.lemmas.Bool.Decides.{nat_tests}
use Rattle.net_types.specs.Prefixes.{same_prefix}
use Rattle.net_types.specs.declared.config.Interface.{Interface}
use Rattle.net_types.specs.declared.config.BgpConfig.{BgpConfig}
use Rattle.net_types.specs.declared.config.Neighbor.{Neighbor}
use Rattle.frr_policy.specs.declared.refusals.LineRefusal.{LineRefusal as PolicyRefusal}
use Rattle.frr_policy.specs.declared.refusals.LineRefusal.TheVariants.{Unsupported as PolicyUnsupported, OutOfPlace as PolicyOutOfPlace, BadValue as PolicyBadValue, Repeated as PolicyRepeated, OutOfLimit as PolicyOutOfLimit, NoMemory as PolicyNoMemory}
use Rattle.frr_policy.specs.PrefixLines.{prefix_list_row}
use Rattle.frr_policy.specs.CommunityLines.{community_list_row}
use Rattle.frr_policy.specs.MapLines.{map_table, map_line, behind as map_behind}
use Rattle.frr_policy.specs.Laws.{HasNoHead, begins_head}
use Rattle.frr_policy.proofs.RefusalLemmas.{OfRest, prefix_row_rest, community_row_rest, is_refused_map_line}
use Rattle.frr_reader.specs.declared.causes.Cause.{Cause}
use Rattle.frr_reader.specs.declared.causes.Cause.TheVariants.{NotText, LineTooLong, Unsupported, OutOfPlace, BadValue, Repeated, OutOfLimit}
use Rattle.frr_reader.specs.declared.modes.Mode.TheVariants.{InBgp, InFamily}
use Rattle.frr_reader.specs.declared.rows.BgpRow.{BgpRow}
use Rattle.frr_reader.specs.declared.rows.BgpRow.TheVariants.{NoPolicy, RemoteAs, NeighborMap, BgpNetwork, Connected, FromOspf, OfNeighbor}
use Rattle.frr_reader.specs.declared.rows.Row.{Row}
use Rattle.frr_reader.specs.declared.rows.Row.TheVariants.{HostName, OpenInterface, OpenBgp, OpenOspf, PrefixListLine, CommunityListLine, MapLine, Address, Area, Cost, Shutdown, OspfNetwork, OfBgp, OpenFamily, Exit, End, ExitFamily, NoEffect}
use Rattle.frr_policy.specs.Values.{name_of, masked_prefix_of}
use Rattle.frr_reader.specs.Values.{one, host_of, as_of, interface_address_of, area_of, cost_of, network_of, is_nothing, is_unicast}
use Rattle.frr_reader.specs.Answers.{needs, needs_before, unless_set, alone, and_then, by_policy}
use Rattle.frr_reader.specs.State.{State}
use Rattle.frr_reader.specs.Bgp.{address_in, named_neighbor, other_as, place_of_neighbor, map_and_direction, map_in, with_map_at, redistribution, is_redistributed, no_policy_line, remote_as_line, neighbor_map_line, bgp_network_line, connected_line, from_ospf_line, of_neighbor_line, bgp_effect}
use Rattle.frr_reader.specs.Effects.{on_open, host_line, interface_line, address_line, area_line, cost_line, shutdown_line, ospf_line, network_line, with_bgp, bgp_line, by_bgp, of_bgp_line, family_line, prefix_list_line, community_list_line, open_entry, map_row_line, exit_line, end_line, exit_family_line, effect}
use Rattle.frr_reader.specs.LineLaws.{is_map_line}
use Rattle.frr_reader.proofs.StateLemmas.{first_passes}

-- a cause that a row may have, which is out of place only if this holds
abbrev pub IsRowCause : Type 0 → Cause → Type 0
IsRowCause Q NotText = ⊥
IsRowCause Q LineTooLong = ⊥
IsRowCause Q Unsupported = ⊥
IsRowCause Q OutOfPlace = Q
IsRowCause Q BadValue = Unit {0}
IsRowCause Q Repeated = Unit {0}
IsRowCause Q OutOfLimit = Unit {0}

abbrev pub OfRow : {A : Type 0} → Type 0 → Result A Cause → Type 0
OfRow Q r = MatchResult r (λ _. Unit {0}) (IsRowCause Q)

needs_row : {A B : Type 0} (Q : Type 0) (o : Option A) (next : A → Result B Cause) → ((x : A) → OfRow Q (next x)) → OfRow Q (needs o next)
needs_row Q None next h = tt
needs_row Q (Some x) next h = h x

needs_before_row : {A B : Type 0} (Q : Type 0) (o : Option A) (next : A → Result B Cause) → (o ≡ None → Q) → ((x : A) → o ≡ Some x → OfRow Q (next x)) → OfRow Q (needs_before o next)
needs_before_row Q None next h k = h refl
needs_before_row Q (Some x) next h k = k x refl

unless_row : {A : Type 0} (Q : Type 0) (b : Bool) (x : A) → OfRow Q (unless_set b x)
unless_row Q true x = tt
unless_row Q false x = tt

alone_row : {A : Type 0} (Q : Type 0) (rest : List (List ℕ)) (x : A) → OfRow Q (alone rest x)
alone_row {A} Q rest x = go (is_nothing rest) where
  go : (b : Bool) → OfRow {A = A} Q (if b then Ok x else Err BadValue)
  go true = tt
  go false = tt

if_row : {A : Type 0} (Q : Type 0) (b : Bool) (r : Result A Cause) → OfRow Q r → OfRow Q (if b then r else Err BadValue)
if_row Q true r h = h
if_row Q false r h = tt

and_then_row : {A B : Type 0} (Q : Type 0) (r : Result A Cause) (next : A → Result B Cause) → OfRow Q r → ((x : A) → OfRow Q (next x)) → OfRow Q (and_then r next)
and_then_row Q (Ok x) next h k = k x
and_then_row Q (Err cause) next h k = h

by_policy_row : {A : Type 0} (Q : Type 0) (r : Result A PolicyRefusal) → (r ≡ Err PolicyUnsupported → ⊥) → (r ≡ Err PolicyOutOfPlace → Q) → (r ≡ Err PolicyNoMemory → ⊥) → OfRow Q (by_policy r)
by_policy_row Q (Ok x) h k m = tt
by_policy_row Q (Err PolicyUnsupported) h k m = absurd (h refl)
by_policy_row Q (Err PolicyOutOfPlace) h k m = k refl
by_policy_row Q (Err PolicyBadValue) h k m = tt
by_policy_row Q (Err PolicyRepeated) h k m = tt
by_policy_row Q (Err PolicyOutOfLimit) h k m = tt
by_policy_row Q (Err PolicyNoMemory) h k m = absurd (m refl)

of_rest_row : {A : Type 0} (Q : Type 0) (r : Result A PolicyRefusal) → OfRest r → OfRow Q (by_policy r)
of_rest_row Q (Ok x) h = tt
of_rest_row Q (Err PolicyUnsupported) h = absurd h
of_rest_row Q (Err PolicyOutOfPlace) h = absurd h
of_rest_row Q (Err PolicyBadValue) h = tt
of_rest_row Q (Err PolicyRepeated) h = tt
of_rest_row Q (Err PolicyOutOfLimit) h = tt
of_rest_row Q (Err PolicyNoMemory) h = absurd h

-- another reason to be out of place
other_reason : {A : Type 0} (Q R : Type 0) (r : Result A Cause) → (Q → R) → OfRow Q r → OfRow R r
other_reason Q R (Ok x) f h = tt
other_reason Q R (Err NotText) f h = h
other_reason Q R (Err LineTooLong) f h = h
other_reason Q R (Err Unsupported) f h = h
other_reason Q R (Err OutOfPlace) f h = f h
other_reason Q R (Err BadValue) f h = tt
other_reason Q R (Err Repeated) f h = tt
other_reason Q R (Err OutOfLimit) f h = tt

-- rows of BGP

no_policy_row : (rest : List (List ℕ)) (b : BgpConfig) → OfRow ⊥ (no_policy_line rest b)
unfolding no_policy_line
no_policy_row rest b = alone_row ⊥ rest _

remote_as_row : (line rest : List (List ℕ)) (b : BgpConfig) → OfRow ⊥ (remote_as_line line rest b)
unfolding remote_as_line
remote_as_row line rest b = needs_row ⊥ (address_in line) _ (λ address. needs_row ⊥ (option_and_then (other_as b.asn) (one as_of rest)) _ (λ asn. unless_row ⊥ (is_some (place_of_neighbor address b.neighbors)) _))

-- the neighbor that a line names is there
neighbor_there : (address : ℕ) (ns : List Neighbor) (place : ℕ) → place_of_neighbor address ns ≡ Some place → slice_get ns place ≡ None → ⊥
neighbor_there address ns place e f = go (nat_lt p (length ns)) refl e where
  p : ℕ
  p = position_or_len (λ (n : Neighbor). n.address == address) ns

  absent : (o : Option Neighbor) → IsSomeAnd o (λ (n : Neighbor). (n.address == address) ≡ true) → o ≡ None → ⊥
  absent None h k = h
  absent (Some n) h k = cc

  go : (b : Bool) → nat_lt (position_or_len (λ (n : Neighbor). n.address == address) ns) (length ns) ≡ b → cond b (Some (position_or_len (λ (n : Neighbor). n.address == address) ns)) None ≡ Some place → ⊥
  go true h k =
      let l : position_or_len (λ (n : Neighbor). n.address == address) ns < length ns = grind (arith, nat_tests) in
      let q : position_or_len (λ (n : Neighbor). n.address == address) ns ≡ place = cc in
      absent _ (first_passes (λ (n : Neighbor). n.address == address) ns l) (ap (slice_get ns) q ∙ f)
  go false h k = absurd (cc)

named_there : (line : List (List ℕ)) (b : BgpConfig) (place : ℕ) → named_neighbor line b ≡ Some place → slice_get b.neighbors place ≡ None → ⊥
named_there line b place e f = go (address_in line) e where
  go : (o : Option ℕ) → option_and_then (λ address. place_of_neighbor address b.neighbors) o ≡ Some place → ⊥
  go None g = absurd (cc)
  go (Some address) g = neighbor_there address b.neighbors place g f

neighbor_map_row : (line rest : List (List ℕ)) (b : BgpConfig) → OfRow (named_neighbor line b ≡ None) (neighbor_map_line line rest b)
unfolding neighbor_map_line
neighbor_map_row line rest b = needs_before_row (named_neighbor line b ≡ None) (named_neighbor line b) _ (λ e. e) (λ place e. needs_row (named_neighbor line b ≡ None) (map_and_direction rest) _ (λ m. needs_before_row (named_neighbor line b ≡ None) (slice_get b.neighbors place) (with_map_at b place m) (λ f. absurd (named_there line b place e f)) (λ n _. unless_row (named_neighbor line b ≡ None) (is_some (map_in m.1 n)) _)))

bgp_network_row : (rest : List (List ℕ)) (b : BgpConfig) → OfRow ⊥ (bgp_network_line rest b)
unfolding bgp_network_line
bgp_network_row rest b = needs_row ⊥ (one masked_prefix_of rest) _ (λ prefix. unless_row ⊥ (list_any (λ p. same_prefix p prefix) b.networks) _)

connected_row : (rest : List (List ℕ)) (b : BgpConfig) → OfRow ⊥ (connected_line rest b)
unfolding connected_line
connected_row rest b = needs_row ⊥ (redistribution rest) _ (λ r. unless_row ⊥ (is_redistributed b.connected) _)

from_ospf_row : (rest : List (List ℕ)) (b : BgpConfig) → OfRow ⊥ (from_ospf_line rest b)
unfolding from_ospf_line
from_ospf_row rest b = needs_row ⊥ (redistribution rest) _ (λ r. unless_row ⊥ (is_redistributed b.ospf) _)

of_neighbor_row : (line : List (List ℕ)) (b : BgpConfig) → OfRow (named_neighbor line b ≡ None) (of_neighbor_line line b)
unfolding of_neighbor_line
of_neighbor_row line b = needs_before_row (named_neighbor line b ≡ None) (named_neighbor line b) _ (λ e. e) (λ place _. tt)

-- why a row of BGP is out of place
abbrev pub BgpOut : BgpRow → List (List ℕ) → BgpConfig → Type 0
BgpOut NoPolicy line b = ⊥
BgpOut RemoteAs line b = ⊥
BgpOut NeighborMap line b = named_neighbor line b ≡ None
BgpOut BgpNetwork line b = ⊥
BgpOut Connected line b = ⊥
BgpOut FromOspf line b = ⊥
BgpOut OfNeighbor line b = named_neighbor line b ≡ None

bgp_effect_row : (row : BgpRow) (line rest : List (List ℕ)) (b : BgpConfig) → OfRow (BgpOut row line b) (bgp_effect row line rest b)
unfolding bgp_effect
bgp_effect_row NoPolicy line rest b = no_policy_row rest b
bgp_effect_row RemoteAs line rest b = remote_as_row line rest b
bgp_effect_row NeighborMap line rest b = neighbor_map_row line rest b
bgp_effect_row BgpNetwork line rest b = bgp_network_row rest b
bgp_effect_row Connected line rest b = connected_row rest b
bgp_effect_row FromOspf line rest b = from_ospf_row rest b
bgp_effect_row OfNeighbor line rest b = of_neighbor_row line b

-- the other rows

-- why a row is out of place: what its block is of is not there, or its neighbor's `remote-as`
abbrev pub OutIf : Row → List (List ℕ) → State → Type 0
OutIf HostName line s = ⊥
OutIf OpenInterface line s = ⊥
OutIf OpenBgp line s = ⊥
OutIf OpenOspf line s = ⊥
OutIf PrefixListLine line s = ⊥
OutIf CommunityListLine line s = ⊥
OutIf MapLine line s = (open_entry s ≡ None) × (map_behind begins_head line ≡ None)
OutIf Address line s = slice_get s.interfaces s.open_place ≡ None
OutIf Area line s = slice_get s.interfaces s.open_place ≡ None
OutIf Cost line s = slice_get s.interfaces s.open_place ≡ None
OutIf Shutdown line s = slice_get s.interfaces s.open_place ≡ None
OutIf OspfNetwork line s = ⊥
OutIf (OfBgp row) line s = (s.bgp ≡ None) ⊎ ((b : BgpConfig) × (s.bgp ≡ Some b) × BgpOut row line b)
OutIf OpenFamily line s = s.bgp ≡ None
OutIf Exit line s = ⊥
OutIf End line s = ⊥
OutIf ExitFamily line s = s.bgp ≡ None
OutIf NoEffect line s = ⊥

on_open_row : (s : State) (next : Interface → Result State Cause) → ((i : Interface) → OfRow (slice_get s.interfaces s.open_place ≡ None) (next i)) → OfRow (slice_get s.interfaces s.open_place ≡ None) (on_open s next)
on_open_row s next h = needs_before_row (slice_get s.interfaces s.open_place ≡ None) (slice_get s.interfaces s.open_place) next (λ e. e) (λ i _. h i)

host_row : (rest : List (List ℕ)) (s : State) → OfRow ⊥ (host_line rest s)
unfolding host_line
host_row rest s = needs_row ⊥ (one host_of rest) _ (λ host. unless_row ⊥ (is_some s.host) _)

interface_row : (rest : List (List ℕ)) (s : State) → OfRow ⊥ (interface_line rest s)
unfolding interface_line
interface_row rest s = needs_row ⊥ (one name_of rest) _ (λ name. tt)

address_row : (rest : List (List ℕ)) (s : State) → OfRow (slice_get s.interfaces s.open_place ≡ None) (address_line rest s)
unfolding address_line
address_row rest s = needs_row (slice_get s.interfaces s.open_place ≡ None) (one interface_address_of rest) _ (λ a. on_open_row s _ (λ i. unless_row (slice_get s.interfaces s.open_place ≡ None) (is_some i.address) _))

area_row : (rest : List (List ℕ)) (s : State) → OfRow (slice_get s.interfaces s.open_place ≡ None) (area_line rest s)
unfolding area_line
area_row rest s = needs_row (slice_get s.interfaces s.open_place ≡ None) (one area_of rest) _ (λ _. on_open_row s _ (λ i. unless_row (slice_get s.interfaces s.open_place ≡ None) i.ospf _))

cost_row : (rest : List (List ℕ)) (s : State) → OfRow (slice_get s.interfaces s.open_place ≡ None) (cost_line rest s)
unfolding cost_line
cost_row rest s = needs_row (slice_get s.interfaces s.open_place ≡ None) (one cost_of rest) _ (λ c. on_open_row s _ (λ i. unless_row (slice_get s.interfaces s.open_place ≡ None) (is_some i.cost) _))

shutdown_row : (rest : List (List ℕ)) (s : State) → OfRow (slice_get s.interfaces s.open_place ≡ None) (shutdown_line rest s)
unfolding shutdown_line
shutdown_row rest s = if_row (slice_get s.interfaces s.open_place ≡ None) (is_nothing rest) _ (on_open_row s _ (λ i. tt))

ospf_row : (rest : List (List ℕ)) (s : State) → OfRow ⊥ (ospf_line rest s)
unfolding ospf_line
ospf_row rest s = alone_row ⊥ rest _

network_row : (rest : List (List ℕ)) (s : State) → OfRow ⊥ (network_line rest s)
unfolding network_line
network_row rest s = needs_row ⊥ (network_of rest) _ (λ prefix. tt)

with_bgp_row : (asn : ℕ) (o : Option BgpConfig) (s : State) → OfRow ⊥ (with_bgp asn o s)
with_bgp_row asn None s = tt
with_bgp_row asn (Some b) s = go (b.asn == asn) where
  go : (c : Bool) → OfRow {A = State} ⊥ (if c then Ok (record s { mode = InBgp }) else Err Repeated)
  go true = tt
  go false = tt

bgp_row : (rest : List (List ℕ)) (s : State) → OfRow ⊥ (bgp_line rest s)
unfolding bgp_line
bgp_row rest s = needs_row ⊥ (one as_of rest) _ (λ asn. with_bgp_row asn s.bgp s)

of_bgp_row : (row : BgpRow) (line rest : List (List ℕ)) (s : State) → OfRow (OutIf (OfBgp row) line s) (of_bgp_line row line rest s)
unfolding of_bgp_line by_bgp
of_bgp_row row line rest s = and_then_row (OutIf (OfBgp row) line s) _ _ (needs_before_row (OutIf (OfBgp row) line s) s.bgp _ (λ e. inl e) (λ b e. and_then_row (OutIf (OfBgp row) line s) (bgp_effect row line rest b) _ (other_reason (BgpOut row line b) (OutIf (OfBgp row) line s) (bgp_effect row line rest b) (λ o. inr (b, e, o)) (bgp_effect_row row line rest b)) (λ new. tt))) (λ t. tt)

family_row : (rest : List (List ℕ)) (s : State) → OfRow (s.bgp ≡ None) (family_line rest s)
unfolding family_line
family_row rest s = needs_before_row (s.bgp ≡ None) s.bgp _ (λ e. e) (λ _ _. if_row (s.bgp ≡ None) (is_unicast rest) (Ok (record s { mode = InFamily })) tt)

exit_family_row : (rest : List (List ℕ)) (s : State) → OfRow (s.bgp ≡ None) (exit_family_line rest s)
unfolding exit_family_line
exit_family_row rest s = needs_before_row (s.bgp ≡ None) s.bgp _ (λ e. e) (λ _ _. alone_row (s.bgp ≡ None) rest _)

prefix_list_refusal : (rest : List (List ℕ)) (s : State) → OfRow ⊥ (prefix_list_line rest s)
unfolding prefix_list_line
prefix_list_refusal rest s = and_then_row ⊥ (by_policy (prefix_list_row rest s.prefix_lists)) _ (of_rest_row ⊥ (prefix_list_row rest s.prefix_lists) (prefix_row_rest rest s.prefix_lists)) (λ r. tt)

community_list_refusal : (rest : List (List ℕ)) (s : State) → OfRow ⊥ (community_list_line rest s)
unfolding community_list_line
community_list_refusal rest s = and_then_row ⊥ (by_policy (community_list_row rest s.community_lists)) _ (of_rest_row ⊥ (community_list_row rest s.community_lists) (community_row_rest rest s.community_lists)) (λ r. tt)

map_refusal : (line : List (List ℕ)) (s : State) → (HasNoHead map_table line → ⊥) → OfRow (OutIf MapLine line s) (map_row_line line s)
unfolding map_row_line
map_refusal line s h =
    let law = is_refused_map_line line s.maps (open_entry s) in
    and_then_row (OutIf MapLine line s) (by_policy (map_line line s.maps (open_entry s))) _ (by_policy_row (OutIf MapLine line s) (map_line line s.maps (open_entry s)) (λ e. h (law.unsupported.0 e)) (λ e. let o = law.out_of_place.0 e in (o.0, o.1.0)) law.memory) (λ m. tt)

exit_row : (rest : List (List ℕ)) (s : State) → OfRow ⊥ (exit_line rest s)
unfolding exit_line
exit_row rest s = alone_row ⊥ rest _

end_row : (rest : List (List ℕ)) (s : State) → OfRow ⊥ (end_line rest s)
unfolding end_line
end_row rest s = alone_row ⊥ rest _

pub effect_row : (row : Row) (line rest : List (List ℕ)) (s : State) → (is_map_line row ≡ true → HasNoHead map_table line → ⊥) → OfRow (OutIf row line s) (effect row line rest s)
unfolding effect
effect_row HostName line rest s h = host_row rest s
effect_row OpenInterface line rest s h = interface_row rest s
effect_row OpenBgp line rest s h = bgp_row rest s
effect_row OpenOspf line rest s h = ospf_row rest s
effect_row PrefixListLine line rest s h = prefix_list_refusal rest s
effect_row CommunityListLine line rest s h = community_list_refusal rest s
effect_row MapLine line rest s h = map_refusal line s (h refl)
effect_row Address line rest s h = address_row rest s
effect_row Area line rest s h = area_row rest s
effect_row Cost line rest s h = cost_row rest s
effect_row Shutdown line rest s h = shutdown_row rest s
effect_row OspfNetwork line rest s h = network_row rest s
effect_row (OfBgp row) line rest s h = of_bgp_row row line rest s
effect_row OpenFamily line rest s h = family_row rest s
effect_row Exit line rest s h = exit_row rest s
effect_row End line rest s h = end_row rest s
effect_row ExitFamily line rest s h = exit_family_row rest s
effect_row NoEffect line rest s h = tt
