-- The policies of sessions and of redistribution name maps of their router.
use Rattle.std.proofs.Common.{ℕ, zero, suc, Bool, true, false, cond, List, [], ◌∷◌, length, Option, Some, None}
use Rattle.std.specs.List.{AllByRecursion, find, slice_get}
use Rattle.std.specs.Option.{IfSome, option_map, option_and_then, option_map_or}
use Rattle.std.proofs.lemmas.List.Elements.{recursion_from_All}
use Rattle.net_types.specs.ConfigFacts.{IsConfig, IsBgp, IsNeighbor, IsDefined, IsRedistribute, has_map}
use Rattle.net_types.specs.NetFacts.{IsPolicy}
use Rattle.net_types.specs.declared.config.RouterConfig.{RouterConfig}
use Rattle.net_types.specs.declared.config.BgpConfig.{BgpConfig}
use Rattle.net_types.specs.declared.config.Neighbor.{Neighbor}
use Rattle.net_types.specs.declared.config.RouteMap.{RouteMap}
use Rattle.net_types.specs.declared.config.Redistribute.{Redistribute}
use Rattle.net_types.specs.declared.config.Redistribute.TheVariants.{No, Plain, By}
use Rattle.net_types.specs.Order.{same_text}
use Rattle.topology.specs.declared.interfaces.Port.{Port}
use Rattle.topology.specs.declared.sessions.Side.{Side}
use Rattle.topology.specs.Sessions.{is_for, without_map, policy_of, side_by, side_for, asn_at, side_at, redistribution, connected_of, ospf_of}
use Rattle.topology.proofs.ResolveLemmas.{place-within}

-- both policies of a side name maps, of which there are so many
pub record IsSide (count : ℕ) (side : Side) : Type 0 where
  pub «import» : IsPolicy count side.import
  pub «export» : IsPolicy count side.export

IsPolicy-without_map : (count : ℕ) (needs : Bool) → IsPolicy count (without_map needs)
IsPolicy-without_map count true = tt
IsPolicy-without_map count false = tt

IsPolicy-policy_of : (config : RouterConfig) (needs : Bool) (name : Option (List ℕ)) → IsDefined (has_map config) name → IsPolicy (length config.maps) (policy_of config.maps needs name)
IsPolicy-policy_of config needs None h = IsPolicy-without_map (length config.maps) needs
IsPolicy-policy_of config needs (Some n) h = place-within (λ (m : RouteMap). same_text m.name n) config.maps h

IsPolicy-redistribution : (config : RouterConfig) (redistribute : Redistribute) → IsRedistribute config redistribute → IsPolicy (length config.maps) (redistribution config.maps redistribute)
IsPolicy-redistribution config No h = tt
IsPolicy-redistribution config Plain h = tt
IsPolicy-redistribution config (By n) h = place-within (λ (m : RouteMap). same_text m.name n) config.maps h

pub IsPolicy-connected_of : (config : RouterConfig) (bgp : Option BgpConfig) → IfSome bgp (λ b. IsBgp config b) → IsPolicy (length config.maps) (connected_of config bgp)
IsPolicy-connected_of config None h = tt
IsPolicy-connected_of config (Some b) h = IsPolicy-redistribution config b.connected h.connected

pub IsPolicy-ospf_of : (config : RouterConfig) (bgp : Option BgpConfig) → IfSome bgp (λ b. IsBgp config b) → IsPolicy (length config.maps) (ospf_of config bgp)
IsPolicy-ospf_of config None h = tt
IsPolicy-ospf_of config (Some b) h = IsPolicy-redistribution config b.ospf h.ospf

IsSide-side_by : (config : RouterConfig) (needs : Bool) (neighbor : Neighbor) → IsNeighbor config neighbor → IsSide (length config.maps) (side_by config.maps needs neighbor)
IsSide-side_by config needs neighbor n = record { «import» = IsPolicy-policy_of config needs neighbor.import n.import; «export» = IsPolicy-policy_of config needs neighbor.export n.export }

-- what is true of each item is true of the one that is found
pub All-find : {A : Type 0} (p : A → Bool) (P : A → Type 0) (xs : List A) → AllByRecursion P xs → IfSome (find p xs) P
All-find p P [] a = tt
All-find {A = A} p P (x ∷ xs) a = go (p x) (All-find p P xs a.1) where
  go : (b : Bool) → IfSome (find p xs) P → IfSome (cond b (Some x) (find p xs)) P
  go true i = a.0
  go false i = i

IsSide-line : (config : RouterConfig) (needs : Bool) (line : Option Neighbor) → IfSome line (IsNeighbor config) → IfSome (option_map (λ neighbor. side_by config.maps needs neighbor) line) (IsSide (length config.maps))
IsSide-line config needs None h = tt
IsSide-line config needs (Some neighbor) h = IsSide-side_by config needs neighbor h

IsSide-side_for : (config : RouterConfig) (address asn : ℕ) → IsConfig config → IfSome (side_for config address asn) (IsSide (length config.maps))
IsSide-side_for config address asn c = go config.bgp c.bgp where
  go : (bgp : Option BgpConfig) → IfSome bgp (λ b. IsBgp config b) → IfSome (option_and_then (λ (b : BgpConfig). option_map (λ neighbor. side_by config.maps b.needs_policy neighbor) (find (λ neighbor. is_for address asn neighbor) b.neighbors)) bgp) (IsSide (length config.maps))
  go None h = tt
  go (Some b) h = IsSide-line config b.needs_policy (find (λ neighbor. is_for address asn neighbor) b.neighbors) (All-find (λ neighbor. is_for address asn neighbor) (IsNeighbor config) b.neighbors (recursion_from_All (IsNeighbor config) b.neighbors h.neighbors))

-- how many maps the configuration of a router has
abbrev pub maps_at : List RouterConfig → ℕ → ℕ
maps_at configs router = option_map_or (λ (config : RouterConfig). length config.maps) (slice_get configs router) 0

pub at-place : {A : Type 0} (P : A → Type 0) (xs : List A) (k : ℕ) → AllByRecursion P xs → IfSome (slice_get xs k) P
at-place P [] k a = tt
at-place P (x ∷ xs) zero a = a.0
at-place P (x ∷ xs) (suc k) a = at-place P xs k a.1

pub IsSide-side_at : (configs : List RouterConfig) (here there : Port) → AllByRecursion IsConfig configs → IfSome (side_at configs here there) (IsSide (maps_at configs here.router))
IsSide-side_at configs here there a = go (asn_at configs there.router) (slice_get configs here.router) (at-place IsConfig configs here.router a) where
  go : (asn : Option ℕ) (config : Option RouterConfig) → IfSome config IsConfig → IfSome (option_and_then (λ n. option_and_then (λ c. side_for c there.address n) config) asn) (IsSide (option_map_or (λ (c : RouterConfig). length c.maps) config 0))
  go None config h = tt
  go (Some n) None h = tt
  go (Some n) (Some c) h = IsSide-side_for c there.address n h
