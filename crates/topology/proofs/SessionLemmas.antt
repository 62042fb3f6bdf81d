-- A link is a session exactly where each end's router has a neighbor line for the other.
use Rattle.std.proofs.Common.{ℕ, ◌≡◌, ◌+◌, ◌==◌, ◌&&◌, true, List, refl, ap, sym, ◌∙◌, arith, All, Option, Some, None}
use Rattle.std.specs.List.{find, slice_get}
use Rattle.std.specs.Option.{option_map, option_and_then}
use Rattle.std.proofs.lemmas.Bool.{false≢true}
use Rattle.std.proofs.lemmas.Bool.Decides.{nat_tests}
use Rattle.std.proofs.lemmas.List.Elements.{All-from_recursion, recursion_from_All}
use Rattle.net_types.specs.declared.config.RouterConfig.{RouterConfig}
use Rattle.net_types.specs.declared.config.BgpConfig.{BgpConfig}
use Rattle.net_types.specs.declared.config.Neighbor.{Neighbor}
use Rattle.net_types.specs.declared.network.End.{End}
use Rattle.net_types.specs.declared.network.Link.{Link}
use Rattle.topology.specs.declared.interfaces.Port.{Port}
use Rattle.topology.specs.declared.groups.Wire.{Wire}
use Rattle.topology.specs.declared.sessions.Side.{Side}
use Rattle.topology.specs.Live.{asn_of, in_order, ports}
use Rattle.topology.specs.Groups.{wires}
use Rattle.topology.specs.Communities.{communities}
use Rattle.topology.specs.Sessions.{is_for, side_by, side_for, asn_at, side_at, no_side}
use Rattle.topology.specs.Links.{end_of, joined_by, link_of, links_of}
use Rattle.topology.specs.Routers.{router_of}
use Rattle.topology.specs.Network.{net_of}
use Rattle.topology.specs.Meaning.{HasLineFor, IsSessionByLines, HasPolicies, IsClosed, HasSides, HasAsn, SessionsHaveAsns}
use Rattle.topology.proofs.RisingLemmas.{AllByRecursion-weaker, All-map, every}
use Rattle.topology.proofs.MemberLemmas.{Contains-from_In, In-from_Contains, from-find, find-some}
use Rattle.topology.proofs.RouterLemmas.{router-at}

none_some : {A R : Type 0} (x : A) → None ≡ Some x → R
none_some x e = absurd (false≢true cc)

first : (a b c d : ℕ) → ((a == b) && (c == d)) ≡ true → a ≡ b
first a b c d h = grind (arith, nat_tests)

second : (a b c d : ℕ) → ((a == b) && (c == d)) ≡ true → c ≡ d
second a b c d h = grind (arith, nat_tests)

both : (a b c d : ℕ) → a ≡ b → c ≡ d → ((a == b) && (c == d)) ≡ true
both a b c d h k = grind (arith, nat_tests)

same_side : (a b : Side) → Some a ≡ Some b → a ≡ b
same_side a b e = cc

-- a side comes of a neighbor line
line-found : (configs : List RouterConfig) (here there : Port) (s u : Side) → side_at configs here there ≡ Some s → HasPolicies configs (end_of here s) (end_of there u)
line-found configs here there s u h = there-at (slice_get configs there.router) refl h where
  line-at : (config other : RouterConfig) (n : ℕ) (bgp : BgpConfig) (line : Option Neighbor) → slice_get configs here.router ≡ Some config → slice_get configs there.router ≡ Some other → asn_of other ≡ Some n → config.bgp ≡ Some bgp → find (λ neighbor. is_for there.address n neighbor) bgp.neighbors ≡ line → option_map (λ neighbor. side_by config.maps bgp.needs_policy neighbor) line ≡ Some s → HasPolicies configs (end_of here s) (end_of there u)
  line-at config other n bgp None e f a r q g = none_some s g
  line-at config other n bgp (Some nb) e f a r q g =
      let w = from-find (λ neighbor. is_for there.address n neighbor) nb bgp.neighbors q in
      let is = same_side (side_by config.maps bgp.needs_policy nb) s g in
      record {
        by = record {
          config = config;
          other = other;
          config_at = e;
          other_at = f;
          bgp = bgp;
          runs = r;
          neighbor = nb;
          line = Contains-from_In nb bgp.neighbors w.0;
          address = first nb.address there.address nb.asn n w.1;
          asn = a ∙ ap (λ m. Some m) (sym (second nb.address there.address nb.asn n w.1));
        };
        «import» = sym (ap (λ (d : Side). d.import) is);
        «export» = sym (ap (λ (d : Side). d.export) is);
      }

  bgp-at : (config other : RouterConfig) (n : ℕ) (bgp : Option BgpConfig) → slice_get configs here.router ≡ Some config → slice_get configs there.router ≡ Some other → asn_of other ≡ Some n → config.bgp ≡ bgp → option_and_then (λ (b : BgpConfig). option_map (λ neighbor. side_by config.maps b.needs_policy neighbor) (find (λ neighbor. is_for there.address n neighbor) b.neighbors)) bgp ≡ Some s → HasPolicies configs (end_of here s) (end_of there u)
  bgp-at config other n None e f a r g = none_some s g
  bgp-at config other n (Some b) e f a r g = line-at config other n b (find (λ neighbor. is_for there.address n neighbor) b.neighbors) e f a r refl g

  here-at : (other : RouterConfig) (n : ℕ) (here_config : Option RouterConfig) → slice_get configs here.router ≡ here_config → slice_get configs there.router ≡ Some other → asn_of other ≡ Some n → option_and_then (λ config. side_for config there.address n) here_config ≡ Some s → HasPolicies configs (end_of here s) (end_of there u)
  here-at other n None e f a g = none_some s g
  here-at other n (Some config) e f a g = bgp-at config other n config.bgp e f a refl g

  asn-is : (other : RouterConfig) (asn : Option ℕ) → slice_get configs there.router ≡ Some other → asn_of other ≡ asn → option_and_then (λ n. option_and_then (λ config. side_for config there.address n) (slice_get configs here.router)) asn ≡ Some s → HasPolicies configs (end_of here s) (end_of there u)
  asn-is other None f a g = none_some s g
  asn-is other (Some n) f a g = here-at other n (slice_get configs here.router) refl f a g

  there-at : (there_config : Option RouterConfig) → slice_get configs there.router ≡ there_config → option_and_then (λ n. option_and_then (λ config. side_for config there.address n) (slice_get configs here.router)) (option_and_then (λ config. asn_of config) there_config) ≡ Some s → HasPolicies configs (end_of here s) (end_of there u)
  there-at None f g = none_some s g
  there-at (Some other) f g = asn-is other (asn_of other) f refl g

-- where there is a line there is a side
side-found : (configs : List RouterConfig) (here there : Port) (t u : Side) → HasLineFor configs (end_of here t) (end_of there u) → (s : Side) × (side_at configs here there ≡ Some s)
side-found configs here there t u h =
    let n = h.neighbor.asn in
    let w = find-some (λ neighbor. is_for there.address n neighbor) h.neighbor h.bgp.neighbors (In-from_Contains h.neighbor h.bgp.neighbors h.line) (both h.neighbor.address there.address n n h.address refl) in
    let asn : asn_at configs there.router ≡ Some n = ap (λ o. option_and_then (λ config. asn_of config) o) h.other_at ∙ h.asn in
    let step : side_at configs here there ≡ option_and_then (λ config. side_for config there.address n) (slice_get configs here.router) = ap (λ o. option_and_then (λ m. option_and_then (λ config. side_for config there.address m) (slice_get configs here.router)) o) asn in
    let at : option_and_then (λ config. side_for config there.address n) (slice_get configs here.router) ≡ side_for h.config there.address n = ap (λ o. option_and_then (λ config. side_for config there.address n) o) h.config_at in
    let by : side_for h.config there.address n ≡ option_map (λ neighbor. side_by h.config.maps h.bgp.needs_policy neighbor) (find (λ neighbor. is_for there.address n neighbor) h.bgp.neighbors) = ap (λ o. option_and_then (λ (b : BgpConfig). option_map (λ neighbor. side_by h.config.maps b.needs_policy neighbor) (find (λ neighbor. is_for there.address n neighbor) b.neighbors)) o) h.runs in
    (side_by h.config.maps h.bgp.needs_policy w.0, step ∙ at ∙ by ∙ ap (λ o. option_map (λ neighbor. side_by h.config.maps h.bgp.needs_policy neighbor) o) w.1)

no-line : (configs : List RouterConfig) (here there : Port) (t u : Side) → side_at configs here there ≡ None → HasLineFor configs (end_of here t) (end_of there u) → ⊥
no-line configs here there t u e h = let w = side-found configs here there t u h in none_some w.0 (sym e ∙ w.1)

IsSessionByLines-link_of : (configs : List RouterConfig) (wire : Wire) → IsSessionByLines configs (link_of configs wire)
IsSessionByLines-link_of configs wire = go (side_at configs wire.low wire.high) refl (side_at configs wire.high wire.low) refl where
  go : (a : Option Side) → side_at configs wire.low wire.high ≡ a → (b : Option Side) → side_at configs wire.high wire.low ≡ b → IsSessionByLines configs (joined_by wire a b)
  go None e b f = (λ h. absurd (false≢true h), λ p. absurd (no-line configs wire.low wire.high no_side no_side e p.0))
  go (Some s) e None f = (λ h. absurd (false≢true h), λ p. absurd (no-line configs wire.high wire.low no_side no_side f p.1))
  go (Some s) e (Some t) f = (λ h. ((line-found configs wire.low wire.high s t e).by, (line-found configs wire.high wire.low t s f).by), λ p. refl)

pub sessions-links_of : (configs : List RouterConfig) (wires : List Wire) → All (IsSessionByLines configs) (links_of configs wires)
sessions-links_of configs wires =
    All-from_recursion (IsSessionByLines configs) (links_of configs wires)
    (All-map (λ wire. link_of configs wire) (IsSessionByLines configs) wires
    (AllByRecursion-weaker (λ _. Unit {0}) (λ wire. IsSessionByLines configs (link_of configs wire)) (λ wire _. IsSessionByLines-link_of configs wire) wires (every wires)))

closed : (port : Port) → IsClosed (end_of port no_side)
closed port = record { «import» = refl; «export» = refl }

HasSides-link_of : (configs : List RouterConfig) (wire : Wire) → HasSides configs (link_of configs wire)
HasSides-link_of configs wire = go (side_at configs wire.low wire.high) refl (side_at configs wire.high wire.low) refl where
  go : (a : Option Side) → side_at configs wire.low wire.high ≡ a → (b : Option Side) → side_at configs wire.high wire.low ≡ b → HasSides configs (joined_by wire a b)
  go None e b f = record { session = λ h. absurd (false≢true h); other = λ h. (closed wire.low, closed wire.high) }
  go (Some s) e None f = record { session = λ h. absurd (false≢true h); other = λ h. (closed wire.low, closed wire.high) }
  go (Some s) e (Some t) f = record { session = λ h. (line-found configs wire.low wire.high s t e, line-found configs wire.high wire.low t s f); other = λ h. absurd (false≢true (sym h)) }

pub sides-links_of : (configs : List RouterConfig) (wires : List Wire) → All (HasSides configs) (links_of configs wires)
sides-links_of configs wires =
    All-from_recursion (HasSides configs) (links_of configs wires)
    (All-map (λ wire. link_of configs wire) (HasSides configs) wires
    (AllByRecursion-weaker (λ _. Unit {0}) (λ wire. HasSides configs (link_of configs wire)) (λ wire _. HasSides-link_of configs wire) wires (every wires)))

-- a router with a neighbor line has an AS number
HasAsn-from_line : (configs : List RouterConfig) (here there : End) → HasLineFor (in_order configs) here there → HasAsn (net_of configs) here
HasAsn-from_line configs here there h = record {
  router = router_of (ports configs) (communities configs) (0 + here.router) h.config;
  there = router-at (ports configs) (communities configs) 0 (in_order configs) here.router ∙ ap (λ o. option_map (λ config. router_of (ports configs) (communities configs) (0 + here.router) config) o) h.config_at;
  asn = h.bgp.asn;
  has = ap (λ o. option_map (λ (bgp : BgpConfig). bgp.asn) o) h.runs;
}

abbrev HaveAsns : List RouterConfig → Link → Type 0
HaveAsns configs link = link.session ≡ true → HasAsn (net_of configs) link.low × HasAsn (net_of configs) link.high

pub SessionsHaveAsns-net_of : (configs : List RouterConfig) → SessionsHaveAsns (net_of configs)
SessionsHaveAsns-net_of configs =
    let links = links_of (in_order configs) (wires (ports configs)) in
    All-from_recursion (HaveAsns configs) links
    (AllByRecursion-weaker (IsSessionByLines (in_order configs)) (HaveAsns configs)
    (λ link s h. let lines = s.0 h in (HasAsn-from_line configs link.low link.high lines.0, HasAsn-from_line configs link.high link.low lines.1))
    links (recursion_from_All (IsSessionByLines (in_order configs)) links (sessions-links_of (in_order configs) (wires (ports configs)))))
