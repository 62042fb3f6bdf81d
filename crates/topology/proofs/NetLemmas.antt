-- The network of configurations is valid.
use Rattle.std.proofs.Common.{ℕ, ◌≡◌, ◌≤◌, true, not, List, length, refl, ap, arith, All, map}
use Rattle.std.specs.List.{AllByRecursion}
use Rattle.std.specs.Prelude.{Option, Some, None}
use Rattle.std.proofs.lemmas.Bool.Decides.{nat_tests}
use Rattle.std.proofs.lemmas.List.{length-map}
use Rattle.std.proofs.lemmas.List.Elements.{All-from_recursion, recursion_from_All}
use Rattle.net_types.specs.ConfigFacts.{IsConfig}
use Rattle.net_types.specs.NetFacts.{IsNet}
use Rattle.net_types.specs.declared.config.RouterConfig.{RouterConfig}
use Rattle.topology.specs.declared.interfaces.Port.{Port}
use Rattle.topology.specs.declared.groups.Wire.{Wire}
use Rattle.topology.specs.Live.{asn_of, in_order, ports, same_host, host_before, same_number, same_asn}
use Rattle.topology.specs.Groups.{wires, IsNumbered}
use Rattle.topology.specs.Communities.{communities}
use Rattle.topology.specs.Links.{link_of, links_of}
use Rattle.topology.specs.Routers.{routers_from}
use Rattle.topology.specs.Network.{net_of, net_from, asn_pair}
use Rattle.topology.proofs.RisingLemmas.{Rises, Rises-ascending, Rises-ascending-apart, All-ascending, length-ascending}
use Rattle.topology.proofs.OrderLaws.{host_order}
use Rattle.topology.proofs.PairLemmas.{Rises-none}
use Rattle.topology.proofs.PortLemmas.{IsPort, IsPort-ports_from}
use Rattle.topology.proofs.SetLemmas.{words-communities, communities-rise, no_export-there, no_advertise-there}
use Rattle.topology.proofs.LinkLemmas.{IsNumbered-wires, IsLink-links_of, subnets-links_of}
use Rattle.topology.proofs.RouterLemmas.{IsRouter-routers_from, length-routers_from, hosts-routers_from, asns-routers_from, maps-routers_from}
use Rattle.topology.proofs.NoticeLemmas.{IsNotice-notices, notices-rise}

pub configs-are : (configs : List RouterConfig) → All IsConfig configs → AllByRecursion IsConfig (in_order configs)
configs-are configs a = All-ascending IsConfig same_host host_before configs (recursion_from_All IsConfig configs a)

ports-are : (configs : List RouterConfig) → All IsConfig configs → AllByRecursion (IsPort (length (in_order configs))) (ports configs)
ports-are configs a = IsPort-ports_from (length (in_order configs)) 0 (in_order configs) (omega arith) (configs-are configs a)

pub numbered : (configs : List RouterConfig) → All IsConfig configs → length configs ≤ 64 → All IsNumbered (wires (ports configs))
numbered configs a few = IsNumbered-wires (length (in_order configs)) (ports configs) (let l = length-ascending same_host host_before configs in omega arith) (ports-are configs a)

-- routers whose configurations have AS numbers of their own are apart in either order
back-number : (a b : Option ℕ) → not (same_number a b) ≡ true → not (same_number b a) ≡ true
back-number None None h = refl
back-number None (Some n) h = refl
back-number (Some m) None h = refl
back-number (Some m) (Some n) h = grind (arith, nat_tests)

asns-apart : (configs : List RouterConfig) → asn_pair configs ≡ None → Rises (λ a b. not (same_asn a b)) (in_order configs)
asns-apart configs e = Rises-ascending-apart (λ a b. not (same_asn a b)) (λ a b h. back-number (asn_of a) (asn_of b) h) same_host host_before configs (Rises-none same_asn 0 configs e)

-- what is counted is at most 64
pub record IsSmall (configs : List RouterConfig) : Type 0 where
  pub routers : length configs ≤ 64
  pub links : length (wires (ports configs)) ≤ 64
  pub communities : length (communities configs) ≤ 64

pub net_is : (configs : List RouterConfig) → All IsConfig configs → asn_pair configs ≡ None → IsSmall configs → IsNet (net_of configs)
net_is configs a e small =
    let long = length-routers_from (ports configs) (communities configs) 0 (in_order configs) in
    let short = length-ascending same_host host_before configs in
    let few = small.routers in
    let routers = routers_from (ports configs) (communities configs) 0 (in_order configs) in
    record {
      few_routers = omega arith;
      hosts = hosts-routers_from (ports configs) (communities configs) (in_order configs) (Rises-ascending same_host host_before host_order configs);
      asns = asns-routers_from (ports configs) (communities configs) (in_order configs) (asns-apart configs e);
      routers = IsRouter-routers_from (communities configs) (length (in_order configs)) (ports configs) (in_order configs) small.communities (configs-are configs a) (ports-are configs a);
      few_links = rw (length-map (wires (ports configs)) (λ wire. link_of (in_order configs) wire)) small.links;
      subnets = subnets-links_of (in_order configs) (ports configs);
      links = IsLink-links_of routers (in_order configs) (length (in_order configs)) (ports configs) (omega arith) (maps-routers_from (ports configs) (communities configs) (in_order configs)) (configs-are configs a) (ports-are configs a);
      few_communities = small.communities;
      communities = communities-rise configs;
      words = words-communities configs (recursion_from_All IsConfig configs a);
      no_export = no_export-there configs;
      no_advertise = no_advertise-there configs;
      notices = IsNotice-notices routers (links_of (in_order configs) (wires (ports configs))) (in_order configs) (omega arith) (configs-are configs a);
      ordered = notices-rise (links_of (in_order configs) (wires (ports configs))) (in_order configs);
    }

-- the same of what was computed, which is what the definitions say
pub numbered_at : (configs : List RouterConfig) (found : List Wire) → All IsConfig configs → length configs ≤ 64 → found ≡ wires (ports configs) → All IsNumbered found
numbered_at configs found a few e = rw e (numbered configs a few)

pub configs_at : (configs sorted : List RouterConfig) → All IsConfig configs → sorted ≡ in_order configs → All IsConfig sorted
configs_at configs sorted a e = rw e (All-from_recursion IsConfig (in_order configs) (configs-are configs a))

pub net_is_at : (configs sorted : List RouterConfig) (all : List Port) (found : List Wire) (named : List ℕ) → All IsConfig configs → asn_pair configs ≡ None → IsSmall configs → sorted ≡ in_order configs → all ≡ ports configs → found ≡ wires (ports configs) → named ≡ communities configs → IsNet (net_from sorted all found named)
net_is_at configs sorted all found named a s small e f g h = rw (e, f, g, h) (net_is configs a s small)

pub few_at : {A : Type 0} (f : A → RouterConfig) (found : List A) (configs : List RouterConfig) → map f found ≡ in_order configs → length configs ≤ 64 → length found ≤ 64
few_at f found configs e few =
    let long = length-map found f in
    let same = ap (λ (xs : List RouterConfig). length xs) e in
    let short = length-ascending same_host host_before configs in
    omega arith

pub small_at : (configs : List RouterConfig) (found : List Wire) (named : List ℕ) → found ≡ wires (ports configs) → named ≡ communities configs → length configs ≤ 64 → length found ≤ 64 → length named ≤ 64 → IsSmall configs
small_at configs found named e f routers links communities = record {
  routers = routers;
  links = (let h = links in rw e at h);
  communities = (let h = communities in rw f at h);
}
