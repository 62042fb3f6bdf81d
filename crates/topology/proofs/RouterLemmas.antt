-- What is true of each router: what it owns, its lists and maps, its AS number, and that routers ascend by host.
use Rattle.std.proofs.Common.{ℕ, zero, suc, ◌≡◌, ◌+◌, ◌≤◌, ◌==◌, ◌&&◌, ◌++◌, Bool, true, false, not, cond, List, [], ◌∷◌, length, map, fold, min, refl, ap, sym, ◌∙◌, add-zero, arith, All, AllPairs}
use Rattle.std.specs.List.{AllByRecursion, filter, slice_get}
use Rattle.std.specs.Option.{IfSome, option_map, option_map_or}
use Rattle.std.specs.Prelude.{Option, Some, None}
use Rattle.std.proofs.lemmas.Bool.{false≢true}
use Rattle.std.proofs.lemmas.Bool.Decides.{nat_tests}
use Rattle.std.proofs.lemmas.List.{length-map}
use Rattle.std.proofs.lemmas.List.Elements.{All-from_recursion, recursion_from_All}
use Rattle.net_types.specs.PrefixValue.{PrefixValue, IsPrefix}
use Rattle.net_types.specs.Order.{text_before}
use Rattle.net_types.specs.Prefixes.{same_prefix, prefix_before}
use Rattle.net_types.specs.NetFacts.{IsRouter, IsOwned, IsWord, AreApart, map_count}
use Rattle.net_types.specs.ConfigFacts.{IsConfig, IsBgp}
use Rattle.net_types.specs.declared.config.RouterConfig.{RouterConfig}
use Rattle.net_types.specs.declared.config.BgpConfig.{BgpConfig}
use Rattle.net_types.specs.declared.network.Router.{Router}
use Rattle.net_types.specs.declared.network.Owned.{Owned}
use Rattle.topology.specs.declared.interfaces.Port.{Port}
use Rattle.topology.specs.Live.{host_before, same_number, same_asn}
use Rattle.topology.specs.Owning.{is_stub, stubs, stub_cost, lesser, owned_of, prefixes_of, owned_by, networks_of}
use Rattle.topology.specs.Resolving.{net_map}
use Rattle.topology.specs.Routers.{router_of, routers_from}
use Rattle.topology.proofs.RisingLemmas.{Rises, AllByRecursion-weaker, All-append, All-filter, All-map, All-ascending, Rises-ascending, Rises-map, AllPairs-from_rises}
use Rattle.topology.proofs.OrderLaws.{prefix_order}
use Rattle.topology.proofs.PortLemmas.{IsPort}
use Rattle.topology.proofs.ResolveLemmas.{IsNetCommunityList-all, IsNetMap-all}
use Rattle.topology.proofs.SideLemmas.{IsPolicy-connected_of, IsPolicy-ospf_of, maps_at}

least-fold : (limit : ℕ) (numbers : List ℕ) (start : Option ℕ) → AllByRecursion (λ n. n ≤ limit) numbers → IfSome start (λ n. n ≤ limit) → IfSome (fold (λ least n. lesser least n) start numbers) (λ n. n ≤ limit)
least-fold limit [] start a s = s
least-fold limit (n ∷ ns) None a s = least-fold limit ns (Some n) a.1 a.0
least-fold limit (n ∷ ns) (Some m) a s = least-fold limit ns (Some (min m n)) a.1 (omega (arith, a.0, s))

cost-stub_cost : (count : ℕ) (port : Port) → IsPort count port → stub_cost port ≤ 65535
cost-stub_cost count port p = go port.loopback where
  go : (b : Bool) → cond b 0 port.cost ≤ 65535
  go true = omega arith
  go false = p.most

IsOwned-owned_of : (count : ℕ) (stubs : List Port) (networks : List PrefixValue) (prefix : PrefixValue) → AllByRecursion (IsPort count) stubs → IsPrefix prefix → IsOwned (owned_of stubs networks prefix)
IsOwned-owned_of count stubs networks prefix a p =
    let running = All-filter (λ port. port.ospf && same_prefix port.subnet prefix) (IsPort count) stubs a in
    record {
      prefix = p;
      cost = least-fold 65535 (map (λ port. stub_cost port) (filter (λ port. port.ospf && same_prefix port.subnet prefix) stubs)) None
          (All-map (λ port. stub_cost port) (λ n. n ≤ 65535) (filter (λ port. port.ospf && same_prefix port.subnet prefix) stubs)
          (AllByRecursion-weaker (IsPort count) (λ port. stub_cost port ≤ 65535) (λ port q. cost-stub_cost count port q) (filter (λ port. port.ospf && same_prefix port.subnet prefix) stubs) running))
          tt;
    }

prefixes-are : (count : ℕ) (stubs : List Port) (networks : List PrefixValue) → AllByRecursion (IsPort count) stubs → AllByRecursion IsPrefix networks → AllByRecursion IsPrefix (prefixes_of stubs networks)
prefixes-are count stubs networks a n =
    All-ascending IsPrefix same_prefix prefix_before (map (λ port. port.subnet) stubs ++ networks)
    (All-append IsPrefix (map (λ port. port.subnet) stubs) networks (All-map (λ port. port.subnet) IsPrefix stubs (AllByRecursion-weaker (IsPort count) (λ port. IsPrefix port.subnet) (λ port p. p.subnet) stubs a)) n)

IsOwned-owned_by : (count : ℕ) (stubs : List Port) (networks : List PrefixValue) → AllByRecursion (IsPort count) stubs → AllByRecursion IsPrefix networks → All IsOwned (owned_by stubs networks)
IsOwned-owned_by count stubs networks a n =
    All-from_recursion IsOwned (owned_by stubs networks) (All-map (λ prefix. owned_of stubs networks prefix) IsOwned (prefixes_of stubs networks)
    (AllByRecursion-weaker IsPrefix (λ prefix. IsOwned (owned_of stubs networks prefix)) (λ prefix p. IsOwned-owned_of count stubs networks prefix a p) (prefixes_of stubs networks) (prefixes-are count stubs networks a n)))

prefixes-owned_by : (stubs : List Port) (networks : List PrefixValue) → AllPairs (λ (a b : Owned). prefix_before a.prefix b.prefix ≡ true) (owned_by stubs networks)
prefixes-owned_by stubs networks =
    AllPairs-from_rises (λ a b. prefix_before a.prefix b.prefix) (owned_by stubs networks)
    (Rises-map (λ prefix. owned_of stubs networks prefix) (λ a b. prefix_before a.prefix b.prefix) (prefixes_of stubs networks)
    (Rises-ascending same_prefix prefix_before prefix_order (map (λ port. port.subnet) stubs ++ networks)))

networks-are : (config : RouterConfig) (bgp : Option BgpConfig) → IfSome bgp (λ b. IsBgp config b) → AllByRecursion IsPrefix (option_map_or (λ (b : BgpConfig). b.networks) bgp [])
networks-are config None h = tt
networks-are config (Some b) h = recursion_from_All IsPrefix b.networks h.networks

word-asn : (config : RouterConfig) (bgp : Option BgpConfig) → IfSome bgp (λ b. IsBgp config b) → IsWord (option_map (λ (b : BgpConfig). b.asn) bgp)
word-asn config None h = tt
word-asn config (Some b) h = h.word

IsRouter-router_of : (communities : List ℕ) (count : ℕ) (ports : List Port) (router : ℕ) (config : RouterConfig) → length communities ≤ 64 → IsConfig config → AllByRecursion (IsPort count) ports → IsRouter (length communities) (router_of ports communities router config)
IsRouter-router_of communities count ports router config few c a = record {
  asn = word-asn config config.bgp c.bgp;
  ascending = prefixes-owned_by (stubs ports router) (networks_of config);
  owned = IsOwned-owned_by count (stubs ports router) (networks_of config) (All-filter (λ port. (port.router == router) && is_stub ports port) (IsPort count) ports a) (networks-are config config.bgp c.bgp);
  connected = rw (length-map config.maps (λ routes. net_map communities config routes)) (IsPolicy-connected_of config config.bgp c.bgp);
  ospf = rw (length-map config.maps (λ routes. net_map communities config routes)) (IsPolicy-ospf_of config config.bgp c.bgp);
  prefix_lists = c.prefix_lists;
  community_lists = IsNetCommunityList-all communities config.community_lists few c.community_lists;
  maps = IsNetMap-all communities config (router_of ports communities router config) few (record { prefix_lists = refl; community_lists = refl }) c.maps;
}

routers-rec : (communities : List ℕ) (count : ℕ) (ports : List Port) (router : ℕ) (configs : List RouterConfig) → length communities ≤ 64 → AllByRecursion IsConfig configs → AllByRecursion (IsPort count) ports → AllByRecursion (IsRouter (length communities)) (routers_from ports communities router configs)
routers-rec communities count ports router [] few c a = tt
routers-rec communities count ports router (config ∷ configs) few c a = (IsRouter-router_of communities count ports router config few c.0 a, routers-rec communities count ports (router + 1) configs few c.1 a)

pub IsRouter-routers_from : (communities : List ℕ) (count : ℕ) (ports : List Port) (configs : List RouterConfig) → length communities ≤ 64 → AllByRecursion IsConfig configs → AllByRecursion (IsPort count) ports → All (IsRouter (length communities)) (routers_from ports communities 0 configs)
IsRouter-routers_from communities count ports configs few c a = All-from_recursion (IsRouter (length communities)) (routers_from ports communities 0 configs) (routers-rec communities count ports 0 configs few c a)

pub length-routers_from : (ports : List Port) (communities : List ℕ) (router : ℕ) (configs : List RouterConfig) → length (routers_from ports communities router configs) ≡ length configs
length-routers_from ports communities router [] = refl
length-routers_from ports communities router (config ∷ configs) = let e = length-routers_from ports communities (router + 1) configs in omega arith

-- the router of a number is that of the configuration there
pub router-at : (ports : List Port) (communities : List ℕ) (m : ℕ) (configs : List RouterConfig) (k : ℕ) → slice_get (routers_from ports communities m configs) k ≡ option_map (λ config. router_of ports communities (m + k) config) (slice_get configs k)
router-at ports communities m [] k = refl
router-at ports communities m (config ∷ configs) zero = ap (λ n. Some (router_of ports communities n config)) (sym (add-zero m))
router-at ports communities m (config ∷ configs) (suc k) = let n : m + 1 + k ≡ m + suc k = omega arith in rw (router-at ports communities (m + 1) configs k, n) refl

pub maps-routers_from : (ports : List Port) (communities : List ℕ) (configs : List RouterConfig) (k : ℕ) → map_count (routers_from ports communities 0 configs) k ≡ maps_at configs k
maps-routers_from ports communities configs k = ap (λ o. option_map_or (λ (router : Router). length router.maps) o 0) (router-at ports communities 0 configs k) ∙ go (slice_get configs k) where
  go : (o : Option RouterConfig) → option_map_or (λ (router : Router). length router.maps) (option_map (λ config. router_of ports communities (0 + k) config) o) 0 ≡ option_map_or (λ (config : RouterConfig). length config.maps) o 0
  go None = refl
  go (Some config) = length-map config.maps (λ routes. net_map communities config routes)

-- what holds of each two configurations holds of their routers
across : (before : RouterConfig → RouterConfig → Bool) (after : Router → Router → Bool) (ports : List Port) (communities : List ℕ) → ((m n : ℕ) (a b : RouterConfig) → before a b ≡ true → after (router_of ports communities m a) (router_of ports communities n b) ≡ true) → (m router : ℕ) (first : RouterConfig) (configs : List RouterConfig) → AllByRecursion (λ config. before first config ≡ true) configs → AllByRecursion (λ b. after (router_of ports communities m first) b ≡ true) (routers_from ports communities router configs)
across before after ports communities h m router first [] a = tt
across before after ports communities h m router first (config ∷ configs) a = (h m router first config a.0, across before after ports communities h m (router + 1) first configs a.1)

Rises-routers_from : (before : RouterConfig → RouterConfig → Bool) (after : Router → Router → Bool) (ports : List Port) (communities : List ℕ) → ((m n : ℕ) (a b : RouterConfig) → before a b ≡ true → after (router_of ports communities m a) (router_of ports communities n b) ≡ true) → (router : ℕ) (configs : List RouterConfig) → Rises before configs → Rises after (routers_from ports communities router configs)
Rises-routers_from before after ports communities h router [] r = tt
Rises-routers_from before after ports communities h router (config ∷ configs) r = (across before after ports communities h router (router + 1) config configs r.0, Rises-routers_from before after ports communities h (router + 1) configs r.1)

pub hosts-routers_from : (ports : List Port) (communities : List ℕ) (configs : List RouterConfig) → Rises host_before configs → AllPairs (λ (a b : Router). text_before a.host b.host ≡ true) (routers_from ports communities 0 configs)
hosts-routers_from ports communities configs r =
    AllPairs-from_rises (λ (a b : Router). text_before a.host b.host) (routers_from ports communities 0 configs)
    (Rises-routers_from host_before (λ (a b : Router). text_before a.host b.host) ports communities (λ m n a b e. e) 0 configs r)

apart-numbers : (a b : Option ℕ) → not (same_number a b) ≡ true → AreApart a b
apart-numbers None b h = tt
apart-numbers (Some m) None h = tt
apart-numbers (Some m) (Some n) h = λ e. false≢true (unequal m n e h) where
  unequal : (m n : ℕ) → m ≡ n → not (m == n) ≡ true → false ≡ true
  unequal m n e h = grind (arith, nat_tests)

pub asns-routers_from : (ports : List Port) (communities : List ℕ) (configs : List RouterConfig) → Rises (λ a b. not (same_asn a b)) configs → AllPairs (λ (a b : Router). AreApart a.asn b.asn) (routers_from ports communities 0 configs)
asns-routers_from ports communities configs r =
    let rises = Rises-routers_from (λ a b. not (same_asn a b)) (λ (a b : Router). not (same_number a.asn b.asn)) ports communities (λ m n a b e. e) 0 configs r in
    λ i j d l h. apart-numbers _ _ (AllPairs-from_rises (λ (a b : Router). not (same_number a.asn b.asn)) (routers_from ports communities 0 configs) rises i j d l h)
