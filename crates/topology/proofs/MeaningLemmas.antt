-- The network of configurations is what `IsNetworkOf` says.
use Rattle.std.proofs.Common.{ℕ, ◌≡◌, ◌+◌, ◌≤◌, ◌<◌, ◌==◌, ◌&&◌, ◌++◌, ◌⊎◌, ◌↔◌, nat_eq, nat_lt, inl, inr, ⊎_elim, min, Bool, true, false, cond, ltb, List, [], ◌∷◌, map, fold, refl, ap, sym, subst, ◌∙◌, arith, zero-add, Contains, All, Option, Some, None}
use Rattle.std.specs.List.{list_any, position_or_len, insert, filter, slice_get}
use Rattle.std.specs.Option.{IfSome, option_map}
use Rattle.std.specs.Prelude.{Result, Ok, Err}
use Rattle.std.specs.Result.{IfOk}
use Rattle.std.proofs.lemmas.Bool.{false≢true}
use Rattle.std.proofs.lemmas.Bool.Decides.{nat_tests}
use Rattle.std.proofs.lemmas.List.Elements.{All-from_recursion}
use Rattle.net_types.specs.PrefixValue.{PrefixValue}
use Rattle.net_types.specs.Prefixes.{same_prefix, prefix_before}
use Rattle.net_types.specs.Order.{same_text, text_before}
use Rattle.net_types.specs.NetValue.{NetValue}
use Rattle.net_types.specs.declared.config.RouterConfig.{RouterConfig}
use Rattle.net_types.specs.declared.network.Router.{Router}
use Rattle.net_types.specs.declared.network.Owned.{Owned}
use Rattle.net_types.specs.NetFacts.{no_export, no_advertise}
use Rattle.net_types.specs.declared.refusals.NetRefusal.{NetRefusal}
use Rattle.net_types.specs.ConfigFacts.{IsConfig}
use Rattle.topology.specs.declared.interfaces.Port.{Port}
use Rattle.topology.specs.declared.groups.Group.TheVariants.{Joined, Shared}
use Rattle.topology.specs.declared.groups.Wire.{Wire}
use Rattle.topology.specs.Ascending.{put, ascending}
use Rattle.topology.specs.Live.{in_order, ports, can_link}
use Rattle.topology.specs.Groups.{group, is_in, joined, kind_of, kind_at, subnets_of, wire_of, wires}
use Rattle.topology.specs.Owning.{stubs, stub_cost, lesser, least_cost, has_stub, owned_of, prefixes_of, owned_by, networks_of}
use Rattle.topology.specs.Communities.{communities, named_values}
use Rattle.topology.specs.Links.{link_of, links_of}
use Rattle.topology.specs.Routers.{router_of, routers_from}
use Rattle.topology.specs.Network.{Answers, unless, net_of}
use Rattle.topology.specs.Meaning.{AreLinked, IsLinkOf, RunsOspfAt, IsLeastCost, AreOwned, IsRouterOf, IsNetworkOf, SessionsHaveAsns}
use Rattle.topology.proofs.MapLemmas.{list_any-map, put-there, put-new}
use Rattle.topology.proofs.RisingLemmas.{AllByRecursion-weaker, All-filter_map, All-map, every}
use Rattle.topology.proofs.OrderLaws.{prefix_order, text_order, number_order, number-equal, same_prefix-equal}
use Rattle.topology.proofs.LinkLemmas.{subnets-links_of, subnet-link_of}
use Rattle.topology.proofs.RouterLemmas.{router-at}
use Rattle.topology.proofs.SideLemmas.{at-place}
use Rattle.topology.proofs.SessionLemmas.{sessions-links_of, sides-links_of, SessionsHaveAsns-net_of}
use Rattle.topology.proofs.ResolvedLemmas.{IsRedistribution-connected, IsRedistribution-ospf, community_lists-alike, maps-alike}
use Rattle.topology.proofs.NetLemmas.{configs-are}
use Rattle.topology.proofs.IdleLemmas.{AreNotices-notices}
use Rattle.topology.proofs.TwinLemmas.{same_text-equal}
use Rattle.topology.proofs.MemberLemmas.{In, Contains-from_In, In-from_Contains, In-map, In-filter, from-filter, In-filter_map, In-ascending, In-there, any-from, from-map, IsAscending-ascending}

pub same_prefix-itself : (p : PrefixValue) → same_prefix p p ≡ true
same_prefix-itself p = same p.bits p.len where
  same : (a b : ℕ) → ((a == a) && (b == b)) ≡ true
  same a b = grind (arith, nat_tests)

-- seen through a function, an ascending list is the ascending list of what is seen
map-fold : {A B : Type 0} (f : A → B) (same before : B → B → Bool) (xs done : List A) → map f (fold (λ done x. put (λ a b. same (f a) (f b)) (λ a b. before (f a) (f b)) done x) done xs) ≡ fold (λ done x. put same before done x) (map f done) (map f xs)
map-fold f same before [] done = refl
map-fold f same before (x ∷ xs) done = map-fold f same before xs (put (λ a b. same (f a) (f b)) (λ a b. before (f a) (f b)) done x) ∙ ap (λ ys. fold (λ done x. put same before done x) ys (map f xs)) (go (list_any (λ y. same (f y) (f x)) done) refl) where
  go : (b : Bool) → list_any (λ y. same (f y) (f x)) done ≡ b → map f (cond (list_any (λ y. same (f y) (f x)) done) done (insert done (position_or_len (λ y. before (f x) (f y)) done) x)) ≡ put same before (map f done) (f x)
  go true e = rw e (sym (put-there f same before done x e))
  go false e = rw e (sym (put-new f same before done x e))

hosts-in_order : (configs : List RouterConfig) → map (λ (config : RouterConfig). config.host) (in_order configs) ≡ ascending same_text text_before (map (λ (config : RouterConfig). config.host) configs)
hosts-in_order configs = map-fold (λ (config : RouterConfig). config.host) same_text text_before configs []

hosts-routers_from : (all : List Port) (named : List ℕ) (k : ℕ) (configs : List RouterConfig) → map (λ (router : Router). router.host) (routers_from all named k configs) ≡ map (λ (config : RouterConfig). config.host) configs
hosts-routers_from all named k [] = refl
hosts-routers_from all named k (config ∷ configs) = ap (λ hs. config.host ∷ hs) (hosts-routers_from all named (k + 1) configs)

-- links
link-of : (configs : List RouterConfig) (all : List Port) (subnet : PrefixValue) (low high : Port) → AreLinked all subnet low high → IsLinkOf configs all (link_of configs (record { subnet = subnet; low = low; high = high }))
link-of configs all subnet low high h =
    let wire : Wire = record { subnet = subnet; low = low; high = high } in
    let e : (link_of configs wire).subnet ≡ subnet = subnet-link_of configs wire in
    record {
      low = low;
      high = high;
      linked = (let P : PrefixValue → Type 0 = λ s. AreLinked all s low high in subst P (sym e) h);
      is = ap (λ s. link_of configs (record { subnet = s; low = low; high = high })) (sym e);
    }

link-at : (configs : List RouterConfig) (all : List Port) (subnet : PrefixValue) (found : List Port) → group all subnet ≡ found → IfSome (wire_of subnet (kind_of found)) (λ wire. IsLinkOf configs all (link_of configs wire))
link-at configs all subnet [] e = tt
link-at configs all subnet (a ∷ []) e = tt
link-at configs all subnet (a ∷ b ∷ []) e = go (ltb a.router b.router) refl (ltb b.router a.router) refl where
  go : (s : Bool) → ltb a.router b.router ≡ s → (t : Bool) → ltb b.router a.router ≡ t → IfSome (wire_of subnet (cond s (Joined a b) (cond t (Joined b a) Shared))) (λ wire. IsLinkOf configs all (link_of configs wire))
  go true s t q = link-of configs all subnet a b (record { pair = inl e; order = grind (arith, nat_tests) })
  go false s true q = link-of configs all subnet b a (record { pair = inr e; order = grind (arith, nat_tests) })
  go false s false q = tt
link-at configs all subnet (a ∷ b ∷ c ∷ more) e = tt

each-link : (configs : List RouterConfig) (all : List Port) → All (IsLinkOf configs all) (links_of configs (wires all))
each-link configs all = All-from_recursion (IsLinkOf configs all) (links_of configs (wires all)) (All-map (λ wire. link_of configs wire) (IsLinkOf configs all) (wires all)
    (All-filter_map (λ subnet. wire_of subnet (kind_at all subnet)) (λ _. Unit {0}) (λ wire. IsLinkOf configs all (link_of configs wire)) (λ subnet _. link-at configs all subnet (group all subnet) refl) (subnets_of all) (every (subnets_of all))))

joined-low : (a b : Port) → a.router < b.router → joined a b ≡ Joined a b
joined-low a b l = let t : ltb a.router b.router ≡ true = grind (arith, nat_tests) in rw t refl

joined-high : (a b : Port) → a.router < b.router → joined b a ≡ Joined a b
joined-high a b l = let f : ltb b.router a.router ≡ false = grind (arith, nat_tests) in let t : ltb a.router b.router ≡ true = grind (arith, nat_tests) in rw (f, t) refl

kind-linked : (all : List Port) (subnet : PrefixValue) (low high : Port) → AreLinked all subnet low high → kind_at all subnet ≡ Joined low high
kind-linked all subnet low high h = ⊎_elim (λ e. ap (λ g. kind_of g) e ∙ joined-low low high h.order) (λ e. ap (λ g. kind_of g) e ∙ joined-high low high h.order) h.pair

pub and-left : (a b : Bool) → (a && b) ≡ true → a ≡ true
and-left true b h = refl
and-left false b h = h

pub and-right : (a b : Bool) → (a && b) ≡ true → b ≡ true
and-right true b h = h
and-right false b h = absurd (false≢true h)

pub subnet-in : (all : List Port) (subnet : PrefixValue) (port : Port) → In port (group all subnet) → In subnet (subnets_of all)
subnet-in all subnet port i =
    let j = from-filter (λ port. is_in subnet port) port all i in
    let ends = and-left (can_link port.loopback port.subnet) (same_prefix port.subnet subnet) j.1 in
    let one = same_prefix-equal port.subnet subnet (and-right (can_link port.loopback port.subnet) (same_prefix port.subnet subnet) j.1) in
    rw (← one) (In-ascending same_prefix prefix_before same_prefix-equal port.subnet (map (λ port. port.subnet) (filter (λ port. can_link port.loopback port.subnet) all))
    (In-map (λ port. port.subnet) port (filter (λ port. can_link port.loopback port.subnet) all) (In-filter (λ port. can_link port.loopback port.subnet) port all j.0 ends)))

subnet-linked : (all : List Port) (subnet : PrefixValue) (low high : Port) → AreLinked all subnet low high → In subnet (subnets_of all)
subnet-linked all subnet low high h = subnet-in all subnet low (⊎_elim (λ e. rw e (inl refl)) (λ e. rw e (inr (inl refl))) h.pair)

complete-links : (configs : List RouterConfig) (all : List Port) (subnet : PrefixValue) (low high : Port) → AreLinked all subnet low high → Contains (links_of configs (wires all)) (link_of configs (record { subnet = subnet; low = low; high = high }))
complete-links configs all subnet low high h =
    let wire : Wire = record { subnet = subnet; low = low; high = high } in
    Contains-from_In (link_of configs wire) (links_of configs (wires all)) (In-map (λ wire. link_of configs wire) wire (wires all)
    (In-filter_map (λ subnet. wire_of subnet (kind_at all subnet)) subnet wire (subnets_of all) (subnet-linked all subnet low high h) (ap (λ k. wire_of subnet k) (kind-linked all subnet low high h))))

-- costs
-- the least of numbers that begin with a start
abbrev IsLeastFrom : Option ℕ → List ℕ → Option ℕ → Type 0
IsLeastFrom start numbers None = (start ≡ None) × ((n : ℕ) → In n numbers → ⊥)
IsLeastFrom start numbers (Some c) = ((start ≡ Some c) ⊎ In c numbers) × ((n : ℕ) → (start ≡ Some n) ⊎ In n numbers → c ≤ n)

none_some : {R : Type 0} (n : ℕ) → None ≡ Some n → R
none_some n e = absurd (false≢true cc)

some_none : {R : Type 0} (n : ℕ) → Some n ≡ None → R
some_none n e = absurd (false≢true cc)

same_some : (m n : ℕ) → Some m ≡ Some n → m ≡ n
same_some m n e = cc

least-step : (start : Option ℕ) (n : ℕ) (ns : List ℕ) (found : Option ℕ) → IsLeastFrom (lesser start n) ns found → IsLeastFrom start (n ∷ ns) found
least-step None n ns None h = some_none n h.0
least-step (Some m) n ns None h = some_none (min m n) h.0
least-step None n ns (Some c) h = (⊎_elim (λ e. inr (inl (same_some n c e))) (λ i. inr (inr i)) h.0, λ k q. ⊎_elim (λ e. none_some k e) (λ i. ⊎_elim (λ e. h.1 k (inl (ap (λ x. Some x) e))) (λ j. h.1 k (inr j)) i) q)
least-step (Some m) n ns (Some c) h = (⊎_elim (λ e. which (same_some (min m n) c e)) (λ i. inr (inr i)) h.0, λ k q. ⊎_elim (λ e. at_most (same_some m k e) (h.1 (min m n) (inl refl))) (λ i. ⊎_elim (λ e. at_most' e (h.1 (min m n) (inl refl))) (λ j. h.1 k (inr j)) i) q) where
  which : min m n ≡ c → (Some m ≡ Some c) ⊎ ((n ≡ c) ⊎ In c ns)
  which e = go (ltb m n) refl where
    go : (b : Bool) → ltb m n ≡ b → (Some m ≡ Some c) ⊎ ((n ≡ c) ⊎ In c ns)
    go true t = let l : m < n = grind (arith, nat_tests) in inl (ap (λ x. Some x) (let q : m ≡ c = omega arith in q))
    go false t = let l : n ≤ m = grind (arith, nat_tests) in inr (inl (omega arith))

  at_most : {k : ℕ} → m ≡ k → c ≤ min m n → c ≤ k
  at_most e l = omega arith

  at_most' : {k : ℕ} → n ≡ k → c ≤ min m n → c ≤ k
  at_most' e l = omega arith

least-from : (start : Option ℕ) (numbers : List ℕ) → IsLeastFrom start numbers (fold (λ least n. lesser least n) start numbers)
least-from None [] = (refl, λ n i. i)
least-from (Some c) [] = (inl refl, λ n q. ⊎_elim (λ e. let f = same_some c n e in omega arith) (λ i. absurd i) q)
least-from start (n ∷ ns) = least-step start n ns (fold (λ least n. lesser least n) (lesser start n) ns) (least-from (lesser start n) ns)

-- the test for a stub of the prefix that runs OSPF
abbrev runs_at : PrefixValue → Port → Bool
runs_at prefix port = port.ospf && same_prefix port.subnet prefix

test-from_runs : (prefix : PrefixValue) (port : Port) → RunsOspfAt prefix port → runs_at prefix port ≡ true
test-from_runs prefix port r = rw (r.runs, r.subnet) (same_prefix-itself prefix)

runs-from_test : (prefix : PrefixValue) (port : Port) → runs_at prefix port ≡ true → RunsOspfAt prefix port
runs-from_test prefix port t = record { runs = and-left port.ospf (same_prefix port.subnet prefix) t; subnet = same_prefix-equal port.subnet prefix (and-right port.ospf (same_prefix port.subnet prefix) t) }

cost-in : (stubs : List Port) (prefix : PrefixValue) (port : Port) → Contains stubs port → RunsOspfAt prefix port → In (stub_cost port) (map (λ port. stub_cost port) (filter (λ port. runs_at prefix port) stubs))
cost-in stubs prefix port i r = In-map (λ port. stub_cost port) port (filter (λ port. runs_at prefix port) stubs) (In-filter (λ port. runs_at prefix port) port stubs (In-from_Contains port stubs i) (test-from_runs prefix port r))

least_cost-from : (stubs : List Port) (prefix : PrefixValue) (found : Option ℕ) → IsLeastFrom None (map (λ port. stub_cost port) (filter (λ port. runs_at prefix port) stubs)) found → IsLeastCost stubs prefix found
least_cost-from stubs prefix None h = λ port i r. h.1 (stub_cost port) (cost-in stubs prefix port i r)
least_cost-from stubs prefix (Some c) h = (⊎_elim (λ e. none_some c e) found h.0, λ port i r. h.1 (stub_cost port) (inr (cost-in stubs prefix port i r))) where
  found : In c (map (λ port. stub_cost port) (filter (λ port. runs_at prefix port) stubs)) → (port : Port) × Contains stubs port × RunsOspfAt prefix port × (stub_cost port ≡ c)
  found i =
      let w = from-map (λ port. stub_cost port) c (filter (λ port. runs_at prefix port) stubs) i in
      let k = from-filter (λ port. runs_at prefix port) w.0 stubs w.1 in
      (w.0, Contains-from_In w.0 stubs k.0, runs-from_test prefix w.0 k.1, w.2)

IsLeastCost-least_cost : (stubs : List Port) (prefix : PrefixValue) → IsLeastCost stubs prefix (least_cost stubs prefix)
IsLeastCost-least_cost stubs prefix = least_cost-from stubs prefix (least_cost stubs prefix) (least-from None (map (λ port. stub_cost port) (filter (λ port. runs_at prefix port) stubs)))

-- what a router owns
prefixes-map : (of : List Port) (networks prefixes : List PrefixValue) → map (λ (entry : Owned). entry.prefix) (map (λ prefix. owned_of of networks prefix) prefixes) ≡ prefixes
prefixes-map of networks [] = refl
prefixes-map of networks (p ∷ ps) = ap (λ qs. p ∷ qs) (prefixes-map of networks ps)

-- the prefix is among these, by the test
among : (prefixes : List PrefixValue) (prefix : PrefixValue) → (list_any (λ q. same_prefix q prefix) prefixes ≡ true) ↔ Contains prefixes prefix
among prefixes prefix = (
  (λ h. Contains-from_In prefix prefixes (In-there same_prefix same_prefix-equal prefix prefixes h)),
  (λ h. any-from (λ q. same_prefix q prefix) prefix prefixes (In-from_Contains prefix prefixes h) (same_prefix-itself prefix)),
)

among-stubs : (of : List Port) (prefix : PrefixValue) → (has_stub of prefix ≡ true) ↔ Contains (map (λ port. port.subnet) of) prefix
among-stubs of prefix =
    let e = list_any-map (λ port. port.subnet) (λ q. same_prefix q prefix) of in
    let law = among (map (λ port. port.subnet) of) prefix in
    ((λ h. law.0 (e ∙ h)), (λ h. sym e ∙ law.1 h))

all-owned : (of : List Port) (networks : List PrefixValue) (P : Owned → Type 0) → ((prefix : PrefixValue) → P (owned_of of networks prefix)) → All P (owned_by of networks)
all-owned of networks P h =
    All-from_recursion P (owned_by of networks) (All-map (λ prefix. owned_of of networks prefix) P (prefixes_of of networks)
    (AllByRecursion-weaker (λ _. Unit {0}) (λ prefix. P (owned_of of networks prefix)) (λ prefix _. h prefix) (prefixes_of of networks) (every (prefixes_of of networks))))

AreOwned-owned_by : (of : List Port) (networks : List PrefixValue) → AreOwned of networks (owned_by of networks)
AreOwned-owned_by of networks = record {
  prefixes = rw (prefixes-map of networks (prefixes_of of networks)) (IsAscending-ascending same_prefix prefix_before prefix_order same_prefix-equal (map (λ port. port.subnet) of ++ networks));
  costs = all-owned of networks (λ (entry : Owned). IsLeastCost of entry.prefix entry.ospf_cost) (λ prefix. IsLeastCost-least_cost of prefix);
  from_networks = all-owned of networks (λ (entry : Owned). (entry.network ≡ true) ↔ Contains networks entry.prefix) (λ prefix. among networks prefix);
  from_stubs = all-owned of networks (λ (entry : Owned). (entry.stub ≡ true) ↔ Contains (map (λ port. port.subnet) of) entry.prefix) (λ prefix. among-stubs of prefix);
}

IsRouterOf-router_of : (configs : List RouterConfig) (k : ℕ) (config : RouterConfig) → slice_get (in_order configs) k ≡ Some config → IsConfig config → IsRouterOf configs (communities configs) k (router_of (ports configs) (communities configs) k config)
IsRouterOf-router_of configs k config at c = record {
  config = config;
  config_at = at;
  host = refl;
  asn = refl;
  owned = AreOwned-owned_by (stubs (ports configs) k) (networks_of config);
  connected = IsRedistribution-connected config config.bgp c.bgp;
  ospf = IsRedistribution-ospf config config.bgp c.bgp;
  prefix_lists = refl;
  community_lists = community_lists-alike (communities configs) config.community_lists;
  maps = maps-alike (communities configs) config c.maps;
}

IsRouterOf-at : (configs : List RouterConfig) → All IsConfig configs → (k : ℕ) (router : Router) → slice_get (routers_from (ports configs) (communities configs) 0 (in_order configs)) k ≡ Some router → IsRouterOf configs (communities configs) k router
IsRouterOf-at configs all k router e = go (slice_get (in_order configs) k) refl (at-place IsConfig (in_order configs) k (configs-are configs all)) (sym (router-at (ports configs) (communities configs) 0 (in_order configs) k) ∙ e) where
  none : (r : Router) → None ≡ Some r → ⊥
  none r e = cc

  same : (a b : Router) → Some a ≡ Some b → a ≡ b
  same a b e = cc

  go : (o : Option RouterConfig) → slice_get (in_order configs) k ≡ o → IfSome o IsConfig → option_map (λ config. router_of (ports configs) (communities configs) (0 + k) config) o ≡ Some router → IsRouterOf configs (communities configs) k router
  go None f h g = absurd (none router g)
  go (Some config) f h g =
      let P : Router → Type 0 = λ r. IsRouterOf configs (communities configs) k r in
      let is = ap (λ (n : ℕ). router_of (ports configs) (communities configs) n config) (sym (zero-add k)) ∙ same (router_of (ports configs) (communities configs) (0 + k) config) router g in
      subst P is (IsRouterOf-router_of configs k config f h)

pub IsNetworkOf-net_of : (configs : List RouterConfig) → All IsConfig configs → IsNetworkOf configs (net_of configs)
IsNetworkOf-net_of configs all = record {
  hosts = rw (hosts-routers_from (ports configs) (communities configs) 0 (in_order configs), hosts-in_order configs) (IsAscending-ascending same_text text_before text_order same_text-equal (map (λ (config : RouterConfig). config.host) configs));
  routers = IsRouterOf-at configs all;
  links = record { rise = subnets-links_of (in_order configs) (ports configs); each = each-link (in_order configs) (ports configs); complete = complete-links (in_order configs) (ports configs) };
  sessions = sessions-links_of (in_order configs) (wires (ports configs));
  communities = IsAscending-ascending nat_eq nat_lt number_order number-equal (no_export ∷ no_advertise ∷ named_values configs);
  sides = sides-links_of (in_order configs) (wires (ports configs));
  notices = AreNotices-notices (in_order configs) (links_of (in_order configs) (wires (ports configs)));
}

-- what is true of the network is true of an answer, whatever refusals were tried
of-answer : (configs : List RouterConfig) (P : NetValue → Type 0) (tried : List (Option NetRefusal)) (answer : Result NetValue NetRefusal) → P (net_of configs) → Answers (unless tried (net_of configs)) answer → IfOk answer P
of-answer configs P tried (Err refusal) h e = tt
of-answer configs P tried (Ok net) h e = subst P (value tried e) h where
  same : (m n : NetValue) → (let r : Result NetValue NetRefusal = Ok m in r) ≡ Ok n → m ≡ n
  same m n e = cc

  value : (rs : List (Option NetRefusal)) → unless rs (net_of configs) ≡ Ok net → net_of configs ≡ net
  value [] e = same (net_of configs) net e
  value (Some r ∷ rs) e = absurd (false≢true cc)
  value (None ∷ rs) e = value rs e

pub IsNetworkOf-answer : (configs : List RouterConfig) → All IsConfig configs → (tried : List (Option NetRefusal)) (answer : Result NetValue NetRefusal) → Answers (unless tried (net_of configs)) answer → IfOk answer (λ net. IsNetworkOf configs net)
IsNetworkOf-answer configs all tried answer e = of-answer configs (λ net. IsNetworkOf configs net) tried answer (IsNetworkOf-net_of configs all) e

pub SessionsHaveAsns-answer : (configs : List RouterConfig) (tried : List (Option NetRefusal)) (answer : Result NetValue NetRefusal) → Answers (unless tried (net_of configs)) answer → IfOk answer (λ net. SessionsHaveAsns net)
SessionsHaveAsns-answer configs tried answer e = of-answer configs (λ net. SessionsHaveAsns net) tried answer (SessionsHaveAsns-net_of configs) e
