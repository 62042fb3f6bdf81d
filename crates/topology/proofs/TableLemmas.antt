-- Tables by prefix: of the members of groups, and of what a router owns.
use Rattle.std.proofs.Common.{ℕ, zero, suc, ◌≡◌, ◌≤◌, ◌==◌, ◌&&◌, ◌||◌, Bool, true, false, cond, nat_lt, List, [], ◌∷◌, map, fold, length, take, drop, refl, ap, sym, ◌∙◌, arith, Option, Some, None}
use Rattle.std.specs.Prelude.{unwrap_or}
use Rattle.std.specs.List.{filter}
use Rattle.std.specs.BTreeMap.{BTreeMap, Updates}
use Rattle.std.specs.Ordering.{nat_cmp, ordering_then, is_eq}
use Rattle.std.specs.declared.cmp.Ordering.TheVariants.{Less, Equal, Greater}
use Rattle.std.proofs.lemmas.Bool.Decides.{nat_tests}
use Rattle.std.proofs.lemmas.List.Folds.{fold_stays}
use Rattle.net_types.specs.PrefixValue.{PrefixValue}
use Rattle.net_types.specs.Prefixes.{same_prefix}
use Rattle.net_types.specs.declared.network.Owned.{Owned}
use Rattle.topology.specs.declared.interfaces.Port.{Port}
use Rattle.topology.specs.declared.groups.Members.{Members}
use Rattle.topology.specs.declared.groups.Members.TheVariants.{More}
use Rattle.topology.specs.Live.{can_link}
use Rattle.topology.specs.Groups.{group, kind_of, kind_at}
use Rattle.topology.specs.ByPrefix.{value_at}
use Rattle.topology.specs.Members.{with_member, members_of, kind_of_members, IsTableOf}
use Rattle.topology.specs.Owning.{lesser, stub_cost, has_stub, has_network, least_cost, owned_of, prefixes_of, owned_by}
use Rattle.topology.specs.OwnedTable.{not_owned, owned_at, with_stub, with_network, IsOwnedTable}
use Rattle.topology.proofs.OrderLaws.{same_prefix-equal}

-- the order of keys tells prefixes apart
key-cases : (l e m f : Bool) → (l ≡ true → e ≡ false) → (m ≡ true → f ≡ false) → is_eq (ordering_then (cond l Less (cond e Equal Greater)) (cond m Less (cond f Equal Greater))) ≡ (e && f)
key-cases true e m f h k = rw (h refl) refl
key-cases false true true f h k = sym (k refl)
key-cases false true false true h k = refl
key-cases false true false false h k = refl
key-cases false false m f h k = refl

key-same : (a b c d : ℕ) → is_eq (ordering_then (nat_cmp a c) (nat_cmp b d)) ≡ ((a == c) && (b == d))
key-same a b c d = key-cases (nat_lt a c) (a == c) (nat_lt b d) (b == d) (apart a c) (apart b d) where
  apart : (x y : ℕ) → nat_lt x y ≡ true → (x == y) ≡ false
  apart x y h = grind (arith, nat_tests)

pub put-at : {X : Type 0} (old new : BTreeMap (ℕ × ℕ) X) (p : PrefixValue) (x : X) → Updates (λ a b. ordering_then (nat_cmp a.0 b.0) (nat_cmp a.1 b.1)) old new (p.bits, p.len) (Some x) → (q : PrefixValue) → value_at new q ≡ cond (same_prefix p q) (Some x) (value_at old q)
put-at old new p x u q = u.0 (q.bits, q.len) ∙ ap (λ b. cond b (Some x) (value_at old q)) (key-same p.bits p.len q.bits q.len)

-- what was put at a prefix, made of what was there
pub put-made : {X Y : Type 0} (at : PrefixValue → Y) (f : Y → X) (p q : PrefixValue) (x : X) (o : Option X) → x ≡ f (at p) → cond (same_prefix p q) (Some x) o ≡ cond (same_prefix p q) (Some (f (at q))) o
put-made at f p q x o h = go (same_prefix p q) refl where
  go : (b : Bool) → same_prefix p q ≡ b → cond b (Some x) o ≡ cond b (Some (f (at q))) o
  go true e = ap Some (h ∙ ap (λ s. f (at s)) (same_prefix-equal p q e))
  go false e = refl

pub unwrapped : {X : Type 0} (b : Bool) (x d : X) (o : Option X) → unwrap_or (cond b (Some x) o) d ≡ cond b x (unwrap_or o d)
unwrapped true x d o = refl
unwrapped false x d o = refl

-- the members of a group
abbrev pub grow : Option Members → List Port → Option Members
grow members ports = fold (λ members port. Some (with_member members port)) members ports

pub grown : (port : Port) (rest : List Port) (q : PrefixValue) (old new : Option Members) → can_link port.loopback port.subnet ≡ true → new ≡ cond (same_prefix port.subnet q) (Some (with_member old port)) old → grow new (group rest q) ≡ grow old (group (port ∷ rest) q)
grown port rest q old new can e = rw (can, e) (go (same_prefix port.subnet q)) where
  go : (b : Bool) → grow (cond b (Some (with_member old port)) old) (group rest q) ≡ grow old (cond b (port ∷ group rest q) (group rest q))
  go true = refl
  go false = refl

pub not-grown : (port : Port) (rest : List Port) (q : PrefixValue) (old : Option Members) → can_link port.loopback port.subnet ≡ false → grow old (group rest q) ≡ grow old (group (port ∷ rest) q)
not-grown port rest q old can = rw can refl

pub kind-members : (ports : List Port) → kind_of_members (members_of ports) ≡ kind_of ports
kind-members [] = refl
kind-members (a ∷ []) = refl
kind-members (a ∷ b ∷ []) = refl
kind-members (a ∷ b ∷ c ∷ rest) = ap kind_of_members (fold_stays (λ members port. Some (with_member members port)) (Some More) (λ port. refl) rest)

pub kind-at : (ports : List Port) (table : BTreeMap (ℕ × ℕ) Members) (subnet : PrefixValue) → IsTableOf ports table → kind_of_members (value_at table subnet) ≡ kind_at ports subnet
kind-at ports table subnet h = ap kind_of_members (h subnet) ∙ kind-members (group ports subnet)

-- an entry with the stubs of its prefix, and with its `network` lines
abbrev pub stubs_onto : PrefixValue → Owned → List Port → Owned
stubs_onto q owned [] = owned
stubs_onto q owned (port ∷ ports) = stubs_onto q (cond (same_prefix port.subnet q) (with_stub owned port) owned) ports

abbrev pub networks_onto : PrefixValue → Owned → List PrefixValue → Owned
networks_onto q owned [] = owned
networks_onto q owned (network ∷ networks) = networks_onto q (cond (same_prefix network q) (with_network owned) owned) networks

abbrev costs_onto : Option ℕ → PrefixValue → List Port → Option ℕ
costs_onto cost q stubs = fold (λ least n. lesser least n) cost (map (λ port. stub_cost port) (filter (λ port. port.ospf && same_prefix port.subnet q) stubs))

or_at : (a : Bool) → (a || false) ≡ a
or_at true = refl
or_at false = refl

or_middle : (a b : Bool) → (true || b) ≡ (a || (true || b))
or_middle true b = refl
or_middle false b = refl

stubs-onto : (q : PrefixValue) (p : PrefixValue) (n s : Bool) (cost : Option ℕ) (stubs : List Port) → stubs_onto q (record { prefix = p; network = n; stub = s; ospf_cost = cost }) stubs ≡ record { prefix = p; network = n; stub = s || has_stub stubs q; ospf_cost = costs_onto cost q stubs }
stubs-onto q p n s cost [] = let e : s ≡ (s || false) = sym (or_at s) in λ i. record { prefix = p; network = n; stub = e i; ospf_cost = cost }
stubs-onto q p n s cost (port ∷ ports) = go (same_prefix port.subnet q) port.ospf (λ s cost. stubs-onto q p n s cost ports) where
  go : (b o : Bool) → ((s : Bool) (cost : Option ℕ) → stubs_onto q (record { prefix = p; network = n; stub = s; ospf_cost = cost }) ports ≡ record { prefix = p; network = n; stub = s || has_stub ports q; ospf_cost = costs_onto cost q ports }) → stubs_onto q (cond b (record { prefix = p; network = n; stub = true; ospf_cost = cond o (lesser cost (stub_cost port)) cost }) (record { prefix = p; network = n; stub = s; ospf_cost = cost })) ports ≡ record { prefix = p; network = n; stub = s || (b || has_stub ports q); ospf_cost = fold (λ least n. lesser least n) cost (map (λ port. stub_cost port) (cond (o && b) (port ∷ filter (λ port. port.ospf && same_prefix port.subnet q) ports) (filter (λ port. port.ospf && same_prefix port.subnet q) ports))) }
  go true true f = f true (lesser cost (stub_cost port)) ∙ (let e = or_middle s (has_stub ports q) in λ i. record { prefix = p; network = n; stub = e i; ospf_cost = costs_onto (lesser cost (stub_cost port)) q ports })
  go true false f = f true cost ∙ (let e = or_middle s (has_stub ports q) in λ i. record { prefix = p; network = n; stub = e i; ospf_cost = costs_onto cost q ports })
  go false true f = f s cost
  go false false f = f s cost

networks-onto : (q : PrefixValue) (p : PrefixValue) (n s : Bool) (cost : Option ℕ) (networks : List PrefixValue) → networks_onto q (record { prefix = p; network = n; stub = s; ospf_cost = cost }) networks ≡ record { prefix = p; network = n || has_network networks q; stub = s; ospf_cost = cost }
networks-onto q p n s cost [] = let e : n ≡ (n || false) = sym (or_at n) in λ i. record { prefix = p; network = e i; stub = s; ospf_cost = cost }
networks-onto q p n s cost (network ∷ networks) = go (same_prefix network q) (λ n. networks-onto q p n s cost networks) where
  go : (b : Bool) → ((n : Bool) → networks_onto q (record { prefix = p; network = n; stub = s; ospf_cost = cost }) networks ≡ record { prefix = p; network = n || has_network networks q; stub = s; ospf_cost = cost }) → networks_onto q (cond b (record { prefix = p; network = true; stub = s; ospf_cost = cost }) (record { prefix = p; network = n; stub = s; ospf_cost = cost })) networks ≡ record { prefix = p; network = n || (b || has_network networks q); stub = s; ospf_cost = cost }
  go true f = f true ∙ (let e = or_middle n (has_network networks q) in λ i. record { prefix = p; network = e i; stub = s; ospf_cost = cost })
  go false f = f n

pub owned-stubs : (q : PrefixValue) (stubs : List Port) → stubs_onto q (not_owned q) stubs ≡ owned_of stubs [] q
owned-stubs q stubs = stubs-onto q q false false None stubs

pub owned-networks : (q : PrefixValue) (stubs : List Port) (networks : List PrefixValue) → networks_onto q (owned_of stubs [] q) networks ≡ owned_of stubs networks q
owned-networks q stubs networks = networks-onto q q false (has_stub stubs q) (least_cost stubs q) networks

pub owned-by : (stubs : List Port) (networks : List PrefixValue) (table : BTreeMap (ℕ × ℕ) Owned) → IsOwnedTable stubs networks table → map (λ prefix. owned_at table prefix) (prefixes_of stubs networks) ≡ owned_by stubs networks
owned-by stubs networks table h = ap (λ f. map f (prefixes_of stubs networks)) (λ i prefix. h prefix i)

-- what is left behind all items, and what is taken of all
pub drop-whole : {A : Type 0} (n : ℕ) (xs : List A) → length xs ≤ n → drop n xs ≡ []
drop-whole zero [] h = refl
drop-whole (suc n) [] h = refl
drop-whole zero (x ∷ xs) h = absurd (omega arith)
drop-whole (suc n) (x ∷ xs) h = drop-whole n xs (omega arith)

pub take-whole : {A : Type 0} (n : ℕ) (xs : List A) → length xs ≤ n → take n xs ≡ xs
take-whole zero [] h = refl
take-whole (suc n) [] h = refl
take-whole zero (x ∷ xs) h = absurd (omega arith)
take-whole (suc n) (x ∷ xs) h = ap (λ ys. x ∷ ys) (take-whole n xs (omega arith))
