-- What each row of BGP keeps: numbers in their ranges, neighbors with addresses of their own, and names that
-- are noted.
use Rattle.std.proofs.Common.{ℕ, ◌≡◌, ◌≢◌, ◌<◌, ◌≤◌, ◌^◌, ◌==◌, Bool, true, false, cond, List, [], ◌∷◌, length, nat_lt, Option, Some, None, Result, Ok, Err, IfSome, IfOk, All, AllPairs, is_some, option_map, option_and_then, slice_get, if◌then◌else◌, refl, arith}
use Rattle.std.specs.List.{list_any, position_or_len}
use Rattle.std.proofs.lemmas.Bool.Decides.{nat_tests}
use Rattle.std.proofs.lemmas.List.Elements.{All-nil, All-cons, All-append, All-set}
use Rattle.std.proofs.lemmas.List.Quantifiers.{all_pairs_push}
use Rattle.net_types.specs.Addresses.{address_of}
use Rattle.net_types.specs.Prefixes.{same_prefix}
use Rattle.net_types.specs.PrefixValue.{IsPrefix}
use Rattle.net_types.specs.declared.config.BgpConfig.{BgpConfig}
use Rattle.net_types.specs.declared.config.Neighbor.{Neighbor}
use Rattle.net_types.specs.declared.config.Redistribute.TheVariants.{Plain, By}
use Rattle.frr_reader.specs.declared.causes.Cause.{Cause}
use Rattle.frr_reader.specs.declared.causes.Cause.TheVariants.{BadValue}
use Rattle.frr_reader.specs.declared.needs.Needed.TheVariants.{Map}
use Rattle.frr_reader.specs.declared.rows.BgpRow.{BgpRow}
use Rattle.frr_reader.specs.declared.rows.BgpRow.TheVariants.{NoPolicy, RemoteAs, NeighborMap, BgpNetwork, Connected, FromOspf, OfNeighbor}
use Rattle.frr_reader.specs.declared.rows.Direction.{Direction}
use Rattle.frr_reader.specs.declared.rows.Direction.TheVariants.{Import, Export}
use Rattle.frr_reader.specs.Answers.{needs, needs_before, unless_set, alone}
use Rattle.frr_policy.specs.Values.{masked_prefix_of}
use Rattle.frr_reader.specs.Values.{as_of, one, is_nothing}
use Rattle.frr_reader.specs.Bgp.{fresh_bgp, second, address_in, place_of_neighbor, named_neighbor, no_policy_line, other_as, fresh_neighbor, with_neighbor, remote_as_line, map_and_direction, map_in, with_map, with_map_at, neighbor_map_line, bgp_network_line, map_behind, redistribution, is_redistributed, connected_line, from_ospf_line, of_neighbor_line, bgp_effect, named_map}
use Rattle.frr_reader.proofs.EntryLemmas.{none_passes, set-pairs, All-at}
use Rattle.frr_reader.proofs.NeedLemmas.{Whole, IsMet, IsNamedNeighbor, IsNamedBy, IsNamedBgp}
use Rattle.frr_reader.proofs.RangeLemmas.{IsAs, as_is_as, address_word, bgp_network_prefix}

pub record IsKeptNeighbor (n : Neighbor) : Type 0 where
  pub address : n.address < 2 ^ 32
  pub asn : n.asn < 2 ^ 32

pub record IsKeptBgp (b : BgpConfig) : Type 0 where
  pub least : 1 ≤ b.asn
  pub word : b.asn < 2 ^ 32
  pub networks : All IsPrefix b.networks
  pub neighbors : All IsKeptNeighbor b.neighbors
  pub addresses : AllPairs (λ (m n : Neighbor). m.address ≢ n.address) b.neighbors

-- answers

pub needs_ok : {A B : Type 0} (Q : A → Type 0) (P : B → Type 0) (o : Option A) (next : A → Result B Cause) → IfSome o Q → ((x : A) → Q x → IfOk (next x) P) → IfOk (needs o next) P
needs_ok Q P None next h k = tt
needs_ok Q P (Some x) next h k = k x h

pub needs_before_ok : {A B : Type 0} (Q : A → Type 0) (P : B → Type 0) (o : Option A) (next : A → Result B Cause) → IfSome o Q → ((x : A) → Q x → IfOk (next x) P) → IfOk (needs_before o next) P
needs_before_ok Q P None next h k = tt
needs_before_ok Q P (Some x) next h k = k x h

pub unless_ok : {A : Type 0} (P : A → Type 0) (b : Bool) (x : A) → (b ≡ false → P x) → IfOk (unless_set b x) P
unless_ok P true x h = tt
unless_ok P false x h = h refl

pub alone_ok : {A : Type 0} (P : A → Type 0) (rest : List (List ℕ)) (x : A) → P x → IfOk (alone rest x) P
alone_ok {A} P rest x h = go (is_nothing rest) where
  go : (b : Bool) → IfOk (if b then Ok x else Err BadValue) P
  go true = h
  go false = tt

pub anything : {A : Type 0} (o : Option A) → IfSome o (λ _. Unit {0})
anything None = tt
anything (Some x) = tt

-- numbers in their ranges

address_in_word : (line : List (List ℕ)) → IfSome (address_in line) (λ n. n < 2 ^ 32)
address_in_word line = go (second line) where
  go : (o : Option (List ℕ)) → IfSome (option_and_then address_of o) (λ n. n < 2 ^ 32)
  go None = tt
  go (Some word) = address_word word

other_as_is : (own : ℕ) (o : Option ℕ) → IfSome o IsAs → IfSome (option_and_then (other_as own) o) IsAs
other_as_is own None h = tt
other_as_is own (Some asn) h = go (asn == own) where
  go : (b : Bool) → IfSome (if b then None else Some asn) IsAs
  go true = tt
  go false = h

-- no neighbor has the address
new_address : (address : ℕ) (ns : List Neighbor) → is_some (place_of_neighbor address ns) ≡ false → All (λ (n : Neighbor). (n.address == address) ≡ false) ns
new_address address ns h = none_passes (λ (n : Neighbor). n.address == address) ns (go (nat_lt (position_or_len (λ (n : Neighbor). n.address == address) ns) (length ns)) refl h) where
  place : ℕ
  place = position_or_len (λ (n : Neighbor). n.address == address) ns

  go : (b : Bool) → nat_lt (position_or_len (λ (n : Neighbor). n.address == address) ns) (length ns) ≡ b → is_some {T = ℕ} (cond b (Some (position_or_len (λ (n : Neighbor). n.address == address) ns)) None) ≡ false → length ns ≤ position_or_len (λ (n : Neighbor). n.address == address) ns
  go true e f = cc
  go false e f = grind (arith, nat_tests)

differs : (a b : ℕ) → (a == b) ≡ false → a ≢ b
differs a b h = λ e. absurd (let f : (a == b) ≡ false = h in grind (arith, nat_tests))

with_neighbor_kept : (address asn : ℕ) (b : BgpConfig) → IsKeptBgp b → address < 2 ^ 32 → IsAs asn → is_some (place_of_neighbor address b.neighbors) ≡ false → IsKeptBgp (with_neighbor address asn b)
with_neighbor_kept address asn b h w a new = record {
  least = h.least;
  word = h.word;
  networks = h.networks;
  neighbors = All-append IsKeptNeighbor b.neighbors (fresh_neighbor address asn ∷ []) h.neighbors (All-cons IsKeptNeighbor (fresh_neighbor address asn) [] (record { address = w; asn = a.word }) (All-nil IsKeptNeighbor));
  addresses = all_pairs_push (λ (m n : Neighbor). m.address ≢ n.address) b.neighbors (fresh_neighbor address asn) h.addresses (λ k d l. differs _ address (new_address address b.neighbors new k d l));
}

remote_as_kept : (line rest : List (List ℕ)) (b : BgpConfig) → IsKeptBgp b → IfOk (remote_as_line line rest b) IsKeptBgp
unfolding remote_as_line
remote_as_kept line rest b h = needs_ok (λ n. n < 2 ^ 32) IsKeptBgp (address_in line) _ (address_in_word line) (λ address w. needs_ok IsAs IsKeptBgp (option_and_then (other_as b.asn) (one as_of rest)) _ (other_as_is b.asn (one as_of rest) (as_is_as rest)) (λ asn a. unless_ok IsKeptBgp (is_some (place_of_neighbor address b.neighbors)) (with_neighbor address asn b) (λ new. with_neighbor_kept address asn b h w a new)))

-- a neighbor with another map keeps its address and its AS
with_map_address : (d : Direction) (name : List ℕ) (n : Neighbor) → (with_map d name n).address ≡ n.address
with_map_address Import name n = refl
with_map_address Export name n = refl

with_map_kept : (d : Direction) (name : List ℕ) (n : Neighbor) → IsKeptNeighbor n → IsKeptNeighbor (with_map d name n)
with_map_kept Import name n h = record { address = h.address; asn = h.asn }
with_map_kept Export name n h = record { address = h.address; asn = h.asn }

with_map_at_kept : (b : BgpConfig) (place : ℕ) (m : List ℕ × Direction) → IsKeptBgp b → (o : Option Neighbor) → slice_get b.neighbors place ≡ o → IfOk (needs_before o (with_map_at b place m)) IsKeptBgp
with_map_at_kept b place m h None e = tt
with_map_at_kept b place m h (Some n) e = unless_ok IsKeptBgp (is_some (map_in m.1 n)) _ (λ _. record {
  least = h.least;
  word = h.word;
  networks = h.networks;
  neighbors = All-set IsKeptNeighbor b.neighbors place (with_map m.1 m.0 n) (with_map_kept m.1 m.0 n (All-at IsKeptNeighbor b.neighbors place n h.neighbors e)) h.neighbors;
  addresses = set-pairs (λ (n : Neighbor). n.address) (λ x y. x ≢ y) (with_map m.1 m.0 n) b.neighbors place n e (with_map_address m.1 m.0 n) h.addresses;
})

neighbor_map_kept : (line rest : List (List ℕ)) (b : BgpConfig) → IsKeptBgp b → IfOk (neighbor_map_line line rest b) IsKeptBgp
unfolding neighbor_map_line
neighbor_map_kept line rest b h = needs_before_ok (λ _. Unit {0}) IsKeptBgp (named_neighbor line b) _ (anything (named_neighbor line b)) (λ place _. needs_ok (λ _. Unit {0}) IsKeptBgp (map_and_direction rest) _ (anything (map_and_direction rest)) (λ m _. with_map_at_kept b place m h (slice_get b.neighbors place) refl))

network_kept : (rest : List (List ℕ)) (b : BgpConfig) → IsKeptBgp b → IfOk (bgp_network_line rest b) IsKeptBgp
unfolding bgp_network_line
network_kept rest b h = needs_ok IsPrefix IsKeptBgp (one masked_prefix_of rest) _ (bgp_network_prefix rest) (λ prefix p. unless_ok IsKeptBgp (list_any (λ q. same_prefix q prefix) b.networks) _ (λ _. record {
  least = h.least;
  word = h.word;
  networks = All-append IsPrefix b.networks (prefix ∷ []) h.networks (All-cons IsPrefix prefix [] p (All-nil IsPrefix));
  neighbors = h.neighbors;
  addresses = h.addresses;
}))

connected_kept : (rest : List (List ℕ)) (b : BgpConfig) → IsKeptBgp b → IfOk (connected_line rest b) IsKeptBgp
unfolding connected_line
connected_kept rest b h = needs_ok (λ _. Unit {0}) IsKeptBgp (redistribution rest) _ (anything (redistribution rest)) (λ r _. unless_ok IsKeptBgp (is_redistributed b.connected) _ (λ _. record { least = h.least; word = h.word; networks = h.networks; neighbors = h.neighbors; addresses = h.addresses }))

from_ospf_kept : (rest : List (List ℕ)) (b : BgpConfig) → IsKeptBgp b → IfOk (from_ospf_line rest b) IsKeptBgp
unfolding from_ospf_line
from_ospf_kept rest b h = needs_ok (λ _. Unit {0}) IsKeptBgp (redistribution rest) _ (anything (redistribution rest)) (λ r _. unless_ok IsKeptBgp (is_redistributed b.ospf) _ (λ _. record { least = h.least; word = h.word; networks = h.networks; neighbors = h.neighbors; addresses = h.addresses }))

no_policy_kept : (rest : List (List ℕ)) (b : BgpConfig) → IsKeptBgp b → IfOk (no_policy_line rest b) IsKeptBgp
unfolding no_policy_line
no_policy_kept rest b h = alone_ok IsKeptBgp rest _ (record { least = h.least; word = h.word; networks = h.networks; neighbors = h.neighbors; addresses = h.addresses })

of_neighbor_kept : (line : List (List ℕ)) (b : BgpConfig) → IsKeptBgp b → IfOk (of_neighbor_line line b) IsKeptBgp
unfolding of_neighbor_line
of_neighbor_kept line b h = needs_before_ok (λ _. Unit {0}) IsKeptBgp (named_neighbor line b) _ (anything (named_neighbor line b)) (λ _ _. h)

pub bgp_effect_kept : (row : BgpRow) (line rest : List (List ℕ)) (b : BgpConfig) → IsKeptBgp b → IfOk (bgp_effect row line rest b) IsKeptBgp
unfolding bgp_effect
bgp_effect_kept NoPolicy line rest b h = no_policy_kept rest b h
bgp_effect_kept RemoteAs line rest b h = remote_as_kept line rest b h
bgp_effect_kept NeighborMap line rest b h = neighbor_map_kept line rest b h
bgp_effect_kept BgpNetwork line rest b h = network_kept rest b h
bgp_effect_kept Connected line rest b h = connected_kept rest b h
bgp_effect_kept FromOspf line rest b h = from_ospf_kept rest b h
bgp_effect_kept OfNeighbor line rest b h = of_neighbor_kept line b h

pub fresh_bgp_kept : (asn : ℕ) → IsAs asn → IsKeptBgp (fresh_bgp asn)
fresh_bgp_kept asn h = record { least = h.least; word = h.word; networks = All-nil IsPrefix; neighbors = All-nil IsKeptNeighbor; addresses = λ i j d l m. absurd (omega arith) }

-- names

with_map_named : (w : Whole) (d : Direction) (name : List ℕ) (n : Neighbor) → w.has_map name ≡ true → IsNamedNeighbor w n → IsNamedNeighbor w (with_map d name n)
with_map_named w Import name n h k = record { «import» = h; «export» = k.export }
with_map_named w Export name n h k = record { «import» = k.import; «export» = h }

with_map_at_named : (w : Whole) (b : BgpConfig) (place : ℕ) (m : List ℕ × Direction) → w.has_map m.0 ≡ true → IsNamedBgp w b → (o : Option Neighbor) → slice_get b.neighbors place ≡ o → IfOk (needs_before o (with_map_at b place m)) (IsNamedBgp w)
with_map_at_named w b place m t h None e = tt
with_map_at_named w b place m t h (Some n) e = unless_ok (IsNamedBgp w) (is_some (map_in m.1 n)) _ (λ _. record {
  connected = h.connected;
  ospf = h.ospf;
  neighbors = All-set (IsNamedNeighbor w) b.neighbors place (with_map m.1 m.0 n) (with_map_named w m.1 m.0 n t (All-at (IsNamedNeighbor w) b.neighbors place n h.neighbors e)) h.neighbors;
})

map_is_there : (w : Whole) (o : Option (List ℕ × Direction)) → IfSome (option_map Map (option_map (λ m. m.0) o)) (IsMet w) → IfSome o (λ m. w.has_map m.0 ≡ true)
map_is_there w None h = tt
map_is_there w (Some m) h = h

neighbor_map_named : (w : Whole) (line rest : List (List ℕ)) (b : BgpConfig) → IsNamedBgp w b → IfSome (option_map Map (option_map (λ m. m.0) (map_and_direction rest))) (IsMet w) → IfOk (neighbor_map_line line rest b) (IsNamedBgp w)
unfolding neighbor_map_line
neighbor_map_named w line rest b h t = needs_before_ok (λ _. Unit {0}) (IsNamedBgp w) (named_neighbor line b) _ (anything (named_neighbor line b)) (λ place _. needs_ok (λ m. w.has_map m.0 ≡ true) (IsNamedBgp w) (map_and_direction rest) _ (map_is_there w (map_and_direction rest) t) (λ m u. with_map_at_named w b place m u h (slice_get b.neighbors place) refl))

redistribution_named : (w : Whole) (rest : List (List ℕ)) → IfSome (option_map Map (map_behind rest)) (IsMet w) → IfSome (redistribution rest) (IsNamedBy w)
redistribution_named w rest h = go (is_nothing rest) (map_behind rest) h where
  go : (b : Bool) (o : Option (List ℕ)) → IfSome (option_map Map o) (IsMet w) → IfSome (if b then Some Plain else option_map By o) (IsNamedBy w)
  go true o k = tt
  go false None k = tt
  go false (Some name) k = k

connected_named : (w : Whole) (rest : List (List ℕ)) (b : BgpConfig) → IsNamedBgp w b → IfSome (option_map Map (map_behind rest)) (IsMet w) → IfOk (connected_line rest b) (IsNamedBgp w)
unfolding connected_line
connected_named w rest b h t = needs_ok (IsNamedBy w) (IsNamedBgp w) (redistribution rest) _ (redistribution_named w rest t) (λ r k. unless_ok (IsNamedBgp w) (is_redistributed b.connected) _ (λ _. record { connected = k; ospf = h.ospf; neighbors = h.neighbors }))

from_ospf_named : (w : Whole) (rest : List (List ℕ)) (b : BgpConfig) → IsNamedBgp w b → IfSome (option_map Map (map_behind rest)) (IsMet w) → IfOk (from_ospf_line rest b) (IsNamedBgp w)
unfolding from_ospf_line
from_ospf_named w rest b h t = needs_ok (IsNamedBy w) (IsNamedBgp w) (redistribution rest) _ (redistribution_named w rest t) (λ r k. unless_ok (IsNamedBgp w) (is_redistributed b.ospf) _ (λ _. record { connected = h.connected; ospf = k; neighbors = h.neighbors }))

remote_as_named : (w : Whole) (line rest : List (List ℕ)) (b : BgpConfig) → IsNamedBgp w b → IfOk (remote_as_line line rest b) (IsNamedBgp w)
unfolding remote_as_line
remote_as_named w line rest b h = needs_ok (λ _. Unit {0}) (IsNamedBgp w) (address_in line) _ (anything (address_in line)) (λ address _. needs_ok (λ _. Unit {0}) (IsNamedBgp w) (option_and_then (other_as b.asn) (one as_of rest)) _ (anything (option_and_then (other_as b.asn) (one as_of rest))) (λ asn _. unless_ok (IsNamedBgp w) (is_some (place_of_neighbor address b.neighbors)) (with_neighbor address asn b) (λ _. record {
  connected = h.connected;
  ospf = h.ospf;
  neighbors = All-append (IsNamedNeighbor w) b.neighbors (fresh_neighbor address asn ∷ []) h.neighbors (All-cons (IsNamedNeighbor w) (fresh_neighbor address asn) [] (record { «import» = tt; «export» = tt }) (All-nil (IsNamedNeighbor w)));
})))

network_named : (w : Whole) (rest : List (List ℕ)) (b : BgpConfig) → IsNamedBgp w b → IfOk (bgp_network_line rest b) (IsNamedBgp w)
unfolding bgp_network_line
network_named w rest b h = needs_ok (λ _. Unit {0}) (IsNamedBgp w) (one masked_prefix_of rest) _ (anything (one masked_prefix_of rest)) (λ prefix _. unless_ok (IsNamedBgp w) (list_any (λ q. same_prefix q prefix) b.networks) _ (λ _. record { connected = h.connected; ospf = h.ospf; neighbors = h.neighbors }))

no_policy_named : (w : Whole) (rest : List (List ℕ)) (b : BgpConfig) → IsNamedBgp w b → IfOk (no_policy_line rest b) (IsNamedBgp w)
unfolding no_policy_line
no_policy_named w rest b h = alone_ok (IsNamedBgp w) rest _ (record { connected = h.connected; ospf = h.ospf; neighbors = h.neighbors })

of_neighbor_named : (w : Whole) (line : List (List ℕ)) (b : BgpConfig) → IsNamedBgp w b → IfOk (of_neighbor_line line b) (IsNamedBgp w)
unfolding of_neighbor_line
of_neighbor_named w line b h = needs_before_ok (λ _. Unit {0}) (IsNamedBgp w) (named_neighbor line b) _ (anything (named_neighbor line b)) (λ _ _. h)

pub bgp_effect_named : (w : Whole) (row : BgpRow) (line rest : List (List ℕ)) (b : BgpConfig) → IsNamedBgp w b → IfSome (option_map Map (named_map row rest)) (IsMet w) → IfOk (bgp_effect row line rest b) (IsNamedBgp w)
unfolding bgp_effect named_map
bgp_effect_named w NoPolicy line rest b h t = no_policy_named w rest b h
bgp_effect_named w RemoteAs line rest b h t = remote_as_named w line rest b h
bgp_effect_named w NeighborMap line rest b h t = neighbor_map_named w line rest b h t
bgp_effect_named w BgpNetwork line rest b h t = network_named w rest b h
bgp_effect_named w Connected line rest b h t = connected_named w rest b h t
bgp_effect_named w FromOspf line rest b h t = from_ospf_named w rest b h t
bgp_effect_named w OfNeighbor line rest b h t = of_neighbor_named w line b h

pub fresh_bgp_named : (w : Whole) (asn : ℕ) → IsNamedBgp w (fresh_bgp asn)
fresh_bgp_named w asn = record { connected = tt; ospf = tt; neighbors = All-nil (IsNamedNeighbor w) }
