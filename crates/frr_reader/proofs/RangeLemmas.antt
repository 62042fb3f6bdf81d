-- Values that are read from words are in range.
use Rattle.std.proofs.Common.{ℕ, ◌≡◌, ◌<◌, ◌≤◌, ◌^◌, ◌-◌, ◌&&◌, Bool, true, false, List, [], ◌∷◌, Option, Some, None, IfSome, nat_le, option_and_then, option_map, if◌then◌else◌, arith, refl}
use Rattle.std.proofs.lemmas.Bool.Decides.{nat_tests}
use Rattle.net_types.specs.Numerals.{number_in, is_numeral, value}
use Rattle.net_types.specs.Cut.{parts}
use Rattle.net_types.specs.Addresses.{octet, of_octets, address_of, address_of_parts, interface_of, interface_of_parts, with_length}
use Rattle.net_types.specs.PrefixValue.{PrefixValue, IsPrefix}
use Rattle.net_types.specs.Masks.{masked}
use Rattle.net_types.specs.ConfigFacts.{IsAddressed, IsCost}
use Rattle.net_types.proofs.MaskLemmas.{masked_is_prefix}
use Rattle.frr_policy.specs.Values.{masked_prefix_of}
use Rattle.frr_reader.specs.Values.{one, as_of, cost_of, interface_address_of, with_a_length, network_of, area_of}

-- what an `if` gives where it gives something
if_given : {A : Type 0} (P : A → Type 0) (b : Bool) (x : A) → (b ≡ true → P x) → IfSome (if b then Some x else None) P
if_given P true x h = h refl
if_given P false x h = tt

-- a number that is read lies between its bounds
pub number_bounds : (low high : ℕ) (text : List ℕ) → IfSome (number_in low high text) (λ n. (low ≤ n) × (n ≤ high))
number_bounds low high text = if_given (λ n. (low ≤ n) × (n ≤ high)) (is_numeral text && nat_le low (value text) && nat_le (value text) high) (value text) (λ h. (grind (arith, nat_tests), grind (arith, nat_tests)))

octets_word : (a b c d : Option ℕ) → IfSome a (λ n. (0 ≤ n) × (n ≤ 255)) → IfSome b (λ n. (0 ≤ n) × (n ≤ 255)) → IfSome c (λ n. (0 ≤ n) × (n ≤ 255)) → IfSome d (λ n. (0 ≤ n) × (n ≤ 255)) → IfSome (of_octets a b c d) (λ n. n < 2 ^ 32)
octets_word (Some a) (Some b) (Some c) (Some d) ha hb hc hd = omega arith
octets_word None b c d ha hb hc hd = tt
octets_word (Some a) None c d ha hb hc hd = tt
octets_word (Some a) (Some b) None d ha hb hc hd = tt
octets_word (Some a) (Some b) (Some c) None ha hb hc hd = tt

address_of_parts_word : (ps : List (List ℕ)) → IfSome (address_of_parts ps) (λ n. n < 2 ^ 32)
address_of_parts_word [] = tt
address_of_parts_word (a ∷ []) = tt
address_of_parts_word (a ∷ b ∷ []) = tt
address_of_parts_word (a ∷ b ∷ c ∷ []) = tt
address_of_parts_word (a ∷ b ∷ c ∷ d ∷ []) = octets_word (octet a) (octet b) (octet c) (octet d) (number_bounds 0 255 a) (number_bounds 0 255 b) (number_bounds 0 255 c) (number_bounds 0 255 d)
address_of_parts_word (a ∷ b ∷ c ∷ d ∷ e ∷ more) = tt

-- an address with its masked prefix
record IsMasked (a : ℕ × PrefixValue) : Type 0 where
  word : a.0 < 2 ^ 32
  prefix : IsPrefix a.1
  subnet : a.1 ≡ masked a.0 a.1.len

masked_interface : (address len : Option ℕ) → IfSome address (λ n. n < 2 ^ 32) → IfSome len (λ n. (0 ≤ n) × (n ≤ 32)) → IfSome (option_and_then (λ a. with_length a len) address) IsMasked
masked_interface None len ha hl = tt
masked_interface (Some a) None ha hl = tt
masked_interface (Some a) (Some l) ha hl = record { word = ha; prefix = masked_is_prefix a (2 ^ (32 - l)) l ha hl.1 refl; subnet = refl }

interface_of_parts_masked : (ps : List (List ℕ)) → IfSome (interface_of_parts ps) IsMasked
interface_of_parts_masked [] = tt
interface_of_parts_masked (a ∷ []) = tt
interface_of_parts_masked (a ∷ l ∷ []) = masked_interface (address_of a) (number_in 0 32 l) (address_of_parts_word (parts 46 a)) (number_bounds 0 32 l)
interface_of_parts_masked (a ∷ l ∷ m ∷ more) = tt

with_a_length_addressed : (o : Option (ℕ × PrefixValue)) → IfSome o IsMasked → IfSome (option_and_then with_a_length o) IsAddressed
with_a_length_addressed None h = tt
with_a_length_addressed (Some a) h = if_given IsAddressed (nat_le 1 a.1.len) a (λ t. record { word = h.word; prefix = h.prefix; long = grind (arith, nat_tests); subnet = h.subnet })

one_given : {A : Type 0} (P : A → Type 0) (read : List ℕ → Option A) → ((word : List ℕ) → IfSome (read word) P) → (rest : List (List ℕ)) → IfSome (one read rest) P
one_given P read h [] = tt
one_given P read h (word ∷ []) = h word
one_given P read h (word ∷ next ∷ more) = tt

pub address_addressed : (rest : List (List ℕ)) → IfSome (one interface_address_of rest) IsAddressed
address_addressed rest = one_given IsAddressed interface_address_of (λ word. with_a_length_addressed (interface_of word) (interface_of_parts_masked (parts 47 word))) rest

cost_bounds : (o : Option ℕ) → IfSome o (λ n. (1 ≤ n) × (n ≤ 65535)) → IfSome o IsCost
cost_bounds None h = tt
cost_bounds (Some n) h = record { least = h.0; most = h.1 }

pub cost_is_cost : (rest : List (List ℕ)) → IfSome (one cost_of rest) IsCost
cost_is_cost rest = one_given IsCost cost_of (λ word. cost_bounds (number_in 1 65535 word) (number_bounds 1 65535 word)) rest

prefix_of_masked : (o : Option (ℕ × PrefixValue)) → IfSome o IsMasked → IfSome (option_map (λ a. a.1) o) IsPrefix
prefix_of_masked None h = tt
prefix_of_masked (Some a) h = h.prefix

area_then : (area : Option ℕ) (prefix : Option PrefixValue) → IfSome prefix IsPrefix → IfSome (option_and_then (λ _. prefix) area) IsPrefix
area_then None prefix h = tt
area_then (Some a) prefix h = h

if_kept : {A : Type 0} (P : A → Type 0) (b : Bool) (o : Option A) → IfSome o P → IfSome (if b then o else None) P
if_kept P true o h = h
if_kept P false o h = tt

pub network_prefix : (rest : List (List ℕ)) → IfSome (network_of rest) IsPrefix
network_prefix [] = tt
network_prefix (a ∷ []) = tt
network_prefix (a ∷ b ∷ []) = tt
network_prefix (prefix ∷ word ∷ area ∷ []) = if_kept IsPrefix _ (option_and_then (λ _. masked_prefix_of prefix) (area_of area)) (area_then (area_of area) (masked_prefix_of prefix) (prefix_of_masked (interface_of prefix) (interface_of_parts_masked (parts 47 prefix))))
network_prefix (a ∷ b ∷ c ∷ d ∷ more) = tt

pub prefix_of_word : (word : List ℕ) → IfSome (masked_prefix_of word) IsPrefix
prefix_of_word word = prefix_of_masked (interface_of word) (interface_of_parts_masked (parts 47 word))

-- the prefix of a `network` line of BGP
pub bgp_network_prefix : (rest : List (List ℕ)) → IfSome (one masked_prefix_of rest) IsPrefix
bgp_network_prefix rest = one_given IsPrefix masked_prefix_of prefix_of_word rest

pub address_word : (word : List ℕ) → IfSome (address_of word) (λ n. n < 2 ^ 32)
address_word word = address_of_parts_word (parts 46 word)

-- an AS number
pub record IsAs (n : ℕ) : Type 0 where
  pub least : 1 ≤ n
  pub word : n < 2 ^ 32

as_bounds : (o : Option ℕ) → IfSome o (λ n. (1 ≤ n) × (n ≤ 4294967295)) → IfSome o IsAs
as_bounds None h = tt
as_bounds (Some n) h = let k = h.1 in record { least = h.0; word = omega arith }

pub as_is_as : (rest : List (List ℕ)) → IfSome (one as_of rest) IsAs
as_is_as rest = one_given IsAs as_of (λ word. as_bounds (number_in 1 4294967295 word) (number_bounds 1 4294967295 word)) rest
