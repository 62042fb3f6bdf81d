-- Places by key: where in a list the first item of each key stands.
use Rattle.std.specs.Prelude.{ℕ, ◌≡◌, ◌==◌, List, position, String}
use Rattle.std.specs.BTreeMap.{BTreeMap, get, get_by_text}
use Rattle.std.specs.Ordering.{nat_cmp, ordering_then}
use Rattle.net_types.specs.Order.{same_text}
use Rattle.net_types.specs.PrefixValue.{PrefixValue}
use Rattle.net_types.specs.Prefixes.{same_prefix}
use Rattle.net_types.specs.declared.config.Neighbor.{Neighbor}

-- each name's place among the items, as they are named
abbrev pub HasPlaces : {A Y : Type 0} → (A → List ℕ) → List A → BTreeMap (String Y) ℕ → Type 0
HasPlaces name_of items places = (name : List ℕ) → get_by_text places name ≡ position (λ x. same_text (name_of x) name) items

-- each address's place among the neighbors
abbrev pub HasAddressPlaces : List Neighbor → BTreeMap ℕ ℕ → Type 0
HasAddressPlaces neighbors places = (address : ℕ) → get nat_cmp places address ≡ position (λ (n : Neighbor). n.address == address) neighbors

-- each prefix's place among these
abbrev pub HasPrefixPlaces : List PrefixValue → BTreeMap (ℕ × ℕ) ℕ → Type 0
HasPrefixPlaces prefixes places =
    (p : PrefixValue) → get (λ x y. ordering_then (nat_cmp x.0 y.0) (nat_cmp x.1 y.1)) places (p.bits, p.len) ≡ position (λ q. same_prefix q p) prefixes
