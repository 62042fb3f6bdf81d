-- Ascending lists without repeats.
use Rattle.std.specs.Prelude.{◌≡◌, Bool, true, false, List, [], ◌∷◌, Option, Some, None, fold, insert, if◌then◌else◌}
use Rattle.std.specs.List.{list_any, position_or_len}
use Rattle.net_types.specs.PrefixValue.{PrefixValue}
use Rattle.net_types.specs.Prefixes.{same_prefix, prefix_before}

-- an item of this rank is there
abbrev pub is_there : {A : Type 0} → (A → A → Bool) → A → List A → Bool
is_there same x xs = list_any (λ y. same y x) xs

-- an item put at its place in an ascending list, unless one of its rank is there
abbrev pub put : {A : Type 0} → (A → A → Bool) → (A → A → Bool) → List A → A → List A
put same before xs x = if is_there same x xs then xs else insert xs (position_or_len (λ y. before x y) xs) x

-- the items in ascending order, one of each rank
abbrev pub ascending : {A : Type 0} → (A → A → Bool) → (A → A → Bool) → List A → List A
ascending same before xs = fold (λ done x. put same before done x) [] xs

-- an order in which one of two different items comes before the other
pub record IsLinear {A : Type 0} (same before : A → A → Bool) : Type 0 where
  pub trans : (x y z : A) → before x y ≡ true → before y z ≡ true → before x z ≡ true
  pub total : (x y : A) → before x y ≡ false → same y x ≡ false → before y x ≡ true
  pub one_way : (x y : A) → before x y ≡ true → before y x ≡ false
  pub one : (x y : A) → same x y ≡ true → x ≡ y

-- the item is one with the last, if there is a last
abbrev pub is_last : {A : Type 0} → (A → A → Bool) → Option A → A → Bool
is_last same None x = false
is_last same (Some last) x = same last x

-- the items but each that is one with the one kept before it; behind this one
abbrev pub once_behind : {A : Type 0} → (A → A → Bool) → Option A → List A → List A
once_behind same last [] = []
once_behind same last (x ∷ xs) = if is_last same last x then once_behind same last xs else x ∷ once_behind same (Some x) xs

-- the prefixes in ascending order, each once
abbrev pub ascending_prefixes : List PrefixValue → List PrefixValue
ascending_prefixes prefixes = ascending same_prefix prefix_before prefixes
