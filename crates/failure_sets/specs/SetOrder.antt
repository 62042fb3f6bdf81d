-- The failure sets that are permitted, and their order. The order is this project's own.
use Rattle.std.specs.Prelude.{ℕ, ◌≡◌, ◌≤◌, ◌<◌, ◌==◌, ◌&&◌, ◌||◌, Bool, true, false, nat_lt, List, [], ◌∷◌, length, All}
use Rattle.std.specs.List.Sorted.{IsStrictlyIncreasing}

-- a failure set, as the ascending list of its links, of at most `most` links, each below `links`
pub record IsPermitted (links most : ℕ) (set : List ℕ) : Type 0 where
  pub few : length set ≤ most
  pub ascending : IsStrictlyIncreasing set
  pub below : All (λ link. link < links) set

-- the first difference decides
abbrev pub is_lower : List ℕ → List ℕ → Bool
is_lower [] b = false
is_lower (x ∷ a) [] = false
is_lower (x ∷ a) (y ∷ b) = nat_lt x y || (x == y && is_lower a b)

-- fewer links come first; among as many, the lower numbers
abbrev pub comes_before : List ℕ → List ℕ → Bool
comes_before a b = nat_lt (length a) (length b) || (length a == length b && is_lower a b)

-- `next` is the least permitted set after `set`
pub record IsLeastAfter (links most : ℕ) (set next : List ℕ) : Type 0 where
  pub permitted : IsPermitted links most next
  pub after : comes_before set next ≡ true
  pub least : (other : List ℕ) → IsPermitted links most other → comes_before set other ≡ true → comes_before other next ≡ false

-- `set` is the last permitted set
abbrev pub IsLast : ℕ → ℕ → List ℕ → Type 0
IsLast links most set = (other : List ℕ) → IsPermitted links most other → comes_before set other ≡ false
