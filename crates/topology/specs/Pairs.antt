-- The least pair of positions whose items meet.
use Rattle.std.specs.Prelude.{ℕ, ◌+◌, Bool, false, ◌||◌, List, [], ◌∷◌, Option, Some, None, option_map, position, if◌then◌else◌}
use Rattle.std.specs.List.{list_any}

-- how far behind an item the first stands that it meets: itself where it meets itself, else among those behind it
abbrev pub partner : {A : Type 0} → (A → Bool) → (A → A → Bool) → A → List A → Option ℕ
partner itself meets x xs = if itself x then Some 0 else option_map (λ k. k + 1) (position (λ y. meets x y) xs)

abbrev pub pair_or : ℕ → Option ℕ → Option (ℕ × ℕ) → Option (ℕ × ℕ)
pair_or at (Some far) later = Some (at, at + far)
pair_or at None later = later

-- the least pair of positions of items that meet, by the first and then by the second; positions begin at `at`
abbrev pub least_pair : {A : Type 0} → (A → Bool) → (A → A → Bool) → ℕ → List A → Option (ℕ × ℕ)
least_pair itself meets at [] = None
least_pair itself meets at (x ∷ xs) = pair_or at (partner itself meets x xs) (least_pair itself meets (at + 1) xs)

-- some item meets one behind it
abbrev pub any_pair : {A : Type 0} → (A → A → Bool) → List A → Bool
any_pair meets [] = false
any_pair meets (x ∷ xs) = list_any (λ y. meets x y) xs || any_pair meets xs
