-- The fields of a head, by name.
use Rattle.std.specs.Prelude.{ℕ, List, Bool, Option, map, count_by, find, option_map, nat_eq}
use Rattle.std.specs.Cmp.Lexicographic.{pointwise}
use Rattle.std.specs.Char.{to_ascii_lowercase}

-- two names are the same without case
abbrev pub same_name : List ℕ → List ℕ → Bool
same_name a b = pointwise nat_eq (map to_ascii_lowercase a) (map to_ascii_lowercase b)

abbrev pub is_named : List ℕ → List ℕ × List ℕ → Bool
is_named name field = same_name field.0 name

abbrev pub count_named : List ℕ → List (List ℕ × List ℕ) → ℕ
count_named name fields = count_by (is_named name) fields

abbrev pub value_named : List ℕ → List (List ℕ × List ℕ) → Option (List ℕ)
value_named name fields = option_map (λ f. f.1) (find (is_named name) fields)
