-- How a word rises, by its place in a row of fourteen: its order, and the least word above two.
use Rattle.std.specs.Prelude.{ℕ, suc, ◌≤◌, ◌<◌, ◌%◌, min, max, bit_and, bit_or, List, [], ◌∷◌, if◌then◌else◌, nat_lt, length, slice_index}
use Rattle.std.specs.Int.{bit_at}

-- how a word rises: a lower end falls, an upper end grows, a set gains or loses members
pub data Kind : Type 0 where
  low high gain lose : Kind

-- the kind of a place in a row: five lower ends, five upper ends, `has`, `lacks` and `may`, and `must`
abbrev pub kind_at : ℕ → Kind
kind_at k = if nat_lt k 5 then low else if nat_lt k 10 then high else if nat_lt k 13 then gain else lose

-- the kind of a word of the table
abbrev pub kind_of : ℕ → Kind
kind_of i = kind_at (i % 14)

-- a is below b
abbrev pub Below : Kind → ℕ → ℕ → Type 0
Below low a b = b ≤ a
Below high a b = a ≤ b
Below gain a b = (j : ℕ) → bit_at a j ≤ bit_at b j
Below lose a b = (j : ℕ) → bit_at b j ≤ bit_at a j

-- the least above both
abbrev pub merged : Kind → ℕ → ℕ → ℕ
merged low a b = min a b
merged high a b = max a b
merged gain a b = bit_or a b
merged lose a b = bit_and a b

-- the same word by word
abbrev pub AllBelow : List ℕ → List ℕ → Type 0
AllBelow a b = (i : ℕ) → i < length b → Below (kind_of i) (slice_index a i) (slice_index b i)

-- what is below everything that fits a word
abbrev pub least : Kind → ℕ
least low = 18446744073709551615
least high = 0
least gain = 0
least lose = 18446744073709551615

-- no raises, at so many words from the i-th on
abbrev pub blank_from : ℕ → List ℕ → List ℕ
blank_from i [] = []
blank_from i (x ∷ xs) = least (kind_of i) ∷ blank_from (suc i) xs

abbrev pub blank : List ℕ → List ℕ
blank ws = blank_from 0 ws
