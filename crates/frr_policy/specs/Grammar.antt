-- How the words of a line are read: a value from the front, then the words behind it.
use Rattle.std.specs.Prelude.{ℕ, ◌≡◌, List, [], ◌∷◌, Option, Some, None, option_map, if◌then◌else◌}
use Rattle.net_types.specs.Order.{same_text}

-- the first word, read as a value
abbrev pub first : {A : Type 0} → (List ℕ → Option A) → List (List ℕ) → Option (A × List (List ℕ))
first value [] = None
first value (word ∷ more) = option_map (λ a. (a, more)) (value word)

-- what is read behind a value
abbrev pub and_then : {A B : Type 0} → Option (A × List (List ℕ)) → (A → List (List ℕ) → Option B) → Option B
and_then None next = None
and_then (Some a) next = next a.0 a.1

-- an optional keyword with a value: none where the words do not begin with the keyword
abbrev pub optional : {A : Type 0} → List ℕ → (List ℕ → Option A) → List (List ℕ) → Option (Option A × List (List ℕ))
optional keyword value [] = Some (None, [])
optional keyword value (word ∷ more) =
    if same_text keyword word then option_map (λ a. (Some a.0, a.1)) (first value more) else Some (None, word ∷ more)

abbrev pub if_alone : {A : Type 0} → A → List (List ℕ) → Option A
if_alone a [] = Some a
if_alone a (_ ∷ _) = None

-- a value with no word behind it
abbrev pub alone : {A : Type 0} → Option (A × List (List ℕ)) → Option A
alone reading = and_then reading if_alone

-- one word, read as a value
abbrev pub one : {A : Type 0} → (List ℕ → Option A) → List (List ℕ) → Option A
one value words = alone (first value words)

-- one more value before those of the words behind it, if the word is a value
abbrev pub value_before : List (List ℕ) → Option ℕ → List ℕ × List (List ℕ) → List ℕ × List (List ℕ)
value_before words None behind = ([], words)
value_before words (Some a) behind = (a ∷ behind.0, behind.1)

-- the values of the words up to the first that is no value, and the words from there on
abbrev pub leading : (List ℕ → Option ℕ) → List (List ℕ) → List ℕ × List (List ℕ)
leading value [] = ([], [])
leading value (word ∷ more) = value_before (word ∷ more) (value word) (leading value more)

-- one or more values with no word behind them
abbrev pub some_alone : List ℕ × List (List ℕ) → Option (List ℕ)
some_alone ([], _) = None
some_alone (a ∷ more, []) = Some (a ∷ more)
some_alone (_ ∷ _, _ ∷ _) = None

-- what a call took from the front of some words, by what is read there, and the words that it left; where
-- nothing is read, it leaves any words
abbrev pub Took : {A : Type 0} → Option (A × List (List ℕ)) → List (List ℕ) → Option A → Type 0
Took reading left (Some a) = reading ≡ Some (a, left)
Took reading left None = reading ≡ None

-- the same where the words stay as they are when nothing is read
abbrev pub TookIfThere : {A : Type 0} → Option (A × List (List ℕ)) → List (List ℕ) → List (List ℕ) → Option A → Type 0
TookIfThere reading words left (Some a) = reading ≡ Some (a, left)
TookIfThere reading words left None = (reading ≡ None) × (left ≡ words)
