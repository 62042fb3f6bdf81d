-- What holds of the words, and of what all seats know of them, between any two steps; and what each step tells its seat.
-- A seat's view is the words at the start, the roof, and what the seat raised itself. All of this is the project's own.
use Rattle.std.specs.Prelude.{◌≡◌, ℕ, suc, ◌<◌, ◌⊎◌, List, [], ◌∷◌, length, slice_index, slice_set}
use mathlib.Core.Option.{some}
use lib.ListN.{get_elem?}
use Rattle.atomic_table.specs.Table.{State, Me, Step}
use Rattle.flow_board.specs.Order.{kind_of, Below, merged, AllBelow, blank}
use Rattle.flow_board.specs.declared.view.View.{View}
use Rattle.flow_board.specs.declared.view.View.TheVariants.{Alone, Live, Spent}

-- a seat knows this start and roof, and the words are at or above what it raised; a seat that was joined to another knows
-- nothing
abbrev pub Knows : List ℕ → List ℕ → List ℕ → View → Type 0
Knows words start roof (Alone s) = ⊥
Knows words start roof (Live s r own) = (s ≡ start) × (r ≡ roof) × (length own ≡ length words) × AllBelow own words
Knows words start roof Spent = Unit {0}

-- the words lie between one start and one roof, which all seats know, and at or above what each has raised
pub record IsKept (words : List ℕ) (views : List View) (start roof : List ℕ) : Type 0 where
  pub start_long : length start ≡ length words
  pub roof_long : length roof ≡ length words
  pub above : AllBelow start words
  pub under : AllBelow words roof
  pub known : (k : ℕ) (v : View) → get_elem? views k ≡ some v → Knows words start roof v

-- the board has just been made, and its only seat knows the words; or the roof is named
abbrev pub Kept : State (Unit {0}) View → Type 0
Kept s = (s.views ≡ Alone s.words ∷ []) ⊎ ((start : List ℕ) × (roof : List ℕ) × IsKept s.words s.views start roof)

-- the word may be raised by the value, which is at or below the roof
abbrev pub Fits : ℕ → ℕ → View → Type 0
Fits i k (Live s r own) = (i < length own) × Below (kind_of i) k (slice_index r i)
Fits i k _ = ⊥

-- the seat may read this word
abbrev pub IsLive : ℕ → View → Type 0
IsLive i (Live s r own) = i < length own
IsLive i _ = ⊥

-- what a raise of a word tells: the seat has raised it by the value, and found it between what it knew and the roof
abbrev pub Told : ℕ → ℕ → View → ℕ → View → Type 0
Told i k (Live s r own) found w =
    (w ≡ Live s r (slice_set own i (merged (kind_of i) (slice_index own i) k)))
    × Below (kind_of i) (slice_index s i) found × Below (kind_of i) (slice_index own i) found × Below (kind_of i) found (slice_index r i)
Told i k _ found w = Unit {0}

-- the same of a step of the table
abbrev pub Raises : Step (Unit {0}) → Me (Unit {0}) View → ℕ → Me (Unit {0}) View → Type 0
Raises t me found w = Told t.word t.first me.0 found w.0 × (w.1 ≡ me.1)

-- what a load tells: the seat found the word between what it knows and the roof
abbrev pub Looked : ℕ → View → ℕ → View → Type 0
Looked i (Live s r own) found w =
    (w ≡ Live s r own)
    × Below (kind_of i) (slice_index s i) found × Below (kind_of i) (slice_index own i) found × Below (kind_of i) found (slice_index r i)
Looked i _ found w = Unit {0}

-- the same of a step of the table
abbrev pub Looks : Step (Unit {0}) → Me (Unit {0}) View → ℕ → Me (Unit {0}) View → Type 0
Looks t me found w = Looked t.word me.0 found w.0 × (w.1 ≡ me.1)

-- the raises of both, word by word
abbrev pub merge_from : ℕ → List ℕ → List ℕ → List ℕ
merge_from i [] ys = []
merge_from i (x ∷ xs) ys = merged (kind_of i) x (slice_index ys i) ∷ merge_from (suc i) xs ys

-- what the first of two joined seats knows
abbrev pub both_of : View → View → View
both_of (Live s r own) (Live s' r' own') = Live s r (merge_from 0 own own')
both_of v w = v

-- the roof is named
abbrev pub Settled : View → List ℕ → View → Type 0
Settled (Alone ws) r w = w ≡ Live ws r (blank ws)
Settled _ r w = Unit {0}

-- the seat may be split
abbrev pub IsSplitable : View → Type 0
IsSplitable (Live s r own) = Unit {0}
IsSplitable _ = ⊥

-- the seats may be joined
abbrev pub AreJoinable : View → View → Type 0
AreJoinable (Live s r own) (Live s' r' own') = Unit {0}
AreJoinable v w = ⊥

-- the words at the end are at or above the start and the raises, and under the roof
abbrev pub Closes : View → List ℕ → Type 0
Closes (Live s r own) ws = AllBelow s ws × AllBelow own ws × AllBelow ws r
Closes _ ws = Unit {0}
