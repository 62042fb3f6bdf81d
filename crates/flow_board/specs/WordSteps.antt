-- What steps on neighbouring words, one after another, do and tell.
use Rattle.std.specs.Prelude.{◌≡◌, ℕ, suc, ◌+◌, ◌<◌, ◌≤◌, List, [], ◌∷◌, length, slice_index, slice_set}
use Rattle.flow_board.specs.Order.{kind_of, Below, merged}
use Rattle.flow_board.specs.declared.view.View.{View}
use Rattle.flow_board.specs.declared.view.View.TheVariants.{Live}

-- the raises with these words merged in, from the i-th on
abbrev pub raised_from : ℕ → List ℕ → List ℕ → List ℕ
raised_from i [] own = own
raised_from i (x ∷ xs) own = raised_from (suc i) xs (slice_set own i (merged (kind_of i) (slice_index own i) x))

-- the words may be raised there
abbrev pub FitsRow : ℕ → List ℕ → View → Type 0
FitsRow i row (Live s r own) = (i + length row ≤ length own) × ((k : ℕ) → k < length row → Below (kind_of (i + k)) (slice_index row k) (slice_index r (i + k)))
FitsRow i row _ = ⊥

-- the old words that were met: at or above the start and the raises before, and under the roof
abbrev pub ToldRow : ℕ → List ℕ → View → List ℕ → View → Type 0
ToldRow i row (Live s r own) old w =
    (w ≡ Live s r (raised_from i row own))
    × ((k : ℕ) → k < length row → Below (kind_of (i + k)) (slice_index s (i + k)) (slice_index old k)
    × Below (kind_of (i + k)) (slice_index own (i + k)) (slice_index old k)
    × Below (kind_of (i + k)) (slice_index old k) (slice_index r (i + k)))
ToldRow i row _ old w = Unit {0}

-- so many words may be read there
abbrev pub LooksRow : ℕ → ℕ → View → Type 0
LooksRow i n (Live s r own) = i + n ≤ length own
LooksRow i n _ = ⊥

-- the words that were read: at or above the start and the raises before, and under the roof
abbrev pub LookedRow : ℕ → ℕ → View → List ℕ → View → Type 0
LookedRow i n (Live s r own) found w =
    (w ≡ Live s r own)
    × ((k : ℕ) → k < n → Below (kind_of (i + k)) (slice_index s (i + k)) (slice_index found k)
    × Below (kind_of (i + k)) (slice_index own (i + k)) (slice_index found k)
    × Below (kind_of (i + k)) (slice_index found k) (slice_index r (i + k)))
LookedRow i n _ found w = Unit {0}
