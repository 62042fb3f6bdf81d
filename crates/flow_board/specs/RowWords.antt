-- Rows as words: five lower ends, five upper ends, three sets that gain members, one that loses them. The seats of
-- `Rule.antt` know words; what they know as rows is said here.
use Rattle.std.specs.Prelude.{◌≡◌, ℕ, ◌+◌, ◌*◌, ◌<◌, List, [], ◌∷◌, ◌++◌, length, map, slice_index, slice_set}
use Rattle.std.specs.List.{range_with_len}
use Rattle.abstract_route.specs.declared.rows.Row.{Row}
use Rattle.abstract_route.specs.Rows.{IsBelow, bottom, joined, row_at}
use Rattle.flow_board.specs.RowLists.{AreBelow, AreRows}
use Rattle.flow_board.specs.declared.view.View.{View}
use Rattle.flow_board.specs.declared.view.View.TheVariants.{Live}

-- the words of a row
abbrev pub row_words : Row → List ℕ
row_words r = r.weight.low ∷ r.preference.low ∷ r.length.low ∷ r.origin.low ∷ r.med.low
    ∷ r.weight.high ∷ r.preference.high ∷ r.length.high ∷ r.origin.high ∷ r.med.high
    ∷ r.has ∷ r.lacks ∷ r.may ∷ r.must ∷ []

-- the words of rows, one row after another
unfoldable pub words_of : List Row → List ℕ
words_of [] = []
words_of (r ∷ rs) = row_words r ++ words_of rs

-- the row whose words begin at a place
unfoldable pub row_from : List ℕ → ℕ → Row
row_from ws base = record {
  weight = record { low = slice_index ws base; high = slice_index ws (base + 5) };
  preference = record { low = slice_index ws (base + 1); high = slice_index ws (base + 6) };
  length = record { low = slice_index ws (base + 2); high = slice_index ws (base + 7) };
  origin = record { low = slice_index ws (base + 3); high = slice_index ws (base + 8) };
  med = record { low = slice_index ws (base + 4); high = slice_index ws (base + 9) };
  has = slice_index ws (base + 10);
  lacks = slice_index ws (base + 11);
  may = slice_index ws (base + 12);
  must = slice_index ws (base + 13);
}

-- so many rows, from words
unfoldable pub rows_of : ℕ → List ℕ → List Row
rows_of n ws = map (λ u. row_from ws (14 * u)) (range_with_len 0 n)

-- what a seat knows, as rows: the rows at the start, the roof, what it has raised
unfoldable pub start_of : ℕ → View → List Row
start_of n (Live s r own) = rows_of n s
start_of n _ = []

unfoldable pub roof_of : ℕ → View → List Row
roof_of n (Live s r own) = rows_of n r
roof_of n _ = []

unfoldable pub own_of : ℕ → View → List Row
own_of n (Live s r own) = rows_of n own
own_of n _ = []

-- the seat may read and raise so many rows
unfoldable pub IsReady : ℕ → View → Type 0
IsReady n (Live s r own) = (length s ≡ 14 * n) × (length r ≡ 14 * n) × (length own ≡ 14 * n)
IsReady n _ = ⊥

-- a row that was met: at or above the start and the seat's own raises, and under the roof
pub record IsMet (n u : ℕ) (v : View) (row : Row) : Type 0 where
  pub start : IsBelow (row_at (start_of n v) u) row
  pub own : IsBelow (row_at (own_of n v) u) row
  pub roof : IsBelow row (row_at (roof_of n v) u)

-- what a raise of a row does: the seat's own row is joined with it
pub record IsRaised (n u : ℕ) (row : Row) (v w : View) : Type 0 where
  pub ready : IsReady n w
  pub start : start_of n w ≡ start_of n v
  pub roof : roof_of n w ≡ roof_of n v
  pub own : own_of n w ≡ slice_set (own_of n v) u (joined (row_at (own_of n v) u) row)

-- what a seat knows at the start: these rows, this roof, and nothing raised
pub record IsOpened (n : ℕ) (rows top : List Row) (v : View) : Type 0 where
  pub ready : IsReady n v
  pub start : start_of n v ≡ rows
  pub roof : roof_of n v ≡ top
  pub long : length (own_of n v) ≡ n
  pub own : (u : ℕ) → u < n → row_at (own_of n v) u ≡ bottom

-- what a seat knows that took in another
pub record IsJoined (n : ℕ) (v other w : View) : Type 0 where
  pub ready : IsReady n w
  pub start : start_of n w ≡ start_of n v
  pub roof : roof_of n w ≡ roof_of n v
  pub long : length (own_of n w) ≡ n
  pub own : (u : ℕ) → u < n → row_at (own_of n w) u ≡ joined (row_at (own_of n v) u) (row_at (own_of n other) u)

-- the rows at the end
pub record IsClosed (n : ℕ) (v : View) (rows : List Row) : Type 0 where
  pub long : length rows ≡ n
  pub rows_fit : AreRows rows
  pub start : AreBelow (start_of n v) rows
  pub own : AreBelow (own_of n v) rows
  pub roof : AreBelow rows (roof_of n v)
