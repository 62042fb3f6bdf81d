-- What is true of all raises.
use Rattle.std.specs.Prelude.{ℕ, ◌≡◌, ◌<◌, ◌↔◌, List, length}
use Rattle.abstract_route.specs.declared.rows.Row.{Row}
use Rattle.abstract_route.specs.Rows.{IsBelow, joined, row_at}
use Rattle.flow_board.specs.Pass.{IsMet, Pass, both_raises}

-- a raise changes nothing of the words that it met exactly where its row is below them
abbrev pub RaiseIsSeen : Type 0
RaiseIsSeen = (old row : Row) → (joined old row ≡ old) ↔ IsBelow row old

-- what a seat meets is between the start joined with its own raises, and the roof
abbrev pub MetIsBetween : Type 0
MetIsBetween =
    (p : Pass) (u : ℕ) (row : Row) →
    IsMet p u row ↔ (IsBelow (joined (row_at p.start u) (row_at p.own u)) row × IsBelow row (row_at p.roof u))

-- of two seats of a board of n rows, the raises of both are, at each router, the join of what each raised
abbrev pub BothIsJoin : Type 0
BothIsJoin =
    (n : ℕ) (xs ys : List Row) → length xs ≡ n →
    (length (both_raises xs ys) ≡ n) × ((u : ℕ) → u < n → row_at (both_raises xs ys) u ≡ joined (row_at xs u) (row_at ys u))
