-- What the solver keeps beside the rows: arcs that were seen giving something, and routers whose row has changed since
-- their arcs were asked. No public clause cites these words.
use Rattle.std.specs.Prelude.{ℕ, ◌≡◌, ◌≢◌, ◌+◌, ◌*◌, ◌^◌, ◌⊎◌, Bool, true, false, List, bit_or, bit_and, slice_set, if◌then◌else◌}
use Rattle.std.specs.Int.{bit_not, w64}
use Rattle.net_types.specs.declared.arcs.Arc.{Arc}
use Rattle.net_types.specs.Sets.{has}
use Rattle.abstract_route.specs.declared.rows.Row.{Row}
use Rattle.abstract_route.specs.Rows.{IsBelow, IsInhabited, joined, row_at}
use Rattle.possible_fixpoint.specs.declared.marks.ArcSet.{ArcSet}

-- the links of the arcs in this direction
abbrev pub links_of : Bool → ArcSet → ℕ
links_of false set = set.up
links_of true set = set.down

-- the arc is in the set
abbrev pub has_arc : ArcSet → Arc → Bool
has_arc set arc = has (links_of arc.down set) arc.link

-- the set with one more arc
abbrev pub with_arc : ArcSet → Arc → ArcSet
with_arc set arc =
    if arc.down then record { up = set.up; down = bit_or set.down (2 ^ arc.link) } else record { up = bit_or set.up (2 ^ arc.link); down = set.down }

-- the place of an arc in the order of links, up before down
abbrev pub side : Bool → ℕ
side false = 0
side true = 1

abbrev pub number : Arc → ℕ
number arc = 2 * arc.link + side arc.down

-- the set without one number
abbrev pub less : ℕ → ℕ → ℕ
less set u = bit_and set (bit_not w64 (2 ^ u))

-- the row of a router is now above another row: it was, or it is the join and the router is marked
pub record WasAbove (at : ℕ) (row : Row) (xs ys : List Row) (dirty marks : ℕ) : Type 0 where
  pub above : IsBelow row (row_at xs at)
  pub rows : ys ≡ xs
  pub marked : marks ≡ dirty

pub record IsJoined (at : ℕ) (row : Row) (xs ys : List Row) (dirty marks : ℕ) : Type 0 where
  pub not : IsBelow row (row_at xs at) → ⊥
  pub rows : ys ≡ slice_set xs at (joined (row_at xs at) row)
  pub marked : marks ≡ bit_or dirty (2 ^ at)

abbrev pub Improved : ℕ → Row → List Row → List Row → ℕ → ℕ → Type 0
Improved at row xs ys dirty marks = WasAbove at row xs ys dirty marks ⊎ IsJoined at row xs ys dirty marks

-- the arc is seen giving where it was or where its row is of some route
pub record IsNoted (arc : Arc) (row : Row) (before after : ArcSet) : Type 0 where
  pub other : (a : Arc) → a ≢ arc → has_arc after a ≡ has_arc before a
  pub only : has_arc after arc ≡ true → (has_arc before arc ≡ true) ⊎ IsInhabited row
  pub seen : (has_arc before arc ≡ true) ⊎ IsInhabited row → has_arc after arc ≡ true
