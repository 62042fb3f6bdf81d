-- What is true of the list of permitted failure sets, of places and of counts.
use Rattle.std.specs.Prelude.{ℕ, ◌≡◌, ◌<◌, ◌≤◌, ◌+◌, ◌-◌, ◌*◌, ◌↔◌, true, Some, MatchOption, List, [], length}
use Rattle.std.specs.List.{slice_get}
use Rattle.net_types.specs.FailSets.{holds, without}
use Rattle.failure_sets.specs.SetOrder.{IsPermitted, comes_before, IsLeastAfter, IsLast}
use Rattle.failure_sets.specs.SetList.{failure_sets, place_of, next_of}
use Rattle.failure_sets.specs.Places.{choose, how_many}

-- the permitted sets stand in the list, and only those
abbrev pub HoldsThePermitted : Type 0
HoldsThePermitted =
    (links most : ℕ) (set : List ℕ) → IsPermitted links most set ↔
    ((i : ℕ) × (slice_get (failure_sets links most) i ≡ Some set))

-- each of them once
abbrev pub HoldsEachOnce : Type 0
HoldsEachOnce =
    (links most i j : ℕ) (set : List ℕ) →
    slice_get (failure_sets links most) i ≡ Some set → slice_get (failure_sets links most) j ≡ Some set → i ≡ j

-- in their order
abbrev pub StandInOrder : Type 0
StandInOrder =
    (links most i j : ℕ) (a b : List ℕ) → slice_get (failure_sets links most) i ≡ Some a → slice_get (failure_sets links most) j ≡ Some b →
    (comes_before a b ≡ true) ↔ (i < j)

-- the empty set is the first
abbrev pub EmptySetIsFirst : Type 0
EmptySetIsFirst = (links most : ℕ) → slice_get (failure_sets links most) 0 ≡ Some []

-- a place is a position in the list
abbrev pub PlacesArePositions : Type 0
PlacesArePositions =
    (links most i : ℕ) (set : List ℕ) → most ≤ 3 → IsPermitted links most set →
    (slice_get (failure_sets links most) i ≡ Some set) ↔ (place_of links set ≡ i)

-- the next set is the entry behind, and there is none behind the last
abbrev pub NextIsBehind : Type 0
NextIsBehind =
    (links most i : ℕ) (set : List ℕ) → most ≤ 3 → slice_get (failure_sets links most) i ≡ Some set →
    next_of links most set ≡ slice_get (failure_sets links most) (i + 1)

-- the next set is the least that comes after, and there is none exactly where no set comes after
abbrev pub NextIsLeast : Type 0
NextIsLeast =
    (links most : ℕ) (set : List ℕ) → most ≤ 3 → IsPermitted links most set →
    MatchOption (next_of links most set) (IsLast links most set) (λ next. IsLeastAfter links most set next)

-- a set without one of its links is permitted, and comes earlier
abbrev pub FewerComeEarlier : Type 0
FewerComeEarlier =
    (links most : ℕ) (set : List ℕ) (link : ℕ) → most ≤ 3 → IsPermitted links most set → holds set link ≡ true →
    IsPermitted links most (without set link) × (place_of links (without set link) < place_of links set)

-- the number of sets is the sum of the binomial coefficients
abbrev pub CountsAreSums : Type 0
CountsAreSums = (links most : ℕ) → length (failure_sets links most) ≡ how_many links most

-- up to three links: 1, n, n (n - 1) / 2 and n (n - 1) (n - 2) / 6
abbrev pub SumsOfPairsAndTriples : Type 0
SumsOfPairsAndTriples =
    (n : ℕ) → (choose n 0 ≡ 1) × (choose n 1 ≡ n) × (2 * choose n 2 + n ≡ n * n) × (6 * choose n 3 + 3 * (n * n) ≡ n * n * n + 2 * n)

-- and so in closed form
abbrev pub CountsInClosedForm : Type 0
CountsInClosedForm =
    (n : ℕ) → (length (failure_sets n 0) ≡ 1) × (length (failure_sets n 1) ≡ 1 + n) ×
    (2 * length (failure_sets n 2) ≡ 2 + 2 * n + n * (n - 1)) ×
    (6 * length (failure_sets n 3) ≡ 6 + 6 * n + 3 * (n * (n - 1)) + n * (n - 1) * (n - 2))
