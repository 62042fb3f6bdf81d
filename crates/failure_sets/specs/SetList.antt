-- All permitted failure sets, in their order, and what is read from that list.
use Rattle.std.specs.Prelude.{ℕ, zero, suc, ◌+◌, Option, List, [], ◌∷◌, ◌++◌, map}
use Rattle.std.specs.List.{slice_get, count_by}
use Rattle.failure_sets.specs.SetOrder.{comes_before}

-- the sets of `size` numbers out of the `many` numbers from `least` on: those with `least`, then those without
unfoldable pub sets_of : ℕ → ℕ → ℕ → List (List ℕ)
sets_of zero least many = [] ∷ []
sets_of (suc size) least zero = []
sets_of (suc size) least (suc many) = map (λ set. least ∷ set) (sets_of size (suc least) many) ++ sets_of (suc size) (suc least) many

-- the sets of at most `most` links below `links`: that of none, then those of one link, and so on
unfoldable pub failure_sets : ℕ → ℕ → List (List ℕ)
failure_sets links zero = sets_of zero 0 links
failure_sets links (suc most) = failure_sets links most ++ sets_of (suc most) 0 links

-- how many permitted sets come before the set
unfoldable pub place_of : ℕ → List ℕ → ℕ
place_of links set = count_by (λ other. comes_before other set) (failure_sets links 3)

-- the permitted set behind the set
unfoldable pub next_of : ℕ → ℕ → List ℕ → Option (List ℕ)
next_of links most set = slice_get (failure_sets links most) (place_of links set + 1)
