-- The next set in two parts: among the sets as large, and the first that is larger. They serve the code.
use Rattle.std.specs.Prelude.{ℕ, ◌+◌, Option, List, length}
use Rattle.std.specs.List.{slice_get}
use Rattle.failure_sets.specs.SetList.{sets_of}
use Rattle.failure_sets.specs.Places.{place_among}

-- the set behind, among the sets as large
unfoldable pub next_in_size : ℕ → List ℕ → Option (List ℕ)
next_in_size links set = slice_get (sets_of (length set) 0 links) (place_among links 0 set + 1)

-- the first set of a size
unfoldable pub first_of_size : ℕ → ℕ → Option (List ℕ)
first_of_size links size = slice_get (sets_of size 0 links) 0
