-- Which case a failure set reuses, and how many sets reuse none. Both follow from the idle links of each set. All of this is
-- the project's own.
use Rattle.std.specs.Prelude.{ℕ, zero, suc, Bool, Option, Some, None, List, length, find, count_by}
use Rattle.std.specs.Str.{bytes_eq}
use Rattle.net_types.specs.FailSets.{without}
use Rattle.failure_sets.specs.SetList.{failure_sets}
use Rattle.case_walk.specs.Analysis.{is_idle}

-- the least link of the set that is idle in the case of the set without it
abbrev pub spare : (List ℕ → ℕ) → List ℕ → Option ℕ
spare idle set = find (λ link. is_idle idle (without set link) link) set

-- the set without the link, if there is one, and on with that
abbrev pub taken_out : List ℕ → (List ℕ → List ℕ) → Option ℕ → List ℕ
taken_out set on None = set
taken_out set on (Some link) = on (without set link)

-- the set after at most so many spare links were taken out, each time the least
unfoldable pub reduced : (List ℕ → ℕ) → ℕ → List ℕ → List ℕ
reduced idle zero set = set
reduced idle (suc times) set = taken_out set (reduced idle times) (spare idle set)

-- the representative of the set: the least spare link is taken out, while there is one
unfoldable pub representative : (List ℕ → ℕ) → List ℕ → List ℕ
representative idle set = reduced idle (length set) set

-- whether the set is its own representative
unfoldable pub is_own : (List ℕ → ℕ) → List ℕ → Bool
is_own idle set = bytes_eq (representative idle set) set

-- how many permitted sets are their own representative
unfoldable pub solved_count : (List ℕ → ℕ) → ℕ → ℕ → ℕ
solved_count idle links most = count_by (is_own idle) (failure_sets links most)
