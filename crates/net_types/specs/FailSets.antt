-- Failure sets: at most three links, as the ascending list of their numbers.
use Rattle.std.specs.Prelude.{ℕ, ◌≡◌, ◌≤◌, ◌==◌, ◌++◌, Bool, not, List, [], ◌∷◌, length, take, filter}
use Rattle.std.specs.List.{list_any}
use Rattle.std.specs.List.Sorted.{IsStrictlyIncreasing}

-- a failure set: at most three numbers, each below the next
pub record IsFailureSet (links : List ℕ) : Type 0 where
  pub few : length links ≤ 3
  pub ascending : IsStrictlyIncreasing links

-- whether the link is in the set
abbrev pub holds : List ℕ → ℕ → Bool
holds set link = list_any (λ number. number == link) set

-- the set without the link
abbrev pub without : List ℕ → ℕ → List ℕ
without set link = filter (λ number. not (number == link)) set

-- a failure set as three places, those past its numbers holding 255; the count tells them from a link of that number
abbrev pub padded : List ℕ → List ℕ
padded set = take 3 (set ++ 255 ∷ 255 ∷ 255 ∷ [])

-- the count and the three places of a failure set
pub record IsPadded (count : ℕ) (links : List ℕ) : Type 0 where
  pub set : IsFailureSet (take count links)
  pub long : length (take count links) ≡ count
  pub rest : padded (take count links) ≡ links
