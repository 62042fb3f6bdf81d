-- Permitted sets as ascending numbers, one after the other.
use Rattle.std.proofs.Common.{ℕ, zero, suc, ◌≡◌, ◌<◌, ◌≤◌, ◌+◌, List, [], ◌∷◌, length, All, arith}
use Rattle.std.proofs.lemmas.List.Elements.{All-nil, All-cons, All-head, All-tail}
use Rattle.std.specs.List.Sorted.{IsStrictlyIncreasing}
use Rattle.failure_sets.specs.SetOrder.{IsPermitted}
use Rattle.failure_sets.proofs.ListLemmas.{IsWithin}

abbrev StartsAt : ℕ → List ℕ → Type 0
StartsAt low [] = Unit {0}
StartsAt low (x ∷ xs) = low ≤ x

second : (x : ℕ) (xs : List ℕ) → IsStrictlyIncreasing (x ∷ xs) → StartsAt (suc x) xs
second x [] inc = tt
second x (y ∷ ys) inc = let h = inc 0 (omega arith) in omega arith

rest_rises : (x : ℕ) (xs : List ℕ) → IsStrictlyIncreasing (x ∷ xs) → IsStrictlyIncreasing xs
rest_rises x xs inc k h =
    let e : suc k + 1 ≡ suc (k + 1) = omega arith in
    let g = inc (suc k) (omega arith) in
    rw e at g

within_go : (low links : ℕ) (xs : List ℕ) → StartsAt low xs → IsStrictlyIncreasing xs → All (λ (link : ℕ). link < links) xs → IsWithin low links xs
within_go low links [] s inc all = tt
within_go low links (x ∷ xs) s inc all = (
  s,
  All-head (λ (link : ℕ). link < links) x xs all,
  within_go (suc x) links xs (second x xs inc) (rest_rises x xs inc) (All-tail (λ (link : ℕ). link < links) x xs all),
)

starts : (xs : List ℕ) → StartsAt 0 xs
starts [] = tt
starts (x ∷ xs) = omega arith

pub within : (links most : ℕ) (set : List ℕ) → IsPermitted links most set → IsWithin 0 links set
within links most set p = within_go 0 links set (starts set) p.ascending p.below

rises : (low links : ℕ) (xs : List ℕ) → IsWithin low links xs → IsStrictlyIncreasing xs
rises low links [] w k h = absurd (omega arith)
rises low links (x ∷ []) w k h = absurd (omega arith)
rises low links (x ∷ y ∷ ys) w zero h = w.2.0
rises low links (x ∷ y ∷ ys) w (suc k) h =
    let e : suc k + 1 ≡ suc (k + 1) = omega arith in
    let g = rises (suc x) links (y ∷ ys) w.2 k (omega arith) in
    rw e g

all_below : (low links : ℕ) (xs : List ℕ) → IsWithin low links xs → All (λ (link : ℕ). link < links) xs
all_below low links [] w = All-nil (λ (link : ℕ). link < links)
all_below low links (x ∷ xs) w = All-cons (λ (link : ℕ). link < links) x xs w.1 (all_below (suc x) links xs w.2)

pub permitted : (links most : ℕ) (set : List ℕ) → length set ≤ most → IsWithin 0 links set → IsPermitted links most set
permitted links most set few w = record { few = few; ascending = rises 0 links set w; below = all_below 0 links set w }
