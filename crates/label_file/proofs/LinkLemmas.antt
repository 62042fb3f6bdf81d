-- Numbers that ascend by the test rise.
use Rattle.std.proofs.Common.{ℕ, zero, suc, ◌≡◌, ◌<◌, ◌≤◌, ◌+◌, ◌&&◌, Bool, true, false, List, [], ◌∷◌, length, nat_lt, arith, refl}
use Rattle.std.proofs.lemmas.Bool.Decides.{nat_tests}
use Rattle.std.specs.List.Sorted.{IsStrictlyIncreasing}
use Rattle.net_types.specs.FailSets.{IsFailureSet}
use Rattle.label_file.specs.File.{ascends}

pub first_holds : (a b : Bool) → (a && b) ≡ true → a ≡ true
first_holds true b h = refl
first_holds false b h = h

pub second_holds : (a b : Bool) → (a && b) ≡ true → b ≡ true
second_holds true b h = h
second_holds false true h = refl
second_holds false false h = h

below : (x y : ℕ) → nat_lt x y ≡ true → x < y
below x y h = grind (arith, nat_tests)

rises : (xs : List ℕ) → ascends xs ≡ true → IsStrictlyIncreasing xs
rises [] w k h = absurd (omega arith)
rises (x ∷ []) w k h = absurd (omega arith)
rises (x ∷ y ∷ ys) w zero h = below x y (first_holds (nat_lt x y) (ascends (y ∷ ys)) w)
rises (x ∷ y ∷ ys) w (suc k) h =
    let e : suc k + 1 ≡ suc (k + 1) = omega arith in
    let g = rises (y ∷ ys) (second_holds (nat_lt x y) (ascends (y ∷ ys)) w) k (omega arith) in
    rw e g

pub failure_set : (xs : List ℕ) → length xs ≤ 3 → ascends xs ≡ true → IsFailureSet xs
failure_set xs few h = record { few = few; ascending = rises xs h }
