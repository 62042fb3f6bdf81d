-- Lists with one element more, and places of sets.
use Rattle.std.proofs.Common.{ℕ, zero, suc, ◌≡◌, ◌<◌, ◌≤◌, ◌+◌, if◌then◌else◌, Bool, true, false, Option, Some, None, List, [], ◌∷◌, take, length, get_or, arith, refl, ap, sym, ◌∙◌}
use Rattle.std.proofs.lemmas.Option.{slice_get_within, get_or_from_slice_get}
use Rattle.std.proofs.lemmas.List.Sums.{count_by_more_no, count_by_more_yes}
use Rattle.std.specs.List.{slice_get, count_by}
use Rattle.failure_sets.specs.SetOrder.{IsPermitted}
use Rattle.failure_sets.specs.SetList.{place_of}
use Rattle.failure_sets.proofs.LawLemmas.{places_are_positions}

-- the number with one set more
pub count_more : {X : Type 0} (p : X → Bool) (xs : List X) (n : ℕ) (x : X) → slice_get xs n ≡ Some x → count_by p (take (n + 1) xs) ≡ count_by p (take n xs) + (if p x then 1 else 0)
count_more p xs n x at =
    let w = slice_get_within xs n x at in
    let g = get_or_from_slice_get xs n x x at in
    go (p x) refl w g where
      go : (b : Bool) → p x ≡ b → n < length xs → get_or xs n x ≡ x → count_by p (take (n + 1) xs) ≡ count_by p (take n xs) + (if b then 1 else 0)
      go true e w g = count_by_more_yes p xs n x w (ap p g ∙ e)
      go false e w g = (let h = count_by_more_no p xs n x w (ap p g ∙ e) in omega arith)

pub take_all : {X : Type 0} (xs : List X) (n : ℕ) → length xs ≤ n → take n xs ≡ xs
take_all [] zero h = refl
take_all [] (suc n) h = refl
take_all (x ∷ xs) zero h = absurd (omega arith)
take_all (x ∷ xs) (suc n) h = ap (λ (l : List _). x ∷ l) (take_all xs n (omega arith))

-- where nothing stands, the list has ended
pub past : {X : Type 0} (xs : List X) (i : ℕ) → slice_get xs i ≡ None → length xs ≤ i
past [] i e = omega arith
past (x ∷ xs) zero e = absurd (let f : Some x ≡ None = e in cc)
past (x ∷ xs) (suc i) e = let h = past xs i e in omega arith

pub got_inside : {X : Type 0} (xs : List X) (i : ℕ) → slice_get xs i ≡ None → i < length xs → ⊥
got_inside [] i e less = omega arith
got_inside (x ∷ xs) zero e less = cc
got_inside (x ∷ xs) (suc i) e less = got_inside xs i e (omega arith)

-- two permitted sets at one place are one
pub one_at_a_place : (links : ℕ) (a b : List ℕ) → IsPermitted links 3 a → IsPermitted links 3 b → place_of links a ≡ place_of links b → a ≡ b
one_at_a_place links a b p q e =
    let x = (places_are_positions links 3 (place_of links a) a (omega arith) p).1 refl in
    let y = (places_are_positions links 3 (place_of links a) b (omega arith) q).1 (sym e) in
    cc
