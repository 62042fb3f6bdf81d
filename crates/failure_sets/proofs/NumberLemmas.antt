-- The numbers that the code takes, against the definitions.
use Rattle.std.proofs.Common.{ℕ, ◌≡◌, ◌<◌, ◌≤◌, ◌+◌, ◌-◌, ◌*◌, ◌/◌, List, [], ◌∷◌, Some, length, get_or, slice_get, arith, refl, ap, sym, subst, ◌∙◌}
use Rattle.failure_sets.specs.SetOrder.{IsPermitted}
use Rattle.failure_sets.specs.SetList.{failure_sets, place_of}
use Rattle.failure_sets.specs.Places.{choose, place_among}
use Rattle.failure_sets.proofs.CountLemmas.{choose-one, choose-two, choose-three, how_many-none, how_many-next}
use Rattle.failure_sets.proofs.ListLemmas.{IsWithin}
use Rattle.failure_sets.proofs.PermittedLemmas.{within}
use Rattle.failure_sets.proofs.AllLemmas.{length-failure_sets, found_in_all, rank_of_none, rank_of_some}
use Rattle.failure_sets.proofs.LawLemmas.{place_is, below_one, below_two}
use Rattle.failure_sets.proofs.StepLemmas.{place_one}

pub pairs_are : (n r : ℕ) → r ≡ n - 1 → n * r / 2 ≡ choose n 2
pairs_are n r e =
    let t = choose-two n in
    let b = below_one n in
    let f : n * r ≡ n * (n - 1) = ap (λ (k : ℕ). n * k) e in
    let g : n * r ≡ 2 * choose n 2 = omega arith in
    rw g (omega arith)

pub triples_are : (n r s : ℕ) → r ≡ n - 1 → s ≡ n - 2 → n * r * s / 6 ≡ choose n 3
triples_are n r s e f =
    let t = choose-three n in
    let b = below_two n in
    let g : n * r * s ≡ n * (n - 1) * (n - 2) = ap (λ (k : ℕ). n * k * s) e ∙ ap (λ (k : ℕ). n * (n - 1) * k) f in
    let h : n * r * s ≡ 6 * choose n 3 = omega arith in
    rw h (omega arith)

pub count_none : (links most : ℕ) → most ≡ 0 → 1 ≡ length (failure_sets links most)
count_none links most e = rw e (let a = length-failure_sets links 0 in let b = how_many-none links in omega arith)

pub count_one : (links most : ℕ) → most ≡ 1 → 1 + links ≡ length (failure_sets links most)
count_one links most e = rw e (
    let a = length-failure_sets links 1 in
    let b = how_many-none links in
    let c = how_many-next links 0 in
    let d = choose-one links in
    omega arith)

pub count_two : (links most : ℕ) → most ≡ 2 → 1 + links + choose links 2 ≡ length (failure_sets links most)
count_two links most e = rw e (
    let a = length-failure_sets links 2 in
    let b = how_many-none links in
    let c = how_many-next links 0 in
    let d = choose-one links in
    let f = how_many-next links 1 in
    omega arith)

pub count_three : (links most : ℕ) → most ≡ 3 → 1 + links + choose links 2 + choose links 3 ≡ length (failure_sets links most)
count_three links most e = rw e (
    let a = length-failure_sets links 3 in
    let b = how_many-none links in
    let c = how_many-next links 0 in
    let d = choose-one links in
    let f = how_many-next links 1 in
    let g = how_many-next links 2 in
    omega arith)

pub place_none : (links : ℕ) (set : List ℕ) → IsPermitted links 3 set → set ≡ [] → place_of links set ≡ 0
unfolding place_among
place_none links set p e =
    let l : length set ≡ 0 = rw e refl in
    let f : place_among links 0 set ≡ 0 = rw e refl in
    place_is links 3 set (omega arith) p ∙ rank_of_none links set l ∙ f

pub place_single : (links a : ℕ) (set : List ℕ) → IsPermitted links 3 set → set ≡ a ∷ [] → place_of links set ≡ 1 + a
place_single links a set p e =
    let l : length set ≡ 1 = rw e refl in
    let f : place_among links 0 set ≡ place_among links 0 (a ∷ []) = ap (λ (s : List ℕ). place_among links 0 s) e in
    let w = subst (λ (s : List ℕ). IsWithin 0 links s) e (within links 3 set p) in
    let o = place_one links 0 a w.0 w.1 in
    let n = how_many-none links in
    place_is links 3 set (omega arith) p ∙ rank_of_some links 0 set l ∙ (omega arith)

pub place_pair : (links a b : ℕ) (set : List ℕ) → IsPermitted links 3 set → set ≡ a ∷ b ∷ [] → place_of links set ≡ 1 + links + place_among links 0 (a ∷ b ∷ [])
place_pair links a b set p e =
    let l : length set ≡ 2 = rw e refl in
    let f : place_among links 0 set ≡ place_among links 0 (a ∷ b ∷ []) = ap (λ (s : List ℕ). place_among links 0 s) e in
    let n = how_many-none links in
    let c = how_many-next links 0 in
    let d = choose-one links in
    place_is links 3 set (omega arith) p ∙ rank_of_some links 1 set l ∙ (omega arith)

pub place_triple : (links a b c : ℕ) (set : List ℕ) → IsPermitted links 3 set → set ≡ a ∷ b ∷ c ∷ [] → place_of links set ≡ 1 + links + choose links 2 + place_among links 0 (a ∷ b ∷ c ∷ [])
place_triple links a b c set p e =
    let l : length set ≡ 3 = rw e refl in
    let f : place_among links 0 set ≡ place_among links 0 (a ∷ b ∷ c ∷ []) = ap (λ (s : List ℕ). place_among links 0 s) e in
    let n = how_many-none links in
    let g = how_many-next links 0 in
    let d = choose-one links in
    let h = how_many-next links 1 in
    place_is links 3 set (omega arith) p ∙ rank_of_some links 2 set l ∙ (omega arith)

-- the same from the parts of a slice
one_long : (xs : List ℕ) → 1 ≤ length xs → length xs < 2 → xs ≡ get_or xs 0 0 ∷ []
one_long [] h k = absurd (omega arith)
one_long (x ∷ []) h k = refl
one_long (x ∷ y ∷ ys) h k = absurd (omega arith)

two_long : (xs : List ℕ) → 2 ≤ length xs → length xs < 3 → xs ≡ get_or xs 0 0 ∷ get_or xs 1 0 ∷ []
two_long [] h k = absurd (omega arith)
two_long (x ∷ []) h k = absurd (omega arith)
two_long (x ∷ y ∷ []) h k = refl
two_long (x ∷ y ∷ z ∷ zs) h k = absurd (omega arith)

three_long : (xs : List ℕ) → 3 ≤ length xs → length xs < 4 → xs ≡ get_or xs 0 0 ∷ get_or xs 1 0 ∷ get_or xs 2 0 ∷ []
three_long [] h k = absurd (omega arith)
three_long (x ∷ []) h k = absurd (omega arith)
three_long (x ∷ y ∷ []) h k = absurd (omega arith)
three_long (x ∷ y ∷ z ∷ []) h k = refl
three_long (x ∷ y ∷ z ∷ w ∷ zs) h k = absurd (omega arith)

pub no_link : (xs : List ℕ) → length xs < 1 → xs ≡ []
no_link [] h = refl
no_link (x ∷ xs) h = absurd (omega arith)

pub place_at_none : (links : ℕ) (set xs : List ℕ) → xs ≡ set → IsPermitted links 3 set → length xs < 1 → 0 ≡ place_of links set
place_at_none links set xs e p h = sym (place_none links set p (sym e ∙ no_link xs h))

pub place_at_one : (links : ℕ) (set xs : List ℕ) (a : ℕ) → xs ≡ set → IsPermitted links 3 set → 1 ≤ length xs → length xs < 2 → a ≡ get_or xs 0 0 → 1 + a ≡ place_of links set
place_at_one links set xs a e p h k i = ap (λ (n : ℕ). 1 + n) i ∙ sym (place_single links (get_or xs 0 0) set p (sym e ∙ one_long xs h k))

pub place_at_two : (links : ℕ) (set xs : List ℕ) (many a b r : ℕ) → xs ≡ set → IsPermitted links 3 set → 2 ≤ length xs → length xs < 3 → many ≡ links → a ≡ get_or xs 0 0 → b ≡ get_or xs 1 0 →
    r ≡ place_among many 0 (a ∷ b ∷ []) → 1 + many + r ≡ place_of links set
place_at_two links set xs many a b r e p h k m i j is =
    let g : place_among many 0 (a ∷ b ∷ []) ≡ place_among links 0 (get_or xs 0 0 ∷ get_or xs 1 0 ∷ []) = rw (m, i, j) refl in
    let q = place_pair links (get_or xs 0 0) (get_or xs 1 0) set p (sym e ∙ two_long xs h k) in
    omega arith

pub place_at_three : (links : ℕ) (set xs : List ℕ) (many a b c r s : ℕ) → xs ≡ set → IsPermitted links 3 set → 3 ≤ length xs → many ≡ links → a ≡ get_or xs 0 0 → b ≡ get_or xs 1 0 → c ≡ get_or xs 2 0 →
    s ≡ choose many 2 → r ≡ place_among many 0 (a ∷ b ∷ c ∷ []) → 1 + many + s + r ≡ place_of links set
place_at_three links set xs many a b c r s e p h m i j l two is =
    let same : length xs ≡ length set = ap length e in
    let few = p.few in
    let k : length xs < 4 = omega arith in
    let g : place_among many 0 (a ∷ b ∷ c ∷ []) ≡ place_among links 0 (get_or xs 0 0 ∷ get_or xs 1 0 ∷ get_or xs 2 0 ∷ []) = rw (m, i, j, l) refl in
    let f : choose many 2 ≡ choose links 2 = rw m refl in
    let q = place_triple links (get_or xs 0 0) (get_or xs 1 0) (get_or xs 2 0) set p (sym e ∙ three_long xs h k) in
    omega arith

-- a place is a position in each list that holds the set
pub position_at : (links r : ℕ) (set : List ℕ) → IsPermitted links 3 set → r ≡ place_of links set → (most : ℕ) → length set ≤ most → slice_get (failure_sets links most) r ≡ Some set
position_at links r set p e most few =
    ap (λ (n : ℕ). slice_get (failure_sets links most) n) (e ∙ place_is links 3 set (omega arith) p)
    ∙ found_in_all links most set few (within links 3 set p)
