-- The whole list in order: its length, which set stands where, and that places go with the order.
use Rattle.std.proofs.Common.{ℕ, zero, suc, ◌≡◌, ◌<◌, ◌≤◌, ◌+◌, ◌-◌, inl, inr, Bool, true, false, Some, List, [], ◌∷◌, length, slice_get, count_by, cond, arith, refl, ap, sym, subst, ◌∙◌, length-append}
use Rattle.std.proofs.lemmas.Option.{slice_get_within}
use Rattle.std.proofs.lemmas.List.Sums.{sum_by-cons}
use Rattle.std.proofs.lemmas.Bool.{cases_lt, false_from_ne_true}
use Rattle.failure_sets.specs.SetOrder.{comes_before}
use Rattle.failure_sets.specs.SetList.{sets_of, failure_sets}
use Rattle.failure_sets.specs.Places.{how_many, place_among}
use Rattle.failure_sets.proofs.CountLemmas.{how_many-mono, choose-none}
use Rattle.failure_sets.proofs.ListLemmas.{IsWithin, get_front, get_back, length-sets_of, entry, found, found_front}
use Rattle.failure_sets.proofs.OrderLemmas.{place_rises, before_total, before_cases}

-- how many sets are smaller
unfoldable pub smaller : ℕ → ℕ → ℕ
smaller links zero = 0
smaller links (suc size) = how_many links size

-- the place of a set among all
unfoldable pub ranked : ℕ → List ℕ → ℕ
ranked links set = smaller links (length set) + place_among links 0 set

pub length-failure_sets : (links most : ℕ) → length (failure_sets links most) ≡ how_many links most
unfolding failure_sets how_many
length-failure_sets links zero = length-sets_of 0 0 links ∙ choose-none links
length-failure_sets links (suc most) =
    let h = length-failure_sets links most in
    let l = length-sets_of (suc most) 0 links in
    length-append (failure_sets links most) (sets_of (suc most) 0 links) ∙ (omega arith)

-- what stands at a place
pub record IsPlaced (links most : ℕ) (set : List ℕ) (i : ℕ) : Type 0 where
  pub few : length set ≤ most
  pub within : IsWithin 0 links set
  pub place : ranked links set ≡ i

pub rank_of_none : (links : ℕ) (set : List ℕ) → length set ≡ 0 → ranked links set ≡ place_among links 0 set
unfolding ranked smaller
rank_of_none links set l = let e : smaller links (length set) ≡ smaller links 0 = ap (λ (n : ℕ). smaller links n) l in omega arith

pub rank_of_some : (links size : ℕ) (set : List ℕ) → length set ≡ suc size → ranked links set ≡ how_many links size + place_among links 0 set
unfolding ranked smaller
rank_of_some links size set l = let e : smaller links (length set) ≡ smaller links (suc size) = ap (λ (n : ℕ). smaller links n) l in omega arith

pub placed : (links most i : ℕ) (set : List ℕ) → slice_get (failure_sets links most) i ≡ Some set → IsPlaced links most set i
unfolding failure_sets
placed links zero i set is =
    let e = entry 0 0 links links (omega arith) i set is in
    record { few = (let l = e.long in omega arith); within = e.within; place = rank_of_none links set e.long ∙ e.place }
placed links (suc most) i set is =
    let a = failure_sets links most in
    let b = sets_of (suc most) 0 links in
    elim (cases_lt i (length a)) [
      | inl front ↦ (
          let p = placed links most i set (sym (get_front a b i front) ∙ is) in
          record { few = (let f = p.few in omega arith); within = p.within; place = p.place })
      | inr back ↦ (
          let j = i - length a in
          let at : i ≡ length a + j = omega arith in
          let e = entry (suc most) 0 links links (omega arith) j set (sym (get_back a b i j at) ∙ is) in
          let r = rank_of_some links most set e.long in
          let n = length-failure_sets links most in
          let p = e.place in
          record { few = (let l = e.long in omega arith); within = e.within; place = omega arith })
    ]

pub found_in_size : (links size : ℕ) (set : List ℕ) → length set ≡ size → IsWithin 0 links set → slice_get (sets_of size 0 links) (place_among links 0 set) ≡ Some set
found_in_size links size set l w = subst (λ (n : ℕ). slice_get (sets_of n 0 links) (place_among links 0 set) ≡ Some set) l (found links 0 links (omega arith) set w)

pub found_in_all : (links most : ℕ) (set : List ℕ) → length set ≤ most → IsWithin 0 links set → slice_get (failure_sets links most) (ranked links set) ≡ Some set
unfolding failure_sets
found_in_all links zero set few w =
    let l : length set ≡ 0 = omega arith in
    ap (λ (n : ℕ). slice_get (sets_of 0 0 links) n) (rank_of_none links set l) ∙ found_in_size links 0 set l w
found_in_all links (suc most) set few w = elim (cases_lt most (length set)) [
  | inl large ↦ (
      let l : length set ≡ suc most = omega arith in
      let r = rank_of_some links most set l in
      let n = length-failure_sets links most in
      get_back (failure_sets links most) (sets_of (suc most) 0 links) (ranked links set) (place_among links 0 set) (omega arith)
      ∙ found_in_size links (suc most) set l w)
  | inr small ↦ found_front (failure_sets links most) (sets_of (suc most) 0 links) (ranked links set) set (found_in_all links most set small w)
]

pub rank_below : (links most : ℕ) (set : List ℕ) → length set ≤ most → IsWithin 0 links set → ranked links set < how_many links most
rank_below links most set few w =
    let i = slice_get_within (failure_sets links most) (ranked links set) set (found_in_all links most set few w) in
    let l = length-failure_sets links most in
    omega arith

rank_above : (links few : ℕ) (set : List ℕ) → few < length set → how_many links few ≤ ranked links set
rank_above links few set less = (
    let size = length set - 1 in
    let r = rank_of_some links size set (omega arith) in
    let m = how_many-mono links few size (omega arith) in
    omega arith)

pub rank_rises : (links : ℕ) (a b : List ℕ) → IsWithin 0 links a → IsWithin 0 links b → comes_before a b ≡ true → ranked links a < ranked links b
unfolding ranked
rank_rises links a b v w h = elim (before_cases a b h) [
  | inl fewer ↦ (
      let p = rank_below links (length a) a (omega arith) v in
      let q = rank_above links (length a) b fewer in
      omega arith)
  | inr lower ↦ (
      let p = place_rises links 0 a b lower.0 v w lower.1 in
      let e : smaller links (length a) ≡ smaller links (length b) = ap (λ (n : ℕ). smaller links n) lower.0 in
      omega arith)
]

pub before_by_rank : (links : ℕ) (a b : List ℕ) → IsWithin 0 links a → IsWithin 0 links b → ranked links a < ranked links b → comes_before a b ≡ true
before_by_rank links a b v w less = elim (before_total a b) [
  | inl before ↦ before
  | inr (inl after) ↦ absurd (let r = rank_rises links b a w v after in omega arith)
  | inr (inr one) ↦ absurd (let e : ranked links a ≡ ranked links b = ap (λ (s : List ℕ). ranked links s) one in omega arith)
]

pub not_before_by_rank : (links : ℕ) (a b : List ℕ) → IsWithin 0 links a → IsWithin 0 links b → ranked links b ≤ ranked links a → comes_before a b ≡ false
not_before_by_rank links a b v w le = false_from_ne_true (comes_before a b) (λ h. let r = rank_rises links a b v w h in omega arith)

-- a test that passes at the first entries alone
count_step : {X : Type 0} (p : X → Bool) (x : X) (xs : List X) → count_by p (x ∷ xs) ≡ cond (p x) 1 0 + count_by p xs
count_step p x xs = sum_by-cons (λ y. cond (p y) 1 0) x xs

count_front : {X : Type 0} (p : X → Bool) (xs : List X) (r : ℕ) → r ≤ length xs →
    ((i : ℕ) (x : X) → slice_get xs i ≡ Some x → (i < r → p x ≡ true) × (r ≤ i → p x ≡ false)) → count_by p xs ≡ r
count_front p [] r le h = let e : 0 ≡ r = omega arith in e
count_front p (x ∷ xs) zero le h =
    let f : p x ≡ false = (h 0 x refl).1 (omega arith) in
    let c = count_front p xs zero (omega arith) (λ i y is. ((λ less. absurd (omega arith)), (λ more. (h (suc i) y is).1 (omega arith)))) in
    let v : cond {A = ℕ} (p x) 1 0 ≡ 0 = rw f refl in
    count_step p x xs ∙ (omega arith)
count_front p (x ∷ xs) (suc r) le h =
    let t : p x ≡ true = (h 0 x refl).0 (omega arith) in
    let c = count_front p xs r (omega arith) (λ i y is. ((λ less. (h (suc i) y is).0 (omega arith)), (λ more. (h (suc i) y is).1 (omega arith)))) in
    let v : cond {A = ℕ} (p x) 1 0 ≡ 1 = rw t refl in
    count_step p x xs ∙ (omega arith)

pub count_before : (links most : ℕ) (set : List ℕ) → length set ≤ most → IsWithin 0 links set → count_by (λ other. comes_before other set) (failure_sets links most) ≡ ranked links set
count_before links most set few w =
    let r = rank_below links most set few w in
    let n = length-failure_sets links most in
    count_front (λ other. comes_before other set) (failure_sets links most) (ranked links set) (omega arith)
    (λ i other is.
    let p = placed links most i other is in
    let q = p.place in
    ((λ less. before_by_rank links other set p.within w (omega arith)), (λ more. not_before_by_rank links other set p.within w (omega arith))))
