-- The sets of one size in order: their number, and which set stands where.
use Rattle.std.proofs.Common.{ℕ, zero, suc, ◌≡◌, ◌<◌, ◌≤◌, ◌+◌, ◌-◌, inl, inr, Option, Some, None, List, [], ◌∷◌, ◌++◌, length, map, slice_get, option_map, arith, refl, ap, sym, subst, ◌∙◌, length-append}
use Rattle.std.proofs.lemmas.List.{length-map}
use Rattle.std.proofs.lemmas.Option.{slice_get-map, slice_get_within}
use Rattle.std.proofs.lemmas.Bool.{cases_lt, cases_order}
use Rattle.failure_sets.specs.SetList.{sets_of}
use Rattle.failure_sets.specs.Places.{choose, place_among}
use Rattle.failure_sets.proofs.CountLemmas.{choose-mono, choose-pascal}

-- ascending numbers from `low` on and below `high`
abbrev pub IsWithin : ℕ → ℕ → List ℕ → Type 0
IsWithin low high [] = Unit {0}
IsWithin low high (x ∷ xs) = (low ≤ x) × (x < high) × IsWithin (suc x) high xs

-- reading from two lists joined
pub get_front : {X : Type 0} (xs ys : List X) (i : ℕ) → i < length xs → slice_get (xs ++ ys) i ≡ slice_get xs i
get_front [] ys i h = absurd (omega arith)
get_front (x ∷ xs) ys zero h = refl
get_front (x ∷ xs) ys (suc i) h = get_front xs ys i (omega arith)

pub get_back : {X : Type 0} (xs ys : List X) (i j : ℕ) → i ≡ length xs + j → slice_get (xs ++ ys) i ≡ slice_get ys j
get_back [] ys i j e = ap (λ (n : ℕ). slice_get ys n) (let f : i ≡ j = omega arith in f)
get_back (x ∷ xs) ys i j e =
    let k = length xs + j in
    let f : i ≡ suc k = omega arith in
    rw f (get_back xs ys k j refl)

-- the number of sets
pub length-sets_of : (size least many : ℕ) → length (sets_of size least many) ≡ choose many size
unfolding sets_of choose
length-sets_of zero least many = refl
length-sets_of (suc size) least zero = refl
length-sets_of (suc size) least (suc many) =
    let a = length-sets_of size (suc least) many in
    let b = length-sets_of (suc size) (suc least) many in
    length-append (map (λ (set : List ℕ). least ∷ set) (sets_of size (suc least) many)) (sets_of (suc size) (suc least) many)
    ∙ (let m = length-map (sets_of size (suc least) many) (λ (set : List ℕ). least ∷ set) in omega arith)

-- the empty set comes first
pub place_nothing : (links least : ℕ) → place_among links least [] ≡ 0
unfolding place_among
place_nothing links least = refl

-- a set that has the least number, and one that has not
pub place_with : (links least : ℕ) (rest : List ℕ) → place_among links least (least ∷ rest) ≡ place_among links (suc least) rest
unfolding place_among
place_with links least rest = omega arith

pub place_without : (links least many x : ℕ) (rest : List ℕ) → least + suc many ≡ links → least < x → x < links →
    place_among links least (x ∷ rest) ≡ choose many (length rest) + place_among links (suc least) (x ∷ rest)
unfolding place_among
place_without links least many x rest e past below =
    let a : links - least ≡ suc many = omega arith in
    let b : links - suc least ≡ many = omega arith in
    let p = choose-pascal many (links - least) (length rest) a in
    let m = choose-mono (links - x) many (suc (length rest)) (omega arith) in
    let q : choose (links - suc least) (suc (length rest)) ≡ choose many (suc (length rest)) = ap (λ (n : ℕ). choose n (suc (length rest))) b in
    omega arith

-- what stands at a place
pub record IsEntry (size least links : ℕ) (set : List ℕ) (i : ℕ) : Type 0 where
  pub long : length set ≡ size
  pub within : IsWithin least links set
  pub place : place_among links least set ≡ i

entry_with : (size least links i : ℕ) (o : Option (List ℕ)) (set : List ℕ) → least < links →
    ((rest : List ℕ) → o ≡ Some rest → IsEntry size (suc least) links rest i) → option_map (λ (set : List ℕ). least ∷ set) o ≡ Some set → IsEntry (suc size) least links set i
entry_with size least links i None set low h is = absurd (let e : None ≡ Some set = is in cc)
entry_with size least links i (Some rest) set low h is =
    let e : (least ∷ rest) ≡ set = cc in
    let r = h rest refl in
    subst (λ (s : List ℕ). IsEntry (suc size) least links s i) e (record {
      long = (let l = r.long in omega arith);
      within = (omega arith, low, r.within);
      place = place_with links least rest ∙ r.place;
    })

entry_without : (size least many links i j : ℕ) (set : List ℕ) → least + suc many ≡ links → i ≡ choose many size + j →
    IsEntry (suc size) (suc least) links set j → IsEntry (suc size) least links set i
entry_without size least many links i j [] e at r = absurd (let l = r.long in omega arith)
entry_without size least many links i j (x ∷ rest) e at r =
    let w = r.within in
    let past : least < x = omega (arith, w.0) in
    let p = place_without links least many x rest e past w.1 in
    let l : length rest ≡ size = (let l = r.long in omega arith) in
    let c : choose many (length rest) ≡ choose many size = ap (λ (n : ℕ). choose many n) l in
    let q = r.place in
    record { long = r.long; within = (omega arith, w.1, w.2); place = omega arith }

pub entry : (size least many links : ℕ) → least + many ≡ links → (i : ℕ) (set : List ℕ) → slice_get (sets_of size least many) i ≡ Some set → IsEntry size least links set i
unfolding sets_of
entry zero least many links e zero set is =
    let s : [] ≡ set = cc in
    subst (λ (s : List ℕ). IsEntry zero least links s 0) s (record { long = refl; within = tt; place = place_nothing links least })
entry zero least many links e (suc i) set is = absurd (let n : None ≡ Some set = is in cc)
entry (suc size) least zero links e i set is = absurd (let n : None ≡ Some set = is in cc)
entry (suc size) least (suc many) links e i set is =
    let a = sets_of size (suc least) many in
    let b = sets_of (suc size) (suc least) many in
    let f = λ (set : List ℕ). least ∷ set in
    let long = length-map a f in
    let more = length-sets_of size (suc least) many in
    let low : least < links = omega arith in
    let up : suc least + many ≡ links = omega arith in
    elim (cases_lt i (length (map f a))) [
      | inl front ↦ entry_with size least links i (slice_get a i) set low (entry size (suc least) many links up i) (sym (slice_get-map f a i) ∙ sym (get_front (map f a) b i front) ∙ is)
      | inr back ↦ (
          let j = i - length (map f a) in
          let at : i ≡ length (map f a) + j = omega arith in
          entry_without size least many links i j set e (omega arith) (entry (suc size) (suc least) many links up j set (sym (get_back (map f a) b i j at) ∙ is)))
    ]

-- where a set stands
pub found_front : {X : Type 0} (xs ys : List X) (i : ℕ) (x : X) → slice_get xs i ≡ Some x → slice_get (xs ++ ys) i ≡ Some x
found_front xs ys i x is = get_front xs ys i (slice_get_within xs i x is) ∙ is

found_with : (a b : List (List ℕ)) (least x i : ℕ) (rest : List ℕ) → least ≡ x → slice_get a i ≡ Some rest →
    slice_get (map (λ (set : List ℕ). least ∷ set) a ++ b) i ≡ Some (x ∷ rest)
found_with a b least x i rest same is =
    found_front (map (λ (set : List ℕ). least ∷ set) a) b i (x ∷ rest)
    (slice_get-map (λ (set : List ℕ). least ∷ set) a i ∙ ap (option_map (λ (set : List ℕ). least ∷ set)) is ∙ ap (λ (n : ℕ). Some (n ∷ rest)) same)

pub found : (many least links : ℕ) → least + many ≡ links → (set : List ℕ) → IsWithin least links set → slice_get (sets_of (length set) least many) (place_among links least set) ≡ Some set
unfolding sets_of place_among
found many least links e [] w = refl
found zero least links e (x ∷ rest) w = absurd (omega (arith, w.0, w.1))
found (suc many) least links e (x ∷ rest) w = elim (cases_order least x) [
  | inl same ↦ (
      let p : place_among links least (x ∷ rest) ≡ place_among links (suc x) rest = subst (λ (n : ℕ). place_among links n (x ∷ rest) ≡ place_among links (suc x) rest) (sym same) (place_with links x rest) in
      let up : suc x + many ≡ links = omega arith in
      let h = found many (suc x) links up rest w.2 in
      let h' : slice_get (sets_of (length rest) (suc least) many) (place_among links (suc x) rest) ≡ Some rest = subst (λ (n : ℕ). slice_get (sets_of (length rest) (suc n) many) (place_among links (suc x) rest) ≡ Some rest) (sym same) h in
      ap (λ (n : ℕ). slice_get (sets_of (suc (length rest)) least (suc many)) n) p
      ∙ found_with (sets_of (length rest) (suc least) many) (sets_of (suc (length rest)) (suc least) many) least x (place_among links (suc x) rest) rest same h')
  | inr (inl past) ↦ (
      let up : suc least + many ≡ links = omega arith in
      let a = map (λ (set : List ℕ). least ∷ set) (sets_of (length rest) (suc least) many) in
      let l = length-map (sets_of (length rest) (suc least) many) (λ (set : List ℕ). least ∷ set) in
      let m = length-sets_of (length rest) (suc least) many in
      let p = place_without links least many x rest e past w.1 in
      get_back a (sets_of (suc (length rest)) (suc least) many) (place_among links least (x ∷ rest)) (place_among links (suc least) (x ∷ rest)) (p ∙ (let g : choose many (length rest) ≡ length a = omega arith in ap (λ (n : ℕ). n + place_among links (suc least) (x ∷ rest)) g))
      ∙ found many (suc least) links up (x ∷ rest) (omega arith, w.1, w.2))
  | inr (inr below) ↦ absurd (omega (arith, w.0))
]

-- a place is below the number of sets
pub place_below : (links least many : ℕ) → least + many ≡ links → (set : List ℕ) → IsWithin least links set → place_among links least set < choose many (length set)
place_below links least many e set w =
    let i = slice_get_within (sets_of (length set) least many) (place_among links least set) set (found many least links e set w) in
    let l = length-sets_of (length set) least many in
    omega arith
