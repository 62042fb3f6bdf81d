-- The order of sets agrees with their places, and any two sets are one or in order.
use Rattle.std.proofs.Common.{ℕ, suc, ◌≡◌, ◌<◌, ◌≤◌, ◌+◌, ◌-◌, ◌⊎◌, inl, inr, ◌&&◌, true, false, List, [], ◌∷◌, length, ltb, eqb, arith, refl, ap, sym, subst}
use Rattle.std.proofs.lemmas.Bool.{or_cases, and_parts, and_from, or_left, or_right, ltb-true, eqb-true, lt-ltb, eq-eqb, cases_order}
use Rattle.failure_sets.specs.SetOrder.{is_lower, comes_before}
use Rattle.failure_sets.specs.Places.{choose, place_among}
use Rattle.failure_sets.proofs.CountLemmas.{choose-mono, choose-pascal}
use Rattle.failure_sets.proofs.ListLemmas.{IsWithin, place_below}

same_first : (links least x y : ℕ) (a b : List ℕ) → x ≡ y → length a ≡ length b → place_among links (suc x) a < place_among links (suc x) b → place_among links least (x ∷ a) < place_among links least (y ∷ b)
unfolding place_among
same_first links least x y a b e l h =
    let p : choose (links - least) (suc (length a)) ≡ choose (links - least) (suc (length b)) = ap (λ (n : ℕ). choose (links - least) (suc n)) l in
    let q : choose (links - x) (suc (length a)) ≡ choose (links - x) (suc (length b)) = ap (λ (n : ℕ). choose (links - x) (suc n)) l in
    let r : choose (links - x) (suc (length b)) ≡ choose (links - y) (suc (length b)) = ap (λ (n : ℕ). choose (links - n) (suc (length b))) e in
    let s : place_among links (suc x) b ≡ place_among links (suc y) b = ap (λ (n : ℕ). place_among links (suc n) b) e in
    omega arith

lower_first : (links least x y : ℕ) (a b : List ℕ) → least ≤ x → x < y → y < links → length a ≡ length b → IsWithin (suc x) links a → place_among links least (x ∷ a) < place_among links least (y ∷ b)
unfolding place_among
lower_first links least x y a b low less high l w =
    let many = links - suc x in
    let up : suc x + many ≡ links = omega arith in
    let p = place_below links (suc x) many up a w in
    let c = choose-pascal many (links - x) (length a) (omega arith) in
    let q : choose (links - least) (suc (length a)) ≡ choose (links - least) (suc (length b)) = ap (λ (n : ℕ). choose (links - least) (suc n)) l in
    let r : choose (links - y) (suc (length a)) ≡ choose (links - y) (suc (length b)) = ap (λ (n : ℕ). choose (links - y) (suc n)) l in
    let m = choose-mono (links - y) many (suc (length a)) (omega arith) in
    let n = choose-mono (links - x) (links - least) (suc (length a)) (omega arith) in
    omega arith

pub place_rises : (links least : ℕ) (a b : List ℕ) → length a ≡ length b → IsWithin least links a → IsWithin least links b → is_lower a b ≡ true → place_among links least a < place_among links least b
place_rises links least [] b l v w h = absurd (let e : false ≡ true = h in cc)
place_rises links least (x ∷ a) [] l v w h = absurd (let e : false ≡ true = h in cc)
place_rises links least (x ∷ a) (y ∷ b) l v w h =
    let same : length a ≡ length b = omega arith in
    elim (or_cases (ltb x y) (eqb x y && is_lower a b) h) [
      | inl less ↦ lower_first links least x y a b v.0 (ltb-true x y less) w.1 same v.2
      | inr rest ↦ (
          let p = and_parts (eqb x y) (is_lower a b) rest in
          let e = eqb-true x y p.0 in
          let w' : IsWithin (suc x) links b = subst (λ (n : ℕ). IsWithin (suc n) links b) (sym e) w.2 in
          same_first links least x y a b e same (place_rises links (suc x) a b same v.2 w' p.1))
    ]

-- two sets are one or in order
lower_total : (a b : List ℕ) → length a ≡ length b → (is_lower a b ≡ true) ⊎ ((is_lower b a ≡ true) ⊎ (a ≡ b))
lower_total [] [] l = inr (inr refl)
lower_total [] (y ∷ b) l = absurd (omega arith)
lower_total (x ∷ a) [] l = absurd (omega arith)
lower_total (x ∷ a) (y ∷ b) l = elim (cases_order x y) [
  | inr (inl less) ↦ inl (or_left (ltb x y) (eqb x y && is_lower a b) (lt-ltb x y less))
  | inr (inr more) ↦ inr (inl (or_left (ltb y x) (eqb y x && is_lower b a) (lt-ltb y x more)))
  | inl same ↦ elim (lower_total a b (omega arith)) [
    | inl less ↦ inl (or_right (ltb x y) (eqb x y && is_lower a b) (and_from (eqb x y) (is_lower a b) (eq-eqb x y same) less))
    | inr (inl more) ↦ inr (inl (or_right (ltb y x) (eqb y x && is_lower b a) (and_from (eqb y x) (is_lower b a) (eq-eqb y x (sym same)) more)))
    | inr (inr one) ↦ inr (inr (cc))
  ]
]

pub before_fewer : (a b : List ℕ) → length a < length b → comes_before a b ≡ true
before_fewer a b less = or_left (ltb (length a) (length b)) (eqb (length a) (length b) && is_lower a b) (lt-ltb (length a) (length b) less)

before_lower : (a b : List ℕ) → length a ≡ length b → is_lower a b ≡ true → comes_before a b ≡ true
before_lower a b same h = or_right (ltb (length a) (length b)) (eqb (length a) (length b) && is_lower a b) (and_from (eqb (length a) (length b)) (is_lower a b) (eq-eqb (length a) (length b) same) h)

pub before_total : (a b : List ℕ) → (comes_before a b ≡ true) ⊎ ((comes_before b a ≡ true) ⊎ (a ≡ b))
before_total a b = elim (cases_order (length a) (length b)) [
  | inr (inl less) ↦ inl (before_fewer a b less)
  | inr (inr more) ↦ inr (inl (before_fewer b a more))
  | inl same ↦ elim (lower_total a b same) [
    | inl less ↦ inl (before_lower a b same less)
    | inr (inl more) ↦ inr (inl (before_lower b a (sym same) more))
    | inr (inr one) ↦ inr (inr one)
  ]
]

-- what it means to come before
pub before_cases : (a b : List ℕ) → comes_before a b ≡ true → (length a < length b) ⊎ ((length a ≡ length b) × (is_lower a b ≡ true))
before_cases a b h = elim (or_cases (ltb (length a) (length b)) (eqb (length a) (length b) && is_lower a b) h) [
  | inl less ↦ inl (ltb-true (length a) (length b) less)
  | inr rest ↦ (let p = and_parts (eqb (length a) (length b)) (is_lower a b) rest in inr (eqb-true (length a) (length b) p.0, p.1))
]
