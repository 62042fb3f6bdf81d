-- The order of routes as one relation.
use Rattle.std.proofs.Common.{ℕ, ◌≡◌, ◌<◌, ◌⊎◌, ◌↔◌, nat_lt, ◌==◌, inl, inr, Bool, true, false, length, Option, Some, None, arith, ap, sym, subst, refl, if◌then◌else◌}
use Rattle.std.specs.declared.cmp.Ordering.{Ordering}
use Rattle.std.specs.declared.cmp.Ordering.TheVariants.{Less, Equal, Greater}
use Rattle.std.specs.Ordering.{is_lt, nat_cmp, ordering_then}
use Rattle.std.proofs.lemmas.Bool.Decides.{nat_tests}
use Rattle.net_types.specs.declared.arcs.Arc.{Arc}
use Rattle.net_types.specs.declared.config.Origin.{Origin}
use Rattle.net_types.specs.declared.config.Origin.TheVariants.{Igp, Egp, Incomplete}
use Rattle.net_types.specs.declared.routes.Source.{Source}
use Rattle.net_types.specs.declared.routes.Source.TheVariants.{Local, Learned}
use Rattle.net_types.specs.Arcs.{sender_of}
use Rattle.net_types.specs.Better.{med_step, origin_rank, same_router, source_rank}
use Rattle.net_types.specs.Laws.{BetterIsAhead, IsLowerOrigin}
use Rattle.net_types.specs.NetValue.{NetValue}

-- a step at a time
abbrev Decided : Ordering → Type 0 → Type 0
Decided step Ahead = (is_lt step ≡ true) ↔ Ahead

number_step : (x y : ℕ) (rest : Ordering) (Ahead : Type 0) → Decided rest Ahead → Decided (ordering_then (nat_cmp x y) rest) ((x < y) ⊎ ((x ≡ y) × Ahead))
number_step x y rest Ahead later = go (nat_lt x y) (x == y) refl refl where
  go : (less same : Bool) → nat_lt x y ≡ less → (x == y) ≡ same →
      Decided (ordering_then (if less then Less else (if same then Equal else Greater)) rest) ((x < y) ⊎ ((x ≡ y) × Ahead))
  go true same l s = ((λ e. inl (grind (arith, nat_tests))), (λ h. refl))
  go false true l s = (
    (λ e. inr ((grind (arith, nat_tests)), later.0 e)),
    (λ h. elim h [
      | inl less ↦ absurd (grind (arith, nat_tests))
      | inr both ↦ later.1 both.1
    ]),
  )
  go false false l s = (
    (λ e. absurd (cc)),
    (λ h. elim h [
      | inl less ↦ absurd (grind (arith, nat_tests))
      | inr both ↦ absurd (let e = both.0 in grind (arith, nat_tests))
    ]),
  )

-- local before learned
source_step : (a b : Source) (rest : Ordering) (Ahead : Type 0) → Decided rest Ahead →
    Decided (ordering_then (nat_cmp (source_rank a) (source_rank b)) rest)
    (((a ≡ Local) × ((arc : Arc) × (b ≡ Learned arc))) ⊎ ((((a ≡ Local) × (b ≡ Local)) ⊎ (((arc : Arc) × (a ≡ Learned arc)) × ((arc : Arc) × (b ≡ Learned arc)))) × Ahead))
source_step Local Local rest Ahead later = (
  (λ e. inr (inl (refl, refl), later.0 e)),
  (λ h. elim h [
    | inl (l, (arc, e)) ↦ absurd (cc)
    | inr both ↦ later.1 both.1
  ]),
)
source_step Local (Learned arc) rest Ahead later = ((λ e. inl (refl, (arc, refl))), (λ h. refl))
source_step (Learned arc) Local rest Ahead later = (
  (λ e. absurd (cc)),
  (λ h. elim h [
    | inl (l, other) ↦ absurd (cc)
    | inr (kind, ahead) ↦ elim kind [
      | inl (l, m) ↦ absurd (cc)
      | inr (l, (other, m)) ↦ absurd (cc)
    ]
  ]),
)
source_step (Learned arc) (Learned other) rest Ahead later = (
  (λ e. inr (inr ((arc, refl), (other, refl)), later.0 e)),
  (λ h. elim h [
    | inl (l, m) ↦ absurd (cc)
    | inr both ↦ later.1 both.1
  ]),
)

-- igp, egp, incomplete
origin_step : (a b : Origin) (rest : Ordering) (Ahead : Type 0) → Decided rest Ahead →
    Decided (ordering_then (nat_cmp (origin_rank a) (origin_rank b)) rest) (IsLowerOrigin a b ⊎ ((a ≡ b) × Ahead))
origin_step Igp Igp rest Ahead later = (
  (λ e. inr (refl, later.0 e)),
  (λ h. elim h [
    | inl never ↦ absurd never
    | inr both ↦ later.1 both.1
  ]),
)
origin_step Igp Egp rest Ahead later = ((λ e. inl tt), (λ h. refl))
origin_step Igp Incomplete rest Ahead later = ((λ e. inl tt), (λ h. refl))
origin_step Egp Igp rest Ahead later = (
  (λ e. absurd (cc)),
  (λ h. elim h [
    | inl never ↦ absurd never
    | inr both ↦ absurd (let e = both.0 in cc)
  ]),
)
origin_step Egp Egp rest Ahead later = (
  (λ e. inr (refl, later.0 e)),
  (λ h. elim h [
    | inl never ↦ absurd never
    | inr both ↦ later.1 both.1
  ]),
)
origin_step Egp Incomplete rest Ahead later = ((λ e. inl tt), (λ h. refl))
origin_step Incomplete Igp rest Ahead later = (
  (λ e. absurd (cc)),
  (λ h. elim h [
    | inl never ↦ absurd never
    | inr both ↦ absurd (let e = both.0 in cc)
  ]),
)
origin_step Incomplete Egp rest Ahead later = (
  (λ e. absurd (cc)),
  (λ h. elim h [
    | inl never ↦ absurd never
    | inr both ↦ absurd (let e = both.0 in cc)
  ]),
)
origin_step Incomplete Incomplete rest Ahead later = (
  (λ e. inr (refl, later.0 e)),
  (λ h. elim h [
    | inl never ↦ absurd never
    | inr both ↦ later.1 both.1
  ]),
)

-- MED, of one sender
sender_step : (p q : Option ℕ) (m n : ℕ) →
    Decided (ordering_then (if same_router p q then nat_cmp m n else Equal) Equal) ((sender : ℕ) × (p ≡ Some sender) × (q ≡ Some sender) × (m < n))
sender_step None None m n = ((λ e. absurd (cc)), (λ (s, e, f, less). absurd (cc)))
sender_step None (Some v) m n = ((λ e. absurd (cc)), (λ (s, e, f, less). absurd (cc)))
sender_step (Some u) None m n = ((λ e. absurd (cc)), (λ (s, e, f, less). absurd (cc)))
sender_step (Some u) (Some v) m n = go (u == v) refl (number_step m n Equal ⊥ ((λ e. absurd (cc)), (λ never. absurd never))) where
  go : (same : Bool) → (u == v) ≡ same → Decided (ordering_then (nat_cmp m n) Equal) ((m < n) ⊎ ((m ≡ n) × ⊥)) →
      Decided (ordering_then (if same then nat_cmp m n else Equal) Equal) ((sender : ℕ) × (Some u ≡ Some sender) × (Some v ≡ Some sender) × (m < n))
  go true s step = (
    (λ e. elim (step.0 e) [
      | inl less ↦ let same : v ≡ u = grind (arith, nat_tests) in (u, refl, ap (λ (x : ℕ). Some x) same, less)
      | inr both ↦ absurd both.1
    ]),
    (λ (x, e, f, less). step.1 (inl less)),
  )
  go false s step = ((λ e. absurd (cc)), (λ (x, e, f, less). let same : u ≡ v = cc in absurd (grind (arith, nat_tests))))

med_decided : (net : NetValue) (a b : Source) (m n : ℕ) →
    Decided (ordering_then (med_step net a b m n) Equal)
    ((over : Arc) × (other : Arc) × (sender : ℕ) × (a ≡ Learned over) × (b ≡ Learned other) ×
    (sender_of net over ≡ Some sender) × (sender_of net other ≡ Some sender) × (m < n))
med_decided net Local Local m n = ((λ e. absurd (cc)), (λ (over, other, s, e, f, p, q, less). absurd (cc)))
med_decided net Local (Learned y) m n = ((λ e. absurd (cc)), (λ (over, other, s, e, f, p, q, less). absurd (cc)))
med_decided net (Learned x) Local m n = ((λ e. absurd (cc)), (λ (over, other, s, e, f, p, q, less). absurd (cc)))
med_decided net (Learned x) (Learned y) m n =
    let step = sender_step (sender_of net x) (sender_of net y) m n in
    ((λ e. let h = step.0 e in (x, y, h.0, refl, refl, h.1, h.2, h.3)), (λ (over, other, s, e, f, p, q, less). step.1 (s, same_sender x over s e p, same_sender y other s f q, less))) where
      same_sender : (a b : Arc) (s : ℕ) → Learned a ≡ Learned b → sender_of net b ≡ Some s → sender_of net a ≡ Some s
      same_sender a b s e p = let same : a ≡ b = cc in subst (λ (c : Arc). sender_of net c ≡ Some s) (sym same) p

pub better_is_ahead : BetterIsAhead
better_is_ahead net a b =
    number_step b.weight a.weight _ _ (number_step b.preference a.preference _ _ (source_step a.source b.source _ _ (number_step (length a.path) (length b.path) _ _ (origin_step a.origin b.origin _ _ (med_decided net a.source b.source a.med b.med)))))
