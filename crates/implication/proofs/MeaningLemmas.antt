-- The laws of the definitions.
use Rattle.std.proofs.Common.{ℕ, zero, suc, ◌≡◌, ◌<◌, ◌==◌, ◌&&◌, ◌||◌, not, ◌⊎◌, inl, inr, ◌↔◌, Bool, true, false, Option, Some, None, arith, ap, sym, subst, ◌∙◌, refl}
use Rattle.std.proofs.lemmas.Bool.Decides.{nat_tests}
use Rattle.net_types.specs.NetValue.{NetValue}
use Rattle.property_book.specs.declared.property.Kind.{Kind}
use Rattle.property_book.specs.declared.property.Kind.TheVariants.{Reach, Isolated, Waypoint}
use Rattle.property_book.specs.declared.verdict.Broken.{Broken}
use Rattle.property_book.specs.declared.verdict.Broken.TheVariants.{NoSureRoute, IsOwner, MayLearn, HasOspf, Bypass}
use Rattle.implication.specs.View.{IsInside, View, every_below, owners_plain, view_of}
use Rattle.implication.specs.Closed.{IsLeast}
use Rattle.implication.specs.Implied.{Bypasses, IsKindBroken, IsKindImplied, IsSolid, IsSolidSet, LacksRoute}
use Rattle.implication.specs.Laws.{AnswersAreOne, ExceptionIs, HopsFall, LeadsToOwner, SolidIs, SolidIsLeast}
use Rattle.implication.proofs.SetLemmas.{every_at, every_from, not_every, off, true_or_false}
use Rattle.implication.proofs.WalkLemmas.{solid_case}

-- ---- the answer is one

refutes : (net : NetValue) (view : View) (start : ℕ) (kind : Kind) (broken : Broken) → IsKindBroken net view start kind broken → IsKindImplied net view start kind → ⊥
refutes net view start Reach (NoSureRoute u) h implied = h.has_it.1 (implied u h.has_it.0)
refutes net view start Isolated IsOwner h implied = off (view.owner start) h implied.no_owner
refutes net view start Isolated MayLearn h implied = off (view.may_learn start) h.1 implied.cannot_learn
refutes net view start Isolated HasOspf h implied = off (view.has_distance start) h.2 implied.no_distance
refutes net view start (Waypoint host) (Bypass u) (via, is, h) implied = h.has_it.2 (implied via is u h.has_it.0 h.has_it.1)
refutes net view start kind broken h implied = absurd h

least_one : (property : ℕ → Type 0) (a b : ℕ) → IsLeast property a → IsLeast property b → a ≡ b
least_one property a b p q = elim (by_order a b) [
  | inl less ↦ absurd (q.none_below a less p.has_it)
  | inr (inl same) ↦ same
  | inr (inr more) ↦ absurd (p.none_below b more q.has_it)
] where
  by_order : (x y : ℕ) → (x < y) ⊎ (x ≡ y) ⊎ (y < x)
  by_order x y = grind arith

unwrap : (a b : ℕ) → Some a ≡ Some b → a ≡ b
unwrap a b h = cc

one_broken : (net : NetValue) (view : View) (start : ℕ) (kind : Kind) (a b : Broken) → IsKindBroken net view start kind a → IsKindBroken net view start kind b → a ≡ b
one_broken net view start Reach (NoSureRoute u) (NoSureRoute v) h i = ap NoSureRoute (least_one (LacksRoute view start) u v h i)
one_broken net view start Isolated IsOwner IsOwner h i = refl
one_broken net view start Isolated IsOwner MayLearn h i = absurd (off (view.owner start) h i.0)
one_broken net view start Isolated IsOwner HasOspf h i = absurd (off (view.owner start) h i.0)
one_broken net view start Isolated MayLearn IsOwner h i = absurd (off (view.owner start) i h.0)
one_broken net view start Isolated MayLearn MayLearn h i = refl
one_broken net view start Isolated MayLearn HasOspf h i = absurd (off (view.may_learn start) h.1 i.1)
one_broken net view start Isolated HasOspf IsOwner h i = absurd (off (view.owner start) i h.0)
one_broken net view start Isolated HasOspf MayLearn h i = absurd (off (view.may_learn start) i.1 h.1)
one_broken net view start Isolated HasOspf HasOspf h i = refl
one_broken net view start (Waypoint host) (Bypass u) (Bypass v) (via, is, h) (other, at, i) =
    let same : via ≡ other = unwrap via other (sym is ∙ at) in
    ap Bypass (least_one (Bypasses view other start) u v (subst (λ (x : ℕ). IsLeast (Bypasses view x start) u) same h) i)
one_broken net view start Reach (NoSureRoute u) b h i = absurd i
one_broken net view start Reach a b h i = absurd h
one_broken net view start Isolated (NoSureRoute u) b h i = absurd h
one_broken net view start Isolated (Bypass u) b h i = absurd h
one_broken net view start Isolated a b h i = absurd i
one_broken net view start (Waypoint host) (Bypass u) b h i = absurd i
one_broken net view start (Waypoint host) a b h i = absurd h

pub answers_are_one : AnswersAreOne
answers_are_one net property failed known None None h i = refl
answers_are_one net property failed known None (Some b) h (start, at, i) = absurd (refutes net (view_of net property.prefix failed known) start property.kind b i (h start at))
answers_are_one net property failed known (Some a) None (start, at, h) i = absurd (refutes net (view_of net property.prefix failed known) start property.kind a h (i start at))
answers_are_one net property failed known (Some a) (Some b) (start, at, h) (other, it, i) =
    let same : start ≡ other = unwrap start other (sym at ∙ it) in
    ap (λ (x : Broken). Some x) (one_broken net (view_of net property.prefix failed known) other property.kind a b
    (subst (λ (x : ℕ). IsKindBroken net (view_of net property.prefix failed known) x property.kind a) same h) i)

-- ---- the exception

not_and : (a b : Bool) → not (a && b) ≡ true → a ≡ true → b ≡ false
not_and a b h i = grind (arith, nat_tests)

and_not : (a b : Bool) → (a ≡ true → b ≡ false) → not (a && b) ≡ true
and_not true b h = let e = h refl in grind (arith, nat_tests)
and_not false b h = refl

pub exception_is : ExceptionIs
exception_is view = (
  (λ h u l owner. not_and (view.owner u) (view.may_learn u) (every_at view.count (λ x. not (view.owner x && view.may_learn x)) h u l) owner),
  (λ h. every_from view.count (λ x. not (view.owner x && view.may_learn x)) (λ u l. and_not (view.owner u) (view.may_learn u) (h u l))),
)

-- ---- solid

pub picked_from : (k x : ℕ) (pick : ℕ → ℕ → Bool) → not (every_below k (λ v. not (pick v x))) ≡ true → (v : ℕ) × (v < k) × (pick v x ≡ true)
picked_from k x pick h =
    let f = not_every k (λ v. not (pick v x)) (not_off (every_below k (λ v. not (pick v x))) h) in
    (f.0, f.1, on (pick f.0 x) f.2) where
      not_off : (b : Bool) → not b ≡ true → b ≡ false
      not_off b e = grind (arith, nat_tests)

      on : (b : Bool) → not b ≡ false → b ≡ true
      on b e = grind (arith, nat_tests)

pub picked_to : (k x v : ℕ) (pick : ℕ → ℕ → Bool) → v < k → pick v x ≡ true → not (every_below k (λ w. not (pick w x))) ≡ true
picked_to k x v pick l h = elim (true_or_false (every_below k (λ w. not (pick w x)))) [
  | inl every ↦ absurd (let e = every_at k (λ w. not (pick w x)) every v l in grind (arith, nat_tests))
  | inr some ↦ rw some refl
]

either_of : (a b : Bool) → (a || b) ≡ true → (a ≡ true) ⊎ (b ≡ true)
either_of true b h = inl refl
either_of false b h = inr (grind (arith, nat_tests))

or_left : (a b : Bool) → a ≡ true → (a || b) ≡ true
or_left a b h = grind (arith, nat_tests)

or_right : (a b : Bool) → b ≡ true → (a || b) ≡ true
or_right a b h = grind (arith, nat_tests)

same_number : (x y : ℕ) → (x == y) ≡ true → x ≡ y
same_number x y h = grind (arith, nat_tests)

self_same : (x : ℕ) → (x == x) ≡ true
self_same x = grind (arith, nat_tests)

-- solid sets together, with a router whose hops they have
together_solid : (view : View) (u : ℕ) → IsInside view → view.may_learn u ≡ false → view.has_distance u ≡ true → (pick : ℕ → ℕ → Bool) → ((v : ℕ) → IsSolidSet view (pick v)) → ((v : ℕ) → view.hop u v ≡ true → pick v v ≡ true) → IsSolidSet view (λ x. (x == u) || not (every_below view.count (λ v. not (pick v x))))
together_solid view u inside cannot reaches pick solid own = record {
  each = λ x h. elim (either_of (x == u) (not (every_below view.count (λ v. not (pick v x)))) h) [
    | inl here ↦
        let e : u ≡ x = sym (same_number x u here) in
        subst (λ (n : ℕ). (view.owner n ≡ true) ⊎ ((view.may_learn n ≡ false) × (view.has_distance n ≡ true) × ((v : ℕ) → view.hop n v ≡ true → together v ≡ true))) e
        (inr (cannot, reaches, λ v hop. or_right (v == u) (not (every_below view.count (λ w. not (pick w v)))) (picked_to view.count v v pick (inside.hops u v hop) (own v hop))))
    | inr there ↦ with_pick x (picked_from view.count x pick there)
  ];
} where
  together : ℕ → Bool
  together x = (x == u) || not (every_below view.count (λ v. not (pick v x)))

  with_pick : (x : ℕ) → ((w : ℕ) × (w < view.count) × (pick w x ≡ true)) → (view.owner x ≡ true) ⊎ ((view.may_learn x ≡ false) × (view.has_distance x ≡ true) × ((v : ℕ) → view.hop x v ≡ true → together v ≡ true))
  with_pick x (w, low, picked) = elim ((solid w).each x picked) [
    | inl owner ↦ inl owner
    | inr rest ↦ inr (rest.0, rest.1, λ v hop. or_right (v == u) (not (every_below view.count (λ w. not (pick w v)))) (picked_to view.count v w pick low (rest.2 v hop)))
  ]

solid_more : (view : View) (u : ℕ) → IsInside view → view.may_learn u ≡ false → view.has_distance u ≡ true → ((v : ℕ) → view.hop u v ≡ true → IsSolid view v) → IsSolid view u
solid_more view u inside cannot reaches hops = (
  (λ x. (x == u) || not (every_below view.count (λ v. not ((choose v).0 x)))),
  together_solid view u inside cannot reaches (λ v. (choose v).0) (λ v. (choose v).1) (λ v. (choose v).2),
  or_left (u == u) (not (every_below view.count (λ v. not ((choose v).0 u)))) (self_same u),
) where
  choose_by : (v : ℕ) (b : Bool) → view.hop u v ≡ b → (set : ℕ → Bool) × IsSolidSet view set × (view.hop u v ≡ true → set v ≡ true)
  choose_by v true is = let s = hops v is in (s.0, s.1, λ h. s.2)
  choose_by v false is = ((λ x. false), record { each = λ x h. absurd (off false h refl) }, λ h. absurd (off (view.hop u v) h is))

  choose : (v : ℕ) → (set : ℕ → Bool) × IsSolidSet view set × (view.hop u v ≡ true → set v ≡ true)
  choose v = choose_by v (view.hop u v) refl

pub solid_is : SolidIs
solid_is view u inside = (
  (λ h. solid_case view u h),
  (λ h. elim h [
    | inl owner ↦ ((λ x. x == u), record { each = λ x is. inl (subst (λ (n : ℕ). view.owner n ≡ true) (sym (same_number x u is)) owner) }, self_same u)
    | inr rest ↦ solid_more view u inside rest.0 rest.1 rest.2
  ]),
)

-- by induction on the distance
solid_within : (view : View) (distance : ℕ → ℕ) → HopsFall view distance → (set : ℕ → Bool) → ((u : ℕ) → LeadsToOwner view (λ v. set v ≡ true) u → set u ≡ true) → (k u : ℕ) → distance u < k → IsSolid view u → set u ≡ true
solid_within view distance falls set closed zero u l is = absurd (omega arith)
solid_within view distance falls set closed (suc k) u l is = closed u (elim (solid_case view u is) [
  | inl owner ↦ inl owner
  | inr rest ↦ inr (rest.0, rest.1, λ v hop. solid_within view distance falls set closed k v (let f = falls u v hop in omega arith) (rest.2 v hop))
])

pub solid_is_least : SolidIsLeast
solid_is_least view distance falls set closed u is = solid_within view distance falls set closed (suc (distance u)) u (omega arith) is
