-- Of two routes one is better at most, and what is better than a better one is better.
use Rattle.std.proofs.Common.{ℕ, ◌≡◌, ◌<◌, ◌==◌, ◌⊎◌, inl, inr, Bool, true, false, arith, ap, sym, refl, ◌∙◌, length, Option, Some, None, if◌then◌else◌}
use Rattle.std.specs.declared.cmp.Ordering.{Ordering}
use Rattle.std.specs.declared.cmp.Ordering.TheVariants.{Less, Equal, Greater}
use Rattle.std.specs.Ordering.{is_lt, nat_cmp, ordering_then}
use Rattle.std.proofs.lemmas.Bool.{cases_order, eq-eqb, eqb-true, false_from_ne_true}
use Rattle.std.proofs.lemmas.Bool.Decides.{nat_tests}
use Rattle.net_types.specs.declared.arcs.Arc.{Arc}
use Rattle.net_types.specs.declared.config.Origin.{Origin}
use Rattle.net_types.specs.declared.config.Origin.TheVariants.{Igp, Egp, Incomplete}
use Rattle.net_types.specs.declared.routes.Source.{Source}
use Rattle.net_types.specs.declared.routes.Source.TheVariants.{Local, Learned}
use Rattle.net_types.specs.declared.routes.Route.{Route}
use Rattle.net_types.specs.Arcs.{sender_of}
use Rattle.net_types.specs.Better.{source_rank, origin_rank, same_router, med_step, is_better}
use Rattle.net_types.specs.NetValue.{NetValue}
use Rattle.net_types.specs.Laws.{IsAhead, IsLowerOrigin, OneIsBetter, BetterGoesOn}
use Rattle.net_types.proofs.OrderLemmas.{better_is_ahead}

-- one step, and those behind it
step_less : (o rest : Ordering) → o ≡ Less → is_lt (ordering_then o rest) ≡ true
step_less o rest e = rw e refl

step_equal : (o rest : Ordering) → o ≡ Equal → is_lt (ordering_then o rest) ≡ is_lt rest
step_equal o rest e = rw e refl

step_greater : (o rest : Ordering) → o ≡ Greater → is_lt (ordering_then o rest) ≡ false
step_greater o rest e = rw e refl

cmp_less : (x y : ℕ) → x < y → nat_cmp x y ≡ Less
cmp_less x y h = grind (arith, nat_tests)

cmp_equal : (x y : ℕ) → x ≡ y → nat_cmp x y ≡ Equal
cmp_equal x y h = grind (arith, nat_tests)

cmp_greater : (x y : ℕ) → y < x → nat_cmp x y ≡ Greater
cmp_greater x y h = grind (arith, nat_tests)

wins : (x y : ℕ) (rest : Ordering) → x < y → is_lt (ordering_then (nat_cmp x y) rest) ≡ true
wins x y rest h = step_less (nat_cmp x y) rest (cmp_less x y h)

passes : (x y : ℕ) (rest : Ordering) (answer : Bool) → x ≡ y → is_lt rest ≡ answer → is_lt (ordering_then (nat_cmp x y) rest) ≡ answer
passes x y rest answer e h = step_equal (nat_cmp x y) rest (cmp_equal x y e) ∙ h

-- the steps from each on
abbrev by_med : NetValue → Route → Route → Ordering
by_med net a b = ordering_then (med_step net a.source b.source a.med b.med) Equal

abbrev by_origin : NetValue → Route → Route → Ordering
by_origin net a b = ordering_then (nat_cmp (origin_rank a.origin) (origin_rank b.origin)) (by_med net a b)

abbrev by_length : NetValue → Route → Route → Ordering
by_length net a b = ordering_then (nat_cmp (length a.path) (length b.path)) (by_origin net a b)

abbrev by_kind : NetValue → Route → Route → Ordering
by_kind net a b = ordering_then (nat_cmp (source_rank a.source) (source_rank b.source)) (by_length net a b)

abbrev by_preference : NetValue → Route → Route → Ordering
by_preference net a b = ordering_then (nat_cmp b.preference a.preference) (by_kind net a b)

-- MED by the two senders
abbrev med_by : Option ℕ → Option ℕ → ℕ → ℕ → Ordering
med_by o p m n = if same_router o p then nat_cmp m n else Equal

med_less : (o p : Option ℕ) (v m n : ℕ) → o ≡ Some v → p ≡ Some v → m < n → med_by o p m n ≡ Less
med_less o p v m n e f h = rw (e, f) (let t = eq-eqb v v refl in rw t (cmp_less m n h))

step_of_one : (net : NetValue) (s t : Source) (x y : Arc) (v m n : ℕ) → s ≡ Learned x → t ≡ Learned y → sender_of net x ≡ Some v → sender_of net y ≡ Some v → m < n → med_step net s t m n ≡ Less
step_of_one net s t x y v m n e f g h less = rw (e, f) (med_less (sender_of net x) (sender_of net y) v m n g h less)

lower_itself : (o : Origin) → IsLowerOrigin o o → ⊥
lower_itself Igp h = h
lower_itself Egp h = h
lower_itself Incomplete h = h

-- no route is better than itself
ahead_itself : (net : NetValue) (a : Route) → IsAhead net a a → ⊥
ahead_itself net a h = elim h [
  | inl more ↦ absurd (omega arith)
  | inr (w, inl more) ↦ absurd (omega arith)
  | inr (w, inr (p, inl (here, (arc, there)))) ↦ let d : ⊥ = cc in d
  | inr (w, inr (p, inr (kind, inl shorter))) ↦ absurd (omega arith)
  | inr (w, inr (p, inr (kind, inr (long, inl lower)))) ↦ lower_itself a.origin lower
  | inr (w, inr (p, inr (kind, inr (long, inr (origin, (over, other, sender, e, f, g, i, less)))))) ↦ absurd (omega arith)
]

not_itself : (net : NetValue) (a : Route) → is_better net a a ≡ false
not_itself net a = false_from_ne_true (is_better net a a) (λ e. ahead_itself net a ((better_is_ahead net a a).0 e))

-- what a step that wins says
tells : (x y : ℕ) (rest : Ordering) → is_lt (ordering_then (nat_cmp x y) rest) ≡ true → (x < y) ⊎ ((x ≡ y) × (is_lt rest ≡ true))
tells x y rest h = elim (cases_order x y) [
  | inl e ↦ inr (e, sym (step_equal (nat_cmp x y) rest (cmp_equal x y e)) ∙ h)
  | inr (inl l) ↦ inl l
  | inr (inr g) ↦ absurd (let c : false ≡ true = sym (step_greater (nat_cmp x y) rest (cmp_greater x y g)) ∙ h in let d : ⊥ = cc in d)
]

goes_on : (x y z : ℕ) (r s t : Ordering) → (is_lt r ≡ true → is_lt s ≡ true → is_lt t ≡ true) →
    is_lt (ordering_then (nat_cmp x y) r) ≡ true → is_lt (ordering_then (nat_cmp y z) s) ≡ true → is_lt (ordering_then (nat_cmp x z) t) ≡ true
goes_on x y z r s t more h i = elim (tells x y r h) [
  | inl l ↦ elim (tells y z s i) [
    | inl k ↦ wins x z t (omega arith)
    | inr (e, m) ↦ wins x z t (omega arith)
  ]
  | inr (e, m) ↦ elim (tells y z s i) [
    | inl k ↦ wins x z t (omega arith)
    | inr (f, n) ↦ passes x z t true (e ∙ f) (more m n)
  ]
]

-- the same where the greater number wins
goes_back : (x y z : ℕ) (r s t : Ordering) → (is_lt r ≡ true → is_lt s ≡ true → is_lt t ≡ true) →
    is_lt (ordering_then (nat_cmp y x) r) ≡ true → is_lt (ordering_then (nat_cmp z y) s) ≡ true → is_lt (ordering_then (nat_cmp z x) t) ≡ true
goes_back x y z r s t more h i = goes_on z y x s r t (λ n m. more m n) i h

-- a MED that wins is a lower one from the same router
med_by_tells : (o p : Option ℕ) (m n : ℕ) → is_lt (ordering_then (med_by o p m n) Equal) ≡ true → (v : ℕ) × (o ≡ Some v) × (p ≡ Some v) × (m < n)
med_by_tells None p m n h = absurd (let d : ⊥ = cc in d)
med_by_tells (Some u) None m n h = absurd (let d : ⊥ = cc in d)
med_by_tells (Some u) (Some v) m n h = go (u == v) refl h where
  go : (t : Bool) → (u == v) ≡ t → is_lt (ordering_then (if t then nat_cmp m n else Equal) Equal) ≡ true → (w : ℕ) × (Some u ≡ Some w) × (Some v ≡ Some w) × (m < n)
  go false e h = absurd (let d : ⊥ = cc in d)
  go true e h = elim (tells m n Equal h) [
    | inl l ↦ (v, ap Some (eqb-true u v e), refl, l)
    | inr (f, c) ↦ absurd (let d : ⊥ = cc in d)
  ]

step_tells : (net : NetValue) (s t : Source) (m n : ℕ) → is_lt (ordering_then (med_step net s t m n) Equal) ≡ true →
    (x : Arc) × (y : Arc) × (v : ℕ) × (s ≡ Learned x) × (t ≡ Learned y) × (sender_of net x ≡ Some v) × (sender_of net y ≡ Some v) × (m < n)
step_tells net Local t m n h = absurd (let d : ⊥ = cc in d)
step_tells net (Learned x) Local m n h = absurd (let d : ⊥ = cc in d)
step_tells net (Learned x) (Learned y) m n h =
    let w = med_by_tells (sender_of net x) (sender_of net y) m n h in
    (x, y, w.0, refl, refl, w.1, w.2, w.3)

same_learned : (x y : Arc) → Learned x ≡ Learned y → x ≡ y
same_learned x y e = cc

med_goes_on : (net : NetValue) (a b c : Route) → is_lt (by_med net a b) ≡ true → is_lt (by_med net b c) ≡ true → is_lt (by_med net a c) ≡ true
med_goes_on net a b c h i =
    let p = step_tells net a.source b.source a.med b.med h in
    let q = step_tells net b.source c.source b.med c.med i in
    let middle : p.1 ≡ q.0 = same_learned p.1 q.0 (sym p.4 ∙ q.3) in
    let sender : Some p.2 ≡ Some q.2 = sym p.6 ∙ ap (sender_of net) middle ∙ q.5 in
    let l : a.med < c.med = (let l = p.7 in let k = q.7 in omega arith) in
    step_less (med_step net a.source c.source a.med c.med) Equal (step_of_one net a.source c.source p.0 q.1 p.2 a.med c.med p.3 q.4 p.5 (q.6 ∙ sym sender) l)

pub better_goes_on : BetterGoesOn
better_goes_on net a b c =
    goes_back a.weight b.weight c.weight (by_preference net a b) (by_preference net b c) (by_preference net a c)
    (goes_back a.preference b.preference c.preference (by_kind net a b) (by_kind net b c) (by_kind net a c)
    (goes_on (source_rank a.source) (source_rank b.source) (source_rank c.source) (by_length net a b) (by_length net b c) (by_length net a c)
    (goes_on (length a.path) (length b.path) (length c.path) (by_origin net a b) (by_origin net b c) (by_origin net a c)
    (goes_on (origin_rank a.origin) (origin_rank b.origin) (origin_rank c.origin) (by_med net a b) (by_med net b c) (by_med net a c)
    (med_goes_on net a b c)))))

pub one_is_better : OneIsBetter
one_is_better net a b h = false_from_ne_true (is_better net b a) (λ i. let c : false ≡ true = sym (not_itself net a) ∙ better_goes_on net a b a h i in let d : ⊥ = cc in d)
