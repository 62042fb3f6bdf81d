-- A candidate that beats another has better routes alone: step by step, what the worst and the best decide the
-- routes decide in the same way.
use Rattle.std.proofs.Common.{ℕ, ◌≡◌, ◌<◌, ◌≤◌, ◌==◌, ◌⊎◌, inl, inr, Bool, true, false, List, [], ◌∷◌, length, Option, Some, None, arith, sym, subst, refl, if◌then◌else◌, ◌^◌, ◌↔◌, ◌∙◌}
use Rattle.std.specs.declared.cmp.Ordering.{Ordering}
use Rattle.std.specs.declared.cmp.Ordering.TheVariants.{Less, Equal, Greater}
use Rattle.std.specs.Ordering.{is_lt, nat_cmp, ordering_then}
use Rattle.std.specs.Cmp.{nat_cmp_is}
use Rattle.net_types.specs.declared.routes.Route.{Route}
use Rattle.net_types.specs.declared.routes.Source.{Source}
use Rattle.net_types.specs.declared.routes.Source.TheVariants.{Local, Learned}
use Rattle.net_types.specs.Better.{is_better, steps, first_difference, same_router, source_rank, med_step, origin_rank}
use Rattle.net_types.specs.NetValue.{NetValue}
use Rattle.abstract_route.specs.declared.candidates.Candidate.{Candidate}
use Rattle.abstract_route.specs.Beats.{beats, by_less, by_med, by_more, candidate_of, learned_from, sender_rank, worst_steps, HasSender, IsBest, IsFrom, IsOf, IsWorst}
use Rattle.abstract_route.proofs.FitLemmas.{exact_is_least}

-- what a step of routes may answer where the worst and the best answer so
abbrev Follows : Ordering → Ordering → Type 0
Follows Less Less = Unit {0}
Follows Less Equal = ⊥
Follows Less Greater = ⊥
Follows Equal Less = Unit {0}
Follows Equal Equal = Unit {0}
Follows Equal Greater = ⊥
Follows Greater step = Unit {0}

cases3 : (x y : ℕ) → (x < y) ⊎ ((x ≡ y) ⊎ (y < x))
cases3 x y = grind arith

follows_cmp : (p q m n : ℕ) → m ≤ p → q ≤ n → Follows (nat_cmp p q) (nat_cmp m n)
follows_cmp p q m n mp qn = elim (cases3 p q) [
  | inl lt ↦ rw (sym (nat_cmp_is p q Less lt)) (rw (sym (nat_cmp_is m n Less (omega arith))) tt)
  | inr (inl eq) ↦ rw (sym (nat_cmp_is p q Equal eq)) (same (cases3 m n) eq)
  | inr (inr gt) ↦ rw (sym (nat_cmp_is p q Greater gt)) tt
] where
  same : (m < n) ⊎ ((m ≡ n) ⊎ (n < m)) → p ≡ q → Follows Equal (nat_cmp m n)
  same (inl lt) eq = rw (sym (nat_cmp_is m n Less lt)) tt
  same (inr (inl e)) eq = rw (sym (nat_cmp_is m n Equal e)) tt
  same (inr (inr gt)) eq = absurd (omega arith)

-- each step follows its own
abbrev AllFollow : List Ordering → List Ordering → Type 0
AllFollow [] [] = Unit {0}
AllFollow [] (y ∷ ys) = ⊥
AllFollow (x ∷ xs) [] = ⊥
AllFollow (x ∷ xs) (y ∷ ys) = Follows x y × AllFollow xs ys

first_follows : (xs ys : List Ordering) → AllFollow xs ys → is_lt (first_difference xs) ≡ true → is_lt (first_difference ys) ≡ true
first_follows [] [] f e = e
first_follows [] (y ∷ ys) f e = absurd f
first_follows (x ∷ xs) [] f e = absurd f
first_follows (x ∷ xs) (y ∷ ys) f e = here x y f.0 e (first_follows xs ys f.1) where
  here : (x y : Ordering) → Follows x y → is_lt (ordering_then x (first_difference xs)) ≡ true →
      (is_lt (first_difference xs) ≡ true → is_lt (first_difference ys) ≡ true) → is_lt (ordering_then y (first_difference ys)) ≡ true
  here Less Less f e more = refl
  here Less Equal f e more = absurd f
  here Less Greater f e more = absurd f
  here Equal Less f e more = refl
  here Equal Equal f e more = more e
  here Equal Greater f e more = absurd f
  here Greater y f e more = absurd (cc)

-- the rank of a sender is that of a source
rank_same : (net : NetValue) (sender : Option ℕ) (source : Source) → IsFrom net sender source → source_rank source ≡ sender_rank sender
rank_same net None Local f = refl
rank_same net None (Learned arc) f = absurd f
rank_same net (Some u) Local f = absurd f
rank_same net (Some u) (Learned arc) f = refl

by_source : (net : NetValue) (a b : Option ℕ) (r s : Source) → IsFrom net a r → IsFrom net b s →
    Follows (nat_cmp (sender_rank a) (sender_rank b)) (nat_cmp (source_rank r) (source_rank s))
by_source net a b r s f g =
    let e = rank_same net a r f in let h = rank_same net b s g in
    follows_cmp (sender_rank a) (sender_rank b) (source_rank r) (source_rank s) (omega arith) (omega arith)

by_router : (same : Bool) (p q m n : ℕ) → m ≤ p → q ≤ n → Follows (if same then nat_cmp p q else Equal) (if same then nat_cmp m n else Equal)
by_router true p q m n mp qn = follows_cmp p q m n mp qn
by_router false p q m n mp qn = tt

med_follows : (net : NetValue) (a b : Option ℕ) (r s : Source) → IsFrom net a r → IsFrom net b s → (p q m n : ℕ) → m ≤ p → q ≤ n →
    Follows (if same_router a b then nat_cmp p q else Equal) (med_step net r s m n)
med_follows net None None Local Local f g p q m n mp qn = tt
med_follows net None (Some v) Local (Learned d) f g p q m n mp qn = tt
med_follows net (Some u) None (Learned c) Local f g p q m n mp qn = tt
med_follows net (Some u) (Some v) (Learned c) (Learned d) f g p q m n mp qn =
    rw (f, g) (by_router (u == v) p q m n mp qn)
med_follows net None b (Learned c) s f g p q m n mp qn = absurd f
med_follows net (Some u) b Local s f g p q m n mp qn = absurd f
med_follows net a None r (Learned d) f g p q m n mp qn = absurd g
med_follows net a (Some v) r Local f g p q m n mp qn = absurd g

pub beats_is_sound : (net : NetValue) (a b : Candidate) (r s : Route) → beats a b ≡ true → IsOf net a r → IsOf net b s → is_better net r s ≡ true
beats_is_sound net a b r s e f g = first_follows (worst_steps a b) (steps net r s) (
  follows_cmp b.row.weight.high a.row.weight.low s.weight r.weight g.0.weight.1 f.0.weight.0,
  (
    follows_cmp b.row.preference.high a.row.preference.low s.preference r.preference g.0.preference.1 f.0.preference.0,
    (
      by_source net a.sender b.sender r.source s.source f.1 g.1,
      (
        follows_cmp a.row.length.high b.row.length.low (length r.path) (length s.path) f.0.length.1 g.0.length.0,
        (
          follows_cmp a.row.origin.high b.row.origin.low (origin_rank r.origin) (origin_rank s.origin) f.0.origin.1 g.0.origin.0,
          (
            med_follows net a.sender b.sender r.source s.source f.1 g.1 a.row.med.high b.row.med.low r.med s.med f.0.med.1 g.0.med.0,
            tt,
          ),
        ),
      ),
    ),
  ),
) e

-- ---- the test is exact where a route is the worst, and another the best

med_same : (net : NetValue) (a b : Option ℕ) (r s : Source) → IsFrom net a r → IsFrom net b s → (m n : ℕ) →
    (if same_router a b then nat_cmp m n else Equal) ≡ med_step net r s m n
med_same net None None Local Local f g m n = refl
med_same net None (Some v) Local (Learned d) f g m n = refl
med_same net (Some u) None (Learned c) Local f g m n = refl
med_same net (Some u) (Some v) (Learned c) (Learned d) f g m n = rw (f, g) refl
med_same net None b (Learned c) s f g m n = absurd f
med_same net (Some u) b Local s f g m n = absurd f
med_same net a None r (Learned d) f g m n = absurd g
med_same net a (Some v) r Local f g m n = absurd g

first_same : (a b c d e f a' b' c' d' e' f' : Ordering) → a ≡ a' → b ≡ b' → c ≡ c' → d ≡ d' → e ≡ e' → f ≡ f' →
    is_lt (first_difference (a ∷ b ∷ c ∷ d ∷ e ∷ f ∷ [])) ≡ is_lt (first_difference (a' ∷ b' ∷ c' ∷ d' ∷ e' ∷ f' ∷ []))
first_same a b c d e f a' b' c' d' e' f' p q r s t u =
    λ i. is_lt (first_difference (p i ∷ q i ∷ r i ∷ s i ∷ t i ∷ u i ∷ []))

cmp_same : (p q m n : ℕ) → p ≡ m → q ≡ n → nat_cmp p q ≡ nat_cmp m n
cmp_same p q m n e f = λ i. nat_cmp (e i) (f i)

pub beats_is_exact : (net : NetValue) (a b : Candidate) (r s : Route) → IsWorst r a.row → IsBest s b.row →
    IsFrom net a.sender r.source → IsFrom net b.sender s.source → beats a b ≡ is_better net r s
beats_is_exact net a b r s w v f g = first_same
    (by_more a.row.weight b.row.weight) (by_more a.row.preference b.row.preference) (nat_cmp (sender_rank a.sender) (sender_rank b.sender))
    (by_less a.row.length b.row.length) (by_less a.row.origin b.row.origin) (by_med a b)
    (nat_cmp s.weight r.weight) (nat_cmp s.preference r.preference) (nat_cmp (source_rank r.source) (source_rank s.source))
    (nat_cmp (length r.path) (length s.path)) (nat_cmp (origin_rank r.origin) (origin_rank s.origin)) (med_step net r.source s.source r.med s.med)
    (cmp_same b.row.weight.high a.row.weight.low s.weight r.weight (sym v.weight) (sym w.weight))
    (cmp_same b.row.preference.high a.row.preference.low s.preference r.preference (sym v.preference) (sym w.preference))
    (cmp_same (sender_rank a.sender) (sender_rank b.sender) (source_rank r.source) (source_rank s.source)
    (sym (rank_same net a.sender r.source f)) (sym (rank_same net b.sender s.source g)))
    (cmp_same a.row.length.high b.row.length.low (length r.path) (length s.path) (sym w.length) (sym v.length))
    (cmp_same a.row.origin.high b.row.origin.low (origin_rank r.origin) (origin_rank s.origin) (sym w.origin) (sym v.origin))
    (subst (λ n. by_med a b ≡ med_step net r.source s.source n s.med) (sym w.med)
    (subst (λ n. by_med a b ≡ med_step net r.source s.source a.row.med.high n) (sym v.med)
    (med_same net a.sender b.sender r.source s.source f g a.row.med.high b.row.med.low)))

pub beats_is_each : (net : NetValue) (a b : Candidate) (worst best : Route) → IsOf net a worst → IsWorst worst a.row → IsOf net b best → IsBest best b.row →
    (beats a b ≡ true) ↔ ((r s : Route) → IsOf net a r → IsOf net b s → is_better net r s ≡ true)
beats_is_each net a b worst best f w g v = (
  (λ e r s p q. beats_is_sound net a b r s e p q),
  (λ each. beats_is_exact net a b worst best w v f.1 g.1 ∙ each worst best f g),
)

from_its_sender : (net : NetValue) (source : Source) → HasSender net source → IsFrom net (learned_from net source) source
from_its_sender net Local h = tt
from_its_sender net (Learned arc) h = subst (λ (o : Option ℕ). IsFrom net o (Learned arc)) (sym h.1) h.1

pub beats_of_routes : (net : NetValue) (r s : Route) → HasSender net r.source → HasSender net s.source →
    beats (candidate_of net r) (candidate_of net s) ≡ is_better net r s
beats_of_routes net r s h k = beats_is_exact net (candidate_of net r) (candidate_of net s) r s
    (record { weight = refl; preference = refl; length = refl; origin = refl; med = refl })
    (record { weight = refl; preference = refl; length = refl; origin = refl; med = refl })
    (from_its_sender net r.source h) (from_its_sender net s.source k)

pub route_is_of : (net : NetValue) (route : Route) → route.communities < 2 ^ 64 → HasSender net route.source → IsOf net (candidate_of net route) route
route_is_of net route small h = ((exact_is_least route small).fits, from_its_sender net route.source h)
