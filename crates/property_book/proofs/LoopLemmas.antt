-- Walks of forwarding: what they are one after another, and that traffic reaches where it is stuck nowhere and
-- never goes round.
use Rattle.std.proofs.Common.{ℕ, zero, suc, ◌≡◌, ◌≢◌, ◌<◌, ◌≤◌, ◌+◌, ◌*◌, ◌⊎◌, inl, inr, ◌++◌, Bool, true, false, List, [], ◌∷◌, length, Option, Contains, eqb, length-append, arith, ap, sym, subst, ◌∙◌, refl}
use Rattle.std.specs.List.{AllByRecursion, IsDistinct, list_any}
use Rattle.std.proofs.lemmas.Bool.{false≢true}
use Rattle.std.proofs.lemmas.Bool.Decides.{nat_tests}
use Rattle.std.proofs.lemmas.Map.Steps.{length-le_from_distinct_below}
use Rattle.net_types.specs.declared.routes.Route.{Route}
use Rattle.net_types.specs.NetFacts.{IsNet}
use Rattle.net_types.specs.NetValue.{NetValue}
use Rattle.net_types.specs.Owners.{owns}
use Rattle.net_types.specs.PrefixValue.{PrefixValue}
use Rattle.property_book.specs.Forwarding.{Forwards, GoesThrough, IsForwardWalk, Reaches, last_of}
use Rattle.property_book.specs.Laws.{HasNoLoop, IsNowhereStuck, IsolatedReachNobody, OwnersEndWalks, OwnersGoAround, OwnersReach, ReachEndsAtOwners, ReachGoesOn, ReachIsNoLoop, SoleOwnersAreWaypoints, WalksGoOn, WaypointsCount, WaypointsGoOn}
use Rattle.property_book.proofs.StepLemmas.{isolated_are_stuck, next_is_router}

-- ---- walks, one after another

join : (net : NetValue) (prefix : PrefixValue) (failed : List ℕ) (ds : List (Option ℕ)) (labels : List (Option Route)) (front rest : List ℕ) (u : ℕ) → IsForwardWalk net prefix failed ds labels u front → IsForwardWalk net prefix failed ds labels (last_of u front) rest → IsForwardWalk net prefix failed ds labels u (front ++ rest)
join net prefix failed ds labels [] rest u w x = x
join net prefix failed ds labels (v ∷ front) rest u w x = (w.0, join net prefix failed ds labels front rest v w.1 x)

last_of-append : (front rest : List ℕ) (u : ℕ) → last_of u (front ++ rest) ≡ last_of (last_of u front) rest
last_of-append [] rest u = refl
last_of-append (v ∷ front) rest u = last_of-append front rest v

cut : (net : NetValue) (prefix : PrefixValue) (failed : List ℕ) (ds : List (Option ℕ)) (labels : List (Option Route)) (walk : List ℕ) (u v : ℕ) → IsForwardWalk net prefix failed ds labels u (walk ++ v ∷ []) → IsForwardWalk net prefix failed ds labels u walk × Forwards net prefix failed ds labels (last_of u walk) v
cut net prefix failed ds labels [] u v w = (tt, w.0)
cut net prefix failed ds labels (x ∷ walk) u v w = let c = cut net prefix failed ds labels walk x v w.1 in ((w.0, c.0), c.1)

pub walks_go_on : WalksGoOn
walks_go_on net prefix failed ds labels u v walk = (
  ((λ w. cut net prefix failed ds labels walk u v w), (λ (w, f). join net prefix failed ds labels walk (v ∷ []) u w (f, tt))),
  last_of-append walk (v ∷ []) u,
)

pub owners_end_walks : OwnersEndWalks
owners_end_walks net prefix failed ds labels u [] owner w = refl
owners_end_walks net prefix failed ds labels u (v ∷ more) owner w = absurd (false≢true (sym w.0.no_owner ∙ owner))

-- ---- reach

at_owner : (net : NetValue) (prefix : PrefixValue) (failed : List ℕ) (ds : List (Option ℕ)) (labels : List (Option Route)) (u : ℕ) (walk : List ℕ) → owns net u prefix ≡ true → IsForwardWalk net prefix failed ds labels u walk → owns net (last_of u walk) prefix ≡ false → ⊥
at_owner net prefix failed ds labels u [] owner w none = false≢true (sym none ∙ owner)
at_owner net prefix failed ds labels u (v ∷ more) owner w none = false≢true (sym w.0.no_owner ∙ owner)

pub owners_reach : OwnersReach
owners_reach net prefix failed ds labels u owner = record {
  not_stuck = λ walk w none. absurd (at_owner net prefix failed ds labels u walk owner w none);
  soon = λ walk w none. absurd (at_owner net prefix failed ds labels u walk owner w none);
}

-- a walk so many times
abbrev times : ℕ → List ℕ → List ℕ
times zero loop = []
times (suc k) loop = loop ++ times k loop

times_walk : (net : NetValue) (prefix : PrefixValue) (failed : List ℕ) (ds : List (Option ℕ)) (labels : List (Option Route)) (k : ℕ) (loop : List ℕ) (x : ℕ) → IsForwardWalk net prefix failed ds labels x loop → last_of x loop ≡ x → IsForwardWalk net prefix failed ds labels x (times k loop)
times_walk net prefix failed ds labels zero loop x w back = tt
times_walk net prefix failed ds labels (suc k) loop x w back =
    join net prefix failed ds labels loop (times k loop) x w
    (subst (λ (y : ℕ). IsForwardWalk net prefix failed ds labels y (times k loop)) (sym back) (times_walk net prefix failed ds labels k loop x w back))

times_last : (k : ℕ) (loop : List ℕ) (x : ℕ) → last_of x loop ≡ x → last_of x (times k loop) ≡ x
times_last zero loop x back = refl
times_last (suc k) loop x back = last_of-append loop (times k loop) x ∙ ap (λ (y : ℕ). last_of y (times k loop)) back ∙ times_last k loop x back

times_long : (k v : ℕ) (loop : List ℕ) → k ≤ length (times k (v ∷ loop))
times_long zero v loop = omega arith
times_long (suc k) v loop = let e = length-append (v ∷ loop) (times k (v ∷ loop)) in let i = times_long k v loop in omega arith

-- a loop could be walked too often
no_loop : (net : NetValue) (prefix : PrefixValue) (failed : List ℕ) (ds : List (Option ℕ)) (labels : List (Option Route)) (u : ℕ) → Reaches net prefix failed ds labels u → HasNoLoop net prefix failed ds labels u
no_loop net prefix failed ds labels u r walk [] w x back = refl
no_loop net prefix failed ds labels u r walk (v ∷ more) w x back =
    let k = 2 * length net.routers in
    let long = times k (v ∷ more) in
    let whole = join net prefix failed ds labels walk long u w (times_walk net prefix failed ds labels k (v ∷ more) (last_of u walk) x back) in
    let at : last_of u (walk ++ long) ≡ last_of u walk = last_of-append walk long u ∙ times_last k (v ∷ more) (last_of u walk) back in
    let none : owns net (last_of u (walk ++ long)) prefix ≡ false = ap (λ (y : ℕ). owns net y prefix) at ∙ x.0.no_owner in
    let soon = r.soon (walk ++ long) whole none in
    let e = length-append walk long in
    let t = times_long k v more in
    absurd (omega arith)

-- ---- without a loop no router comes twice, so a walk has at most as many steps as there are routers

abbrev On : ℕ → List ℕ → Type 0
On x xs = list_any (eqb x) xs ≡ true

first_or_later : (x v : ℕ) (more : List ℕ) → On x (v ∷ more) → (x ≡ v) ⊎ On x more
first_or_later x v more on = grind (arith, nat_tests)

-- the walk up to a router where it comes
record UpTo (net : NetValue) (prefix : PrefixValue) (failed : List ℕ) (ds : List (Option ℕ)) (labels : List (Option Route)) (u x : ℕ) : Type 0 where
  front : List ℕ
  walks : IsForwardWalk net prefix failed ds labels u front
  ends : last_of u front ≡ x
  steps : 1 ≤ length front

up_to : (net : NetValue) (prefix : PrefixValue) (failed : List ℕ) (ds : List (Option ℕ)) (labels : List (Option Route)) (walk : List ℕ) (u x : ℕ) → IsForwardWalk net prefix failed ds labels u walk → On x walk → UpTo net prefix failed ds labels u x
up_to net prefix failed ds labels [] u x w on = absurd (false≢true on)
up_to net prefix failed ds labels (v ∷ more) u x w on = elim (first_or_later x v more on) [
  | inl first ↦ record { front = v ∷ []; walks = (w.0, tt); ends = sym first; steps = omega arith }
  | inr later ↦
      let i = up_to net prefix failed ds labels more v x w.1 later in
      record { front = v ∷ i.front; walks = (w.0, i.walks); ends = i.ends; steps = omega arith }
]

after : (net : NetValue) (prefix : PrefixValue) (failed : List ℕ) (ds : List (Option ℕ)) (labels : List (Option Route)) (u v : ℕ) → HasNoLoop net prefix failed ds labels u → Forwards net prefix failed ds labels u v → HasNoLoop net prefix failed ds labels v
after net prefix failed ds labels u v none f = λ walk loop w x back. none (v ∷ walk) loop (f, w) x back

abbrev Distinct : List ℕ → Type 0
Distinct [] = Unit {0}
Distinct (x ∷ xs) = (On x xs → ⊥) × Distinct xs

come_once : (net : NetValue) (prefix : PrefixValue) (failed : List ℕ) (ds : List (Option ℕ)) (labels : List (Option Route)) (walk : List ℕ) (u : ℕ) → HasNoLoop net prefix failed ds labels u → IsForwardWalk net prefix failed ds labels u walk → Distinct (u ∷ walk)
come_once net prefix failed ds labels [] u none w = ((λ on. false≢true on), tt)
come_once net prefix failed ds labels (v ∷ more) u none w = (
  (λ on.
      let i = up_to net prefix failed ds labels (v ∷ more) u u w on in
      let e = ap length (none [] i.front tt i.walks i.ends) in
      let s = i.steps in
      absurd (omega arith)),
  come_once net prefix failed ds labels more v (after net prefix failed ds labels u v none w.0) w.1,
)

below : (net : NetValue) → IsNet net → (prefix : PrefixValue) (failed : List ℕ) (ds : List (Option ℕ)) (labels : List (Option Route)) (walk : List ℕ) (u x : ℕ) → IsForwardWalk net prefix failed ds labels u walk → On x walk → x < length net.routers
below net valid prefix failed ds labels [] u x w on = absurd (false≢true on)
below net valid prefix failed ds labels (v ∷ more) u x w on = elim (first_or_later x v more on) [
  | inl first ↦ subst (λ (y : ℕ). y < length net.routers) (sym first) (next_is_router net valid prefix failed ds labels u v w.0)
  | inr later ↦ below net valid prefix failed ds labels more v x w.1 later
]

none_equal : (x : ℕ) (xs : List ℕ) → (On x xs → ⊥) → AllByRecursion (λ y. eqb x y ≡ false) xs
none_equal x [] h = tt
none_equal x (y ∷ xs) h = ((grind (arith, nat_tests)), none_equal x xs (λ on. h (let o = on in grind (arith, nat_tests))))

as_std : (xs : List ℕ) → Distinct xs → IsDistinct eqb xs
unfolding IsDistinct
as_std [] h = tt
as_std (x ∷ xs) h = (none_equal x xs h.0, as_std xs h.1)

few : (net : NetValue) → IsNet net → (prefix : PrefixValue) (failed : List ℕ) (ds : List (Option ℕ)) (labels : List (Option Route)) (walk : List ℕ) (u : ℕ) → HasNoLoop net prefix failed ds labels u → IsForwardWalk net prefix failed ds labels u walk → length walk ≤ length net.routers
few net valid prefix failed ds labels walk u none w =
    length-le_from_distinct_below walk (length net.routers) (as_std walk (come_once net prefix failed ds labels walk u none w).1)
    (λ x on. below net valid prefix failed ds labels walk u x w on)

soon : (net : NetValue) → IsNet net → (prefix : PrefixValue) (failed : List ℕ) (ds : List (Option ℕ)) (labels : List (Option Route)) (u : ℕ) → IsNowhereStuck net prefix failed ds labels u → HasNoLoop net prefix failed ds labels u → (walk : List ℕ) → IsForwardWalk net prefix failed ds labels u walk → owns net (last_of u walk) prefix ≡ false → length walk < 2 * length net.routers
soon net valid prefix failed ds labels u goes none walk w no_owner =
    let next = goes walk w no_owner in
    let low = next_is_router net valid prefix failed ds labels (last_of u walk) next.0 next.1 in
    let most = few net valid prefix failed ds labels walk u none w in
    omega arith

pub reach_is_no_loop : ReachIsNoLoop
reach_is_no_loop net prefix failed ds labels u valid = (
  (λ r. ((λ walk w none. r.not_stuck walk w none), no_loop net prefix failed ds labels u r)),
  (λ (goes, none). record {
    not_stuck = λ walk w no_owner. goes walk w no_owner;
    soon = soon net valid prefix failed ds labels u goes none;
  }),
)

-- ---- reach by the next routers

next_reaches : (net : NetValue) (prefix : PrefixValue) (failed : List ℕ) (ds : List (Option ℕ)) (labels : List (Option Route)) (u v : ℕ) → Reaches net prefix failed ds labels u → Forwards net prefix failed ds labels u v → Reaches net prefix failed ds labels v
next_reaches net prefix failed ds labels u v r f = record {
  not_stuck = λ walk w none. r.not_stuck (v ∷ walk) (f, w) none;
  soon = λ walk w none. let s = r.soon (v ∷ walk) (f, w) none in omega arith;
}

abbrev NextReach : NetValue → PrefixValue → List ℕ → List (Option ℕ) → List (Option Route) → ℕ → Type 0
NextReach net prefix failed ds labels u = (v : ℕ) → Forwards net prefix failed ds labels u v → Reaches net prefix failed ds labels v

goes_by_next : (net : NetValue) (prefix : PrefixValue) (failed : List ℕ) (ds : List (Option ℕ)) (labels : List (Option Route)) (u : ℕ) → (v : ℕ) × Forwards net prefix failed ds labels u v → NextReach net prefix failed ds labels u → IsNowhereStuck net prefix failed ds labels u
goes_by_next net prefix failed ds labels u next each [] w none = next
goes_by_next net prefix failed ds labels u next each (v ∷ more) w none = (each v w.0).not_stuck more w.1 none

no_loop_by_next : (net : NetValue) (prefix : PrefixValue) (failed : List ℕ) (ds : List (Option ℕ)) (labels : List (Option Route)) (u : ℕ) → NextReach net prefix failed ds labels u → HasNoLoop net prefix failed ds labels u
no_loop_by_next net prefix failed ds labels u each [] [] w x back = refl
no_loop_by_next net prefix failed ds labels u each [] (v ∷ more) w x back =
    no_loop net prefix failed ds labels v (each v x.0) more (v ∷ more) x.1 (subst (λ (y : ℕ). IsForwardWalk net prefix failed ds labels y (v ∷ more)) (sym back) x) refl
no_loop_by_next net prefix failed ds labels u each (v ∷ walk) loop w x back = no_loop net prefix failed ds labels v (each v w.0) walk loop w.1 x back

pub reach_goes_on : ReachGoesOn
reach_goes_on net prefix failed ds labels u valid none = (
  (λ r. (r.not_stuck [] tt none, λ v f. next_reaches net prefix failed ds labels u v r f)),
  (λ (next, each).
      (reach_is_no_loop net prefix failed ds labels u valid).1
      (goes_by_next net prefix failed ds labels u next each, no_loop_by_next net prefix failed ds labels u each)),
)

-- ---- a walk that ends at an owner

-- a walk with room for so many steps more ends at an owner
goes_to_owner : (net : NetValue) (prefix : PrefixValue) (failed : List ℕ) (ds : List (Option ℕ)) (labels : List (Option Route)) (u : ℕ) → Reaches net prefix failed ds labels u → (room : ℕ) (walk : List ℕ) → IsForwardWalk net prefix failed ds labels u walk → length walk + room ≡ 2 * length net.routers → (b : Bool) → owns net (last_of u walk) prefix ≡ b → (whole : List ℕ) × IsForwardWalk net prefix failed ds labels u whole × (owns net (last_of u whole) prefix ≡ true) × (length whole ≤ 2 * length net.routers)
goes_to_owner net prefix failed ds labels u r room walk w long true owner = (walk, w, owner, omega arith)
goes_to_owner net prefix failed ds labels u r zero walk w long false other = absurd (let s = r.soon walk w other in omega arith)
goes_to_owner net prefix failed ds labels u r (suc room) walk w long false other =
    let next = r.not_stuck walk w other in
    let e = length-append walk (next.0 ∷ []) in
    goes_to_owner net prefix failed ds labels u r room (walk ++ next.0 ∷ []) (join net prefix failed ds labels walk (next.0 ∷ []) u w (next.1, tt)) (omega arith)
    (owns net (last_of u (walk ++ next.0 ∷ [])) prefix) refl

pub reach_ends_at_owners : ReachEndsAtOwners
reach_ends_at_owners net prefix failed ds labels u r =
    goes_to_owner net prefix failed ds labels u r (2 * length net.routers) [] tt (omega arith) (owns net u prefix) refl

pub isolated_reach_nobody : IsolatedReachNobody
isolated_reach_nobody net prefix failed ds labels u i r =
    let next = r.not_stuck [] tt i.no_owner in
    isolated_are_stuck net prefix failed ds labels u next.0 i next.1

-- ---- waypoints

none_in : (x : ℕ) → Contains [] x → ⊥
none_in x c = let low = c.1 in omega arith

here_or_later : (u x : ℕ) (walk : List ℕ) → Contains (u ∷ walk) x → (u ≡ x) ⊎ Contains walk x
here_or_later u x walk (zero, low, is) = inl is
here_or_later u x walk (suc k, low, is) = inr (k, omega arith, is)

later : (u x : ℕ) (walk : List ℕ) → Contains walk x → Contains (u ∷ walk) x
later u x walk (k, low, is) = (suc k, omega arith, is)

pub waypoints_count : WaypointsCount
waypoints_count net prefix failed ds labels u = λ walk w owner. (0, omega arith, refl)

pub owners_go_around : OwnersGoAround
owners_go_around net prefix failed ds labels w u owner through = elim (here_or_later u w [] (through [] tt owner)) [
  | inl same ↦ same
  | inr past ↦ absurd (none_in w past)
]

last_is_there : (walk : List ℕ) (u : ℕ) → Contains (u ∷ walk) (last_of u walk)
last_is_there [] u = (0, omega arith, refl)
last_is_there (v ∷ more) u = later u (last_of v more) (v ∷ more) (last_is_there more v)

pub sole_owners_are_waypoints : SoleOwnersAreWaypoints
sole_owners_are_waypoints net prefix failed ds labels w u sole =
    λ walk x owner. subst (λ (y : ℕ). Contains (u ∷ walk) y) (sole (last_of u walk) owner) (last_is_there walk u)

through_next : (net : NetValue) (prefix : PrefixValue) (failed : List ℕ) (ds : List (Option ℕ)) (labels : List (Option Route)) (w u : ℕ) → owns net u prefix ≡ false → ((v : ℕ) → Forwards net prefix failed ds labels u v → GoesThrough net prefix failed ds labels w v) → GoesThrough net prefix failed ds labels w u
through_next net prefix failed ds labels w u none each [] x owner = absurd (false≢true (sym none ∙ owner))
through_next net prefix failed ds labels w u none each (v ∷ more) x owner = later u w (v ∷ more) (each v x.0 more x.1 owner)

past_first : (u w : ℕ) (walk : List ℕ) → u ≢ w → Contains (u ∷ walk) w → Contains walk w
past_first u w walk other c = elim (here_or_later u w walk c) [
  | inl same ↦ absurd (other same)
  | inr past ↦ past
]

pub waypoints_go_on : WaypointsGoOn
waypoints_go_on net prefix failed ds labels w u none other = (
  (λ through v f walk x owner. past_first u w (v ∷ walk) other (through (v ∷ walk) (f, x) owner)),
  (λ each. through_next net prefix failed ds labels w u none each),
)
