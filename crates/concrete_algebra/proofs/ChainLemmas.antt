-- Chains of senders: they have distinct routers, so they are short, and so are paths.
use Rattle.std.proofs.Common.{ℕ, zero, suc, ◌≡◌, ◌+◌, ◌*◌, ◌<◌, ◌≤◌, ◌⊎◌, inl, inr, true, false, List, [], ◌∷◌, ◌++◌, length, replicate, Option, Some, arith, ap, sym, subst, ◌∙◌, refl, length-append, add-one, eqb}
use Rattle.std.specs.List.{IsDistinct, AllByRecursion}
use Rattle.std.proofs.lemmas.Map.Steps.{length-le_from_distinct_below}
use Rattle.std.proofs.lemmas.Bool.Decides.{nat_tests}
use Rattle.net_types.specs.declared.arcs.Arc.{Arc}
use Rattle.net_types.specs.declared.routes.Route.{Route}
use Rattle.net_types.specs.Routes.{is_on}
use Rattle.concrete_algebra.specs.Chains.{CandidatePathsAreShort, ChainsAreShort, IsChain, LabelPathsAreShort, LabelsHaveChains, PathsAreChains, PathsAreHeld}
use Rattle.concrete_algebra.specs.Laws.{CarriedPath, IsRouting}
use Rattle.concrete_algebra.specs.Problem.{Problem}
use Rattle.concrete_algebra.specs.Stability.{IsBest, IsChoice, IsStable, IsStableAt, label_at}

-- ---- being on a path

abbrev On : ℕ → List ℕ → Type 0
On x path = is_on x path ≡ true

on_append : (x : ℕ) (xs ys : List ℕ) → On x (xs ++ ys) → On x xs ⊎ On x ys
on_append x [] ys h = inr h
on_append x (y ∷ xs) ys h = let f = on_append x xs ys in grind (arith, nat_tests)

on_left : (x : ℕ) (xs ys : List ℕ) → On x xs → On x (xs ++ ys)
on_left x [] ys h = cc
on_left x (y ∷ xs) ys h = let f = on_left x xs ys in grind (arith, nat_tests)

on_right : (x : ℕ) (xs ys : List ℕ) → On x ys → On x (xs ++ ys)
on_right x [] ys h = h
on_right x (y ∷ xs) ys h = let f = on_right x xs ys h in grind (arith, nat_tests)

on_replicate : (x y k : ℕ) → On x (replicate k y) → x ≡ y
on_replicate x y zero h = cc
on_replicate x y (suc k) h = let f = on_replicate x y k in grind (arith, nat_tests)

on_front : (x k : ℕ) → On x (replicate (k + 1) x)
on_front x k = rw add-one (grind (arith, nat_tests))

length-replicate : (k x : ℕ) → length (replicate k x) ≡ k
length-replicate zero x = refl
length-replicate (suc k) x = let e = length-replicate k x in omega arith

first_or_later : (x v : ℕ) (chain : List ℕ) → On x (v ∷ chain) → (x ≡ v) ⊎ On x chain
first_or_later x v chain h = grind (arith, nat_tests)

-- ---- the routers of a path, and those of its chain

path_in_chain : (problem : Problem) → IsRouting problem → (labels : List (Option Route)) (chain : List ℕ) (u : ℕ) (route : Route) → IsChain problem labels chain u route → (x : ℕ) → On x route.path → On x (u ∷ chain)
path_in_chain problem net labels [] u route h x on =
    let p = net.local u route h.1 in
    let e : x ≡ u = on_replicate x u p.mine (subst (λ (xs : List ℕ). On x xs) p.path on) in grind (arith, nat_tests)
path_in_chain problem net labels (v ∷ chain) u route (sent, l, h) x on =
    let p = net.carried l.arc sent route l.up l.carried in
    elim (on_append x (replicate p.mine (problem.receiver l.arc)) (replicate (p.theirs + 1) (problem.sender l.arc) ++ sent.path) (subst (λ (xs : List ℕ). On x xs) p.path on)) [
      | inl mine ↦ let e = on_replicate x (problem.receiver l.arc) p.mine mine in let f = l.to in grind (arith, nat_tests)
      | inr rest ↦ elim (on_append x (replicate (p.theirs + 1) (problem.sender l.arc)) sent.path rest) [
        | inl theirs ↦ let e = on_replicate x (problem.sender l.arc) (p.theirs + 1) theirs in let f = l.from in grind (arith, nat_tests)
        | inr far ↦ let i = path_in_chain problem net labels chain v sent h x far in grind (arith, nat_tests)
      ]
    ]

chain_on_path : (problem : Problem) → IsRouting problem → (labels : List (Option Route)) (chain : List ℕ) (u : ℕ) (route : Route) → IsChain problem labels chain u route → (x : ℕ) → On x chain → On x route.path
chain_on_path problem net labels [] u route h x on = cc
chain_on_path problem net labels (v ∷ chain) u route (sent, l, h) x on =
    let p = net.carried l.arc sent route l.up l.carried in
    subst (λ (xs : List ℕ). On x xs) (sym p.path) (on_right x (replicate p.mine (problem.receiver l.arc)) (replicate (p.theirs + 1) (problem.sender l.arc) ++ sent.path)
    (elim (first_or_later x v chain on) [
      | inl first ↦ on_left x (replicate (p.theirs + 1) (problem.sender l.arc)) sent.path (let f : problem.sender l.arc ≡ x = l.from ∙ sym first in rw f (on_front x p.theirs))
      | inr later ↦ on_right x (replicate (p.theirs + 1) (problem.sender l.arc)) sent.path (chain_on_path problem net labels chain v sent h x later)
    ]))

pub paths_are_chains : PathsAreChains
paths_are_chains problem labels net chain u route h x = ((λ on. path_in_chain problem net labels chain u route h x on), (λ on. chain_on_path problem net labels chain u route h x on))

-- ---- no router comes twice

abbrev Distinct : List ℕ → Type 0
Distinct [] = Unit {0}
Distinct (x ∷ xs) = (On x xs → ⊥) × Distinct xs

off_path : (problem : Problem) (arc : Arc) (sent route : Route) → CarriedPath problem arc sent route → (u : ℕ) → problem.receiver arc ≡ u → On u sent.path → ⊥
off_path problem arc sent route p u to on = let f = p.fresh in let g : is_on u sent.path ≡ false = subst (λ (x : ℕ). is_on x sent.path ≡ false) to f in cc

chain_distinct : (problem : Problem) → IsRouting problem → (labels : List (Option Route)) (chain : List ℕ) (u : ℕ) (route : Route) → IsChain problem labels chain u route → Distinct (u ∷ chain)
chain_distinct problem net labels [] u route h = ((λ on. cc), tt)
chain_distinct problem net labels (v ∷ chain) u route (sent, l, h) = (
  (λ on.
      let p = net.carried l.arc sent route l.up l.carried in
      elim (first_or_later u v chain on) [
        | inl first ↦ p.apart (l.to ∙ first ∙ sym l.from)
        | inr later ↦ off_path problem l.arc sent route p u l.to (chain_on_path problem net labels chain v sent h u later)
      ]),
  chain_distinct problem net labels chain v sent h,
)

-- ---- lengths

path_length : (problem : Problem) → IsRouting problem → (labels : List (Option Route)) (chain : List ℕ) (u : ℕ) (route : Route) → IsChain problem labels chain u route → length route.path ≤ 10 + 21 * length chain
path_length problem net labels [] u route h = let p = net.local u route h.1 in let e = length-replicate p.mine u in let f = ap length p.path in omega arith
path_length problem net labels (v ∷ chain) u route (sent, l, h) =
    let p = net.carried l.arc sent route l.up l.carried in let i = path_length problem net labels chain v sent h in
    let f = ap length p.path in
    let e1 = length-append (replicate p.mine (problem.receiver l.arc)) (replicate (p.theirs + 1) (problem.sender l.arc) ++ sent.path) in
    let e2 = length-append (replicate (p.theirs + 1) (problem.sender l.arc)) sent.path in
    let e3 = length-replicate p.mine (problem.receiver l.arc) in let e4 = length-replicate (p.theirs + 1) (problem.sender l.arc) in omega arith

chain_below : (problem : Problem) → IsRouting problem → (labels : List (Option Route)) (chain : List ℕ) (u : ℕ) (route : Route) → u < problem.routers → IsChain problem labels chain u route → (x : ℕ) → On x (u ∷ chain) → x < problem.routers
chain_below problem net labels [] u route low h x on = let e : x ≡ u = grind (arith, nat_tests) in omega arith
chain_below problem net labels (v ∷ chain) u route low (sent, l, h) x on =
    elim (first_or_later x u (v ∷ chain) on) [
      | inl first ↦ omega arith
      | inr later ↦ chain_below problem net labels chain v sent (let e = net.sender l.arc l.up in let f = l.from in omega arith) h x later
    ]

chain_holds : (problem : Problem) (labels : List (Option Route)) (chain : List ℕ) (u : ℕ) (route : Route) → IsChain problem labels chain u route → (x : ℕ) → On x (u ∷ chain) → (held : Route) × (label_at labels x ≡ Some held)
chain_holds problem labels [] u route h x on = let e : x ≡ u = grind (arith, nat_tests) in (route, rw e h.0)
chain_holds problem labels (v ∷ chain) u route (sent, l, h) x on =
    elim (first_or_later x u (v ∷ chain) on) [
      | inl first ↦ (route, rw first l.held)
      | inr later ↦ chain_holds problem labels chain v sent h x later
    ]

-- ---- each label has a chain

best_of : (problem : Problem) (labels : List (Option Route)) (u : ℕ) (route : Route) → IsStableAt problem labels u → label_at labels u ≡ Some route → IsBest problem labels u route
best_of problem labels u route h held = subst (λ (o : Option Route). IsChoice problem labels u o) held h

shorter : (problem : Problem) → IsRouting problem → (arc : Arc) (sent route : Route) → problem.up arc ≡ true → problem.carry arc sent ≡ Some route → length sent.path < length route.path
shorter problem net arc sent route up carried =
    let p = net.carried arc sent route up carried in
    let f = ap length p.path in
    let e1 = length-append (replicate p.mine (problem.receiver arc)) (replicate (p.theirs + 1) (problem.sender arc) ++ sent.path) in
    let e2 = length-append (replicate (p.theirs + 1) (problem.sender arc)) sent.path in
    let e3 = length-replicate (p.theirs + 1) (problem.sender arc) in omega arith

chain_within : (problem : Problem) → IsRouting problem → (labels : List (Option Route)) → IsStable problem labels → (k u : ℕ) (route : Route) → u < problem.routers → label_at labels u ≡ Some route → length route.path < k → (chain : List ℕ) × IsChain problem labels chain u route
chain_within problem net labels stable zero u route low held short = absurd (omega arith)
chain_within problem net labels stable (suc k) u route low held short =
    elim (best_of problem labels u route (stable.each u low) held).candidate [
      | inl (arc, sent, a) ↦
          let i = chain_within problem net labels stable k (problem.sender arc) sent (net.sender arc a.up) a.held (let f = shorter problem net arc sent route a.up a.carried in omega arith) in
          (problem.sender arc ∷ i.0, (sent, record { arc = arc; up = a.up; to = a.to; from = refl; held = held; carried = a.carried }, i.1))
      | inr c ↦ ([], (held, c.local))
    ]

pub labels_have_chains : LabelsHaveChains
labels_have_chains problem labels net stable u route low held = chain_within problem net labels stable (length route.path + 1) u route low held (omega arith)

-- ---- so a chain has at most as many routers as the network, and a path at most 21 times as many entries

none_equal : (x : ℕ) (xs : List ℕ) → (On x xs → ⊥) → AllByRecursion (λ y. eqb x y ≡ false) xs
none_equal x [] h = tt
none_equal x (y ∷ xs) h = ((grind (arith, nat_tests)), none_equal x xs (λ on. h (let o = on in grind (arith, nat_tests))))

as_std : (xs : List ℕ) → Distinct xs → IsDistinct eqb xs
unfolding IsDistinct
as_std [] h = tt
as_std (x ∷ xs) h = (none_equal x xs h.0, as_std xs h.1)

chain_short : (problem : Problem) → IsRouting problem → (labels : List (Option Route)) (chain : List ℕ) (u : ℕ) (route : Route) → u < problem.routers → IsChain problem labels chain u route → length chain < problem.routers
chain_short problem net labels chain u route low h =
    let e = length-le_from_distinct_below (u ∷ chain) problem.routers (as_std (u ∷ chain) (chain_distinct problem net labels chain u route h)) (chain_below problem net labels chain u route low h) in omega arith

pub chains_are_short : ChainsAreShort
chains_are_short problem labels net chain u route low h = chain_short problem net labels chain u route low h

pub label_paths_are_short : LabelPathsAreShort
label_paths_are_short problem labels net stable u route low held =
    let h = labels_have_chains problem labels net stable u route low held in
    let e = path_length problem net labels h.0 u route h.1 in let f = chain_short problem net labels h.0 u route low h.1 in omega arith

-- the receiver is not on the sender's chain
pub candidate_paths_are_short : CandidatePathsAreShort
candidate_paths_are_short problem labels net stable u arc sent route a =
    let low = net.sender arc a.up in
    let h = labels_have_chains problem labels net stable (problem.sender arc) sent low a.held in
    let p = net.carried arc sent route a.up a.carried in
    let away : On (problem.receiver arc) (problem.sender arc ∷ h.0) → ⊥ = λ on. elim (first_or_later (problem.receiver arc) (problem.sender arc) h.0 on) [
      | inl first ↦ p.apart first
      | inr later ↦ off_path problem arc sent route p (problem.receiver arc) refl (chain_on_path problem net labels h.0 (problem.sender arc) sent h.1 (problem.receiver arc) later)
    ] in
    let all = length-le_from_distinct_below (problem.receiver arc ∷ (problem.sender arc ∷ h.0)) problem.routers
    (as_std (problem.receiver arc ∷ (problem.sender arc ∷ h.0)) (away, chain_distinct problem net labels h.0 (problem.sender arc) sent h.1))
    (λ x on. elim (first_or_later x (problem.receiver arc) (problem.sender arc ∷ h.0) on) [
      | inl first ↦ (let g = net.receiver arc a.up in omega arith)
      | inr later ↦ chain_below problem net labels h.0 (problem.sender arc) sent low h.1 x later
    ]) in
    let i = path_length problem net labels h.0 (problem.sender arc) sent h.1 in
    let f = ap length p.path in
    let e1 = length-append (replicate p.mine (problem.receiver arc)) (replicate (p.theirs + 1) (problem.sender arc) ++ sent.path) in
    let e2 = length-append (replicate (p.theirs + 1) (problem.sender arc)) sent.path in
    let e3 = length-replicate p.mine (problem.receiver arc) in let e4 = length-replicate (p.theirs + 1) (problem.sender arc) in omega arith

pub paths_are_held : PathsAreHeld
paths_are_held problem labels net stable u route low held x on =
    let h = labels_have_chains problem labels net stable u route low held in
    chain_holds problem labels h.0 u route h.1 x (path_in_chain problem net labels h.0 u route h.1 x on)
