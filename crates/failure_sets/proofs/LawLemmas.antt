-- The laws of the list, of places, of the next set and of counts.
use Rattle.std.proofs.Common.{ℕ, zero, suc, ◌≡◌, ◌<◌, ◌≤◌, ◌+◌, ◌-◌, ◌*◌, Bool, true, false, not, cond, ◌||◌, ◌==◌, Option, Some, None, MatchOption, List, [], ◌∷◌, length, filter, slice_get, arith, refl, ap, sym, subst, ◌∙◌}
use Rattle.std.proofs.lemmas.Option.{slice_get_within}
use Rattle.std.proofs.lemmas.Bool.{false_from_ne_true}
use Rattle.std.proofs.lemmas.List.Elements.{All-filter}
use Rattle.std.proofs.lemmas.List.Kept.{IsStrictlyIncreasing-filter}
use Rattle.std.specs.List.{list_any}
use Rattle.net_types.specs.FailSets.{without}
use Rattle.failure_sets.specs.SetOrder.{IsPermitted, comes_before, IsLeastAfter, IsLast}
use Rattle.failure_sets.specs.SetList.{failure_sets, place_of, next_of}
use Rattle.failure_sets.specs.Places.{place_among}
use Rattle.failure_sets.specs.Laws.{HoldsThePermitted, HoldsEachOnce, StandInOrder, EmptySetIsFirst, PlacesArePositions, NextIsBehind, NextIsLeast, FewerComeEarlier, CountsAreSums, CountsInClosedForm, SumsOfPairsAndTriples}
use Rattle.failure_sets.proofs.CountLemmas.{choose-none, choose-one, choose-two, choose-three, how_many-next, how_many-none}
use Rattle.failure_sets.proofs.PermittedLemmas.{within, permitted}
use Rattle.failure_sets.proofs.OrderLemmas.{before_fewer}
use Rattle.failure_sets.proofs.AllLemmas.{smaller, ranked, length-failure_sets, placed, found_in_all, rank_rises, before_by_rank, not_before_by_rank, count_before}

pub holds_the_permitted : HoldsThePermitted
holds_the_permitted links most set = (
  (λ p. (ranked links set, found_in_all links most set p.few (within links most set p))),
  (λ e. let p = placed links most e.0 set e.1 in permitted links most set p.few p.within),
)

pub holds_each_once : HoldsEachOnce
holds_each_once links most i j set a b =
    let p = placed links most i set a in
    let q = placed links most j set b in
    sym p.place ∙ q.place

pub stand_in_order : StandInOrder
stand_in_order links most i j a b x y =
    let p = placed links most i a x in
    let q = placed links most j b y in
    let e = p.place in
    let f = q.place in (
      (λ h. let r = rank_rises links a b p.within q.within h in omega arith),
      (λ less. before_by_rank links a b p.within q.within (omega arith)),
    )

rank_of_nothing : (links : ℕ) → ranked links [] ≡ 0
unfolding ranked smaller place_among
rank_of_nothing links = refl

pub empty_set_is_first : EmptySetIsFirst
empty_set_is_first links most = ap (λ (n : ℕ). slice_get (failure_sets links most) n) (sym (rank_of_nothing links)) ∙ found_in_all links most [] (omega arith) tt

pub place_is : (links most : ℕ) (set : List ℕ) → most ≤ 3 → IsPermitted links most set → place_of links set ≡ ranked links set
unfolding place_of
place_is links most set few p = count_before links 3 set (let f = p.few in omega arith) (within links most set p)

pub places_are_positions : PlacesArePositions
places_are_positions links most i set few p = (
  (λ is. place_is links most set few p ∙ (placed links most i set is).place),
  (λ e. ap (λ (n : ℕ). slice_get (failure_sets links most) n) (sym e ∙ place_is links most set few p) ∙ found_in_all links most set p.few (within links most set p)),
)

pub next_is_behind : NextIsBehind
unfolding next_of
next_is_behind links most i set few is =
    let p = placed links most i set is in
    let e = place_is links most set few (permitted links most set p.few p.within) ∙ p.place in
    ap (λ (n : ℕ). slice_get (failure_sets links most) (n + 1)) e

pub next_by_rank : (links most : ℕ) (set : List ℕ) → most ≤ 3 → IsPermitted links most set → next_of links most set ≡ slice_get (failure_sets links most) (ranked links set + 1)
unfolding next_of
next_by_rank links most set few p = ap (λ (n : ℕ). slice_get (failure_sets links most) (n + 1)) (place_is links most set few p)

pub next_is_least : NextIsLeast
next_is_least links most set few p = subst (λ (o : Option (List ℕ)). MatchOption o (IsLast links most set) (λ next. IsLeastAfter links most set next)) (sym (next_by_rank links most set few p)) (go (slice_get (failure_sets links most) (ranked links set + 1)) refl) where
  go : (o : Option (List ℕ)) → slice_get (failure_sets links most) (ranked links set + 1) ≡ o → MatchOption o (IsLast links most set) (λ next. IsLeastAfter links most set next)
  go None none = λ other q. false_from_ne_true (comes_before set other) (λ h.
      let w = within links most other q in
      let r = rank_rises links set other (within links most set p) w h in
      let f = slice_get_within (failure_sets links most) (ranked links other) other (found_in_all links most other q.few w) in
      inside (failure_sets links most) (ranked links set + 1) none (omega arith)) where
        inside : {X : Type 0} (xs : List X) (i : ℕ) → slice_get xs i ≡ None → i < length xs → ⊥
        inside [] i e less = omega arith
        inside (x ∷ xs) zero e less = cc
        inside (x ∷ xs) (suc i) e less = inside xs i e (omega arith)
  go (Some next) is =
      let n = placed links most (ranked links set + 1) next is in
      let e = n.place in
      record {
        permitted = permitted links most next n.few n.within;
        after = before_by_rank links set next (within links most set p) n.within (omega arith);
        least = λ other q h. (
            let w = within links most other q in
            let r = rank_rises links set other (within links most set p) w h in
            not_before_by_rank links other next w n.within (omega arith));
      }

-- one link fewer
filter_le : {X : Type 0} (p : X → Bool) (xs : List X) → length (filter p xs) ≤ length xs
filter_le p [] = omega arith
filter_le p (x ∷ xs) = let h = filter_le p xs in by_test (p x) h where
  by_test : (b : Bool) → length (filter p xs) ≤ length xs → length (cond b (x ∷ filter p xs) (filter p xs)) ≤ suc (length xs)
  by_test true h = omega arith
  by_test false h = omega arith

filter_less : {X : Type 0} (p : X → Bool) (xs : List X) → list_any p xs ≡ true → length (filter (λ x. not (p x)) xs) < length xs
filter_less p [] h = absurd (let e : false ≡ true = h in cc)
filter_less p (x ∷ xs) h = by_test (p x) refl h (filter_le (λ x. not (p x)) xs) (filter_less p xs) where
  by_test : (b : Bool) → p x ≡ b → (b || list_any p xs) ≡ true → length (filter (λ x. not (p x)) xs) ≤ length xs → (list_any p xs ≡ true → length (filter (λ x. not (p x)) xs) < length xs) →
      length (cond (not b) (x ∷ filter (λ x. not (p x)) xs) (filter (λ x. not (p x)) xs)) < suc (length xs)
  by_test true e h le less = omega arith
  by_test false e h le less = let l = less h in omega arith

pub fewer_come_earlier : FewerComeEarlier
fewer_come_earlier links most set link few p h =
    let less : length (without set link) < length set = filter_less (λ (number : ℕ). number == link) set h in
    let q : IsPermitted links most (without set link) = record {
      few = (let f = p.few in omega arith);
      ascending = IsStrictlyIncreasing-filter (λ (number : ℕ). not (number == link)) set p.ascending;
      below = All-filter (λ (number : ℕ). not (number == link)) (λ (number : ℕ). number < links) set p.below;
    } in
    let r = rank_rises links (without set link) set (within links most (without set link) q) (within links most set p) (before_fewer (without set link) set less) in
    let a = place_is links most (without set link) few q in
    let b = place_is links most set few p in
    (q, omega arith)

pub counts_are_sums : CountsAreSums
counts_are_sums = length-failure_sets

pub sums_of_pairs_and_triples : SumsOfPairsAndTriples
sums_of_pairs_and_triples n = (choose-none n, choose-one n, choose-two n, choose-three n)

-- products of a number and those below it
pub below_one : (n : ℕ) → n * (n - 1) + n ≡ n * n
below_one zero = refl
below_one (suc n) = let e : suc n - 1 ≡ n = omega arith in let f : suc n ≡ n + 1 = omega arith in rw e (omega arith)

pub below_two : (n : ℕ) → n * (n - 1) * (n - 2) + 3 * (n * n) ≡ n * n * n + 2 * n
below_two zero = refl
below_two (suc zero) = refl
below_two (suc (suc n)) =
    let e : suc (suc n) - 1 ≡ n + 1 = omega arith in
    let g : suc (suc n) - 2 ≡ n = omega arith in
    let f : suc (suc n) ≡ n + 2 = omega arith in
    rw (e, g, f) (omega arith)

pub counts_in_closed_form : CountsInClosedForm
counts_in_closed_form n =
    let a = length-failure_sets n 0 in
    let b = length-failure_sets n 1 in
    let c = length-failure_sets n 2 in
    let d = length-failure_sets n 3 in
    let p = how_many-next n 0 in
    let q = how_many-next n 1 in
    let r = how_many-next n 2 in
    let o = how_many-none n in
    let s = choose-one n in
    let t = choose-two n in
    let u = choose-three n in
    let v = below_one n in
    let w = below_two n in
    (omega arith, omega arith, omega arith, omega arith)

-- the least set that comes after, for what equals the next set
pub least_from : (links most : ℕ) (set : List ℕ) (next : Option (List ℕ)) → most ≤ 3 → IsPermitted links most set → next ≡ next_of links most set → MatchOption next (IsLast links most set) (λ next. IsLeastAfter links most set next)
least_from links most set next few p e =
    subst (λ (o : Option (List ℕ)). MatchOption o (IsLast links most set) (λ next. IsLeastAfter links most set next)) (sym e) (next_is_least links most set few p)
