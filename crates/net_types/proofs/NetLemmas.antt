-- The two arcs of a link, what a router owns, and failure sets without a link.
use Rattle.std.proofs.Common.{ℕ, zero, suc, ◌≡◌, ◌<◌, ◌≤◌, ◌==◌, ◌&&◌, ◌||◌, Bool, true, false, not, List, [], ◌∷◌, length, Option, Some, None, filter, cond, All, AllPairs, slice_index_or, arith, ap, sym, subst, refl, ◌∙◌}
use Rattle.std.specs.Prelude.{slice_get, find, option_map, option_and_then}
use Rattle.std.specs.Option.{option_map_or}
use Rattle.std.proofs.lemmas.Bool.{eqb-true}
use Rattle.std.proofs.lemmas.Bool.Decides.{nat_tests}
use Rattle.std.proofs.lemmas.List.Elements.{All-get_or}
use Rattle.std.proofs.lemmas.Option.{get_or_from_slice_get, slice_get_within}
use Rattle.std.proofs.lemmas.List.Kept.{IsStrictlyIncreasing-filter}
use Rattle.std.proofs.lemmas.Map.Views.{any-filter_same}
use Rattle.net_types.specs.declared.network.Link.{Link}
use Rattle.net_types.specs.declared.network.Owned.{Owned}
use Rattle.net_types.specs.declared.network.Router.{Router}
use Rattle.net_types.specs.FailSets.{holds}
use Rattle.net_types.specs.NetFacts.{IsLink, IsRouter}
use Rattle.net_types.specs.NetValue.{NetValue}
use Rattle.net_types.specs.Owners.{is_owned, owns, stub_of, stub_cost}
use Rattle.net_types.specs.PrefixValue.{PrefixValue}
use Rattle.net_types.specs.Prefixes.{same_prefix, prefix_before}
use Rattle.net_types.specs.Laws.{UpGoesToTheHigher, DownGoesBack, AdjacenciesAreCrossed, OnlyAdjacenciesAreCrossed, EntriesAreOwned, OwnersHaveEntries, StubsAreOwned, WithoutHoldsTheOthers, WithoutIsFailureSet}

-- an item of a list of which all are so
item : {X : Type 0} (P : X → Type 0) (xs : List X) (i : ℕ) (x : X) → All P xs → slice_get xs i ≡ Some x → P x
item P xs i x all is = rw (← get_or_from_slice_get xs i x x is) (All-get_or P xs i x (slice_get_within xs i x is) all)

ends : (net : NetValue) (number u v : ℕ) (o : Option Link) → ((link : Link) → o ≡ Some link → IsLink net.routers link) →
    option_map (λ (link : Link). link.low.router) o ≡ Some u → option_map (λ (link : Link). link.high.router) o ≡ Some v → u < v
ends net number u v None valid e f = absurd (let d : ⊥ = cc in d)
ends net number u v (Some link) valid e f =
    let l = (valid link refl).order in
    let a : link.low.router ≡ u = cc in
    let b : link.high.router ≡ v = cc in
    omega arith

pub up_goes_to_the_higher : UpGoesToTheHigher
up_goes_to_the_higher net number u v valid e f =
    ends net number u v (slice_get net.links number) (λ link is. item (IsLink net.routers) net.links number link valid.links is) e f

pub down_goes_back : DownGoesBack
down_goes_back net number = (refl, refl)

pub adjacencies_are_crossed : AdjacenciesAreCrossed
adjacencies_are_crossed net failed number link is adjacency up = (
  record { link = link; is = is; adjacency = adjacency; up = up; from = refl; to = refl; costs = refl },
  record { link = link; is = is; adjacency = adjacency; up = up; from = refl; to = refl; costs = refl },
)

same_link : (a b : Link) (o : Option Link) → o ≡ Some a → o ≡ Some b → a ≡ b
same_link a b o e f = cc

pub only_adjacencies_are_crossed : OnlyAdjacenciesAreCrossed
only_adjacencies_are_crossed net failed number u v cost link is = (
  λ c. (
      let e = same_link c.link link (slice_get net.links number) c.is is in
      (ap (λ (l : Link). l.adjacency) (sym e) ∙ c.adjacency, c.up, sym c.from ∙ ap (λ (l : Link). l.low.router) e, sym c.to ∙ ap (λ (l : Link). l.high.router) e, sym c.costs ∙ ap (λ (l : Link). l.low.cost) e)),
  λ c. (
      let e = same_link c.link link (slice_get net.links number) c.is is in
      (ap (λ (l : Link). l.adjacency) (sym e) ∙ c.adjacency, c.up, sym c.from ∙ ap (λ (l : Link). l.high.router) e, sym c.to ∙ ap (λ (l : Link). l.low.router) e, sym c.costs ∙ ap (λ (l : Link). l.high.cost) e)),
)

-- the entry of a prefix, among entries that ascend, is the one that is found
tests_itself : (p : PrefixValue) → same_prefix p p ≡ true
tests_itself p = grind (arith, nat_tests)

tests_apart : (p q : PrefixValue) → prefix_before p q ≡ true → same_prefix p q ≡ false
tests_apart p q h = grind (arith, nat_tests)

rest_ascends : (first : Owned) (rest : List Owned) → AllPairs (λ (a b : Owned). prefix_before a.prefix b.prefix ≡ true) (first ∷ rest) → AllPairs (λ (a b : Owned). prefix_before a.prefix b.prefix ≡ true) rest
rest_ascends first rest up = λ i j d low high. up (suc i) (suc j) d (omega arith) (omega arith)

found : (owned : List Owned) (i : ℕ) (entry : Owned) → AllPairs (λ (a b : Owned). prefix_before a.prefix b.prefix ≡ true) owned → slice_get owned i ≡ Some entry →
    find (λ (other : Owned). same_prefix other.prefix entry.prefix) owned ≡ Some entry
found [] i entry up is = absurd (let d : ⊥ = cc in d)
found (first ∷ rest) zero entry up is =
    let e : first ≡ entry = cc in
    subst (λ (x : Owned). find (λ (other : Owned). same_prefix other.prefix x.prefix) (first ∷ rest) ≡ Some x) e
    (let t = tests_itself first.prefix in rw t refl)
found (first ∷ rest) (suc j) entry up is =
    let low : j < length rest = slice_get_within rest j entry is in
    let at : slice_index_or rest j entry ≡ entry = get_or_from_slice_get rest j entry entry is in
    let before : prefix_before first.prefix entry.prefix ≡ true = subst (λ (x : Owned). prefix_before first.prefix x.prefix ≡ true) at (up zero (suc j) entry (omega arith) (omega arith)) in
    let t = tests_apart first.prefix entry.prefix before in
    rw t (found rest j entry (rest_ascends first rest up) is)

any_found : (owned : List Owned) (prefix : PrefixValue) (entry : Owned) → find (λ (other : Owned). same_prefix other.prefix prefix) owned ≡ Some entry → is_owned prefix owned ≡ true
any_found [] prefix entry is = absurd (let d : ⊥ = cc in d)
any_found (first ∷ rest) prefix entry is = go (same_prefix first.prefix prefix) refl (any_found rest prefix entry) is where
  go : (t : Bool) → same_prefix first.prefix prefix ≡ t → (find (λ (other : Owned). same_prefix other.prefix prefix) rest ≡ Some entry → is_owned prefix rest ≡ true) →
      cond t (Some first) (find (λ (other : Owned). same_prefix other.prefix prefix) rest) ≡ Some entry → (t || is_owned prefix rest) ≡ true
  go true e later is = refl
  go false e later is = later is

owned_at : (net : NetValue) (u : ℕ) (router : Router) (prefix : PrefixValue) → slice_get net.routers u ≡ Some router → is_owned prefix router.owned ≡ true → owns net u prefix ≡ true
owned_at net u router prefix is h = rw is h

stub_at : (net : NetValue) (u : ℕ) (router : Router) (prefix : PrefixValue) → slice_get net.routers u ≡ Some router → stub_cost net prefix u ≡ stub_of prefix router.owned
stub_at net u router prefix is = rw is refl

stub_found : (prefix : PrefixValue) (owned : List Owned) (entry : Owned) → find (λ (other : Owned). same_prefix other.prefix prefix) owned ≡ Some entry → stub_of prefix owned ≡ entry.ospf_cost
stub_found prefix owned entry e = rw e refl

pub entries_are_owned : EntriesAreOwned
entries_are_owned net u i router entry valid at is =
    let f = found router.owned i entry (item (IsRouter (length net.communities)) net.routers u router valid.routers at).ascending is in (
      owned_at net u router entry.prefix at (any_found router.owned entry.prefix entry f),
      stub_at net u router entry.prefix at ∙ stub_found entry.prefix router.owned entry f,
    )

one_prefix : (p q : PrefixValue) → same_prefix p q ≡ true → p ≡ q
one_prefix p q h = grind (arith, nat_tests)

listed : (owned : List Owned) (prefix : PrefixValue) → is_owned prefix owned ≡ true → (i : ℕ) × (entry : Owned) × (slice_get owned i ≡ Some entry) × (entry.prefix ≡ prefix)
listed [] prefix h = absurd (let d : ⊥ = cc in d)
listed (first ∷ rest) prefix h = go (same_prefix first.prefix prefix) refl (listed rest prefix) h where
  go : (t : Bool) → same_prefix first.prefix prefix ≡ t → (is_owned prefix rest ≡ true → (i : ℕ) × (entry : Owned) × (slice_get rest i ≡ Some entry) × (entry.prefix ≡ prefix)) →
      (t || is_owned prefix rest) ≡ true → (i : ℕ) × (entry : Owned) × (slice_get (first ∷ rest) i ≡ Some entry) × (entry.prefix ≡ prefix)
  go true e later h = (zero, first, refl, one_prefix first.prefix prefix e)
  go false e later h = let l = later h in (suc l.0, l.1, l.2, l.3)

pub owners_have_entries : OwnersHaveEntries
owners_have_entries net u prefix h = go (slice_get net.routers u) refl h where
  go : (o : Option Router) → slice_get net.routers u ≡ o → option_map_or (λ (router : Router). is_owned prefix router.owned) o false ≡ true →
      (router : Router) × (i : ℕ) × (entry : Owned) × (slice_get net.routers u ≡ Some router) × (slice_get router.owned i ≡ Some entry) × (entry.prefix ≡ prefix)
  go None e h = absurd (let d : ⊥ = cc in d)
  go (Some router) e h = let l = listed router.owned prefix h in (router, l.0, l.1, e, l.2, l.3)

pub stubs_are_owned : StubsAreOwned
stubs_are_owned net u cost prefix h = go (slice_get net.routers u) h where
  by_entry : (router : Router) (found : Option Owned) → find (λ (other : Owned). same_prefix other.prefix prefix) router.owned ≡ found → option_and_then (λ (entry : Owned). entry.ospf_cost) found ≡ Some cost → is_owned prefix router.owned ≡ true
  by_entry router None e h = absurd (let d : ⊥ = cc in d)
  by_entry router (Some entry) e h = any_found router.owned prefix entry e

  go : (o : Option Router) → option_and_then (λ (router : Router). stub_of prefix router.owned) o ≡ Some cost → option_map_or (λ (router : Router). is_owned prefix router.owned) o false ≡ true
  go None h = absurd (let d : ⊥ = cc in d)
  go (Some router) h = by_entry router (find (λ (other : Owned). same_prefix other.prefix prefix) router.owned) refl h

turned : (a b : Bool) → (a && b) ≡ (b && a)
turned true true = refl
turned true false = refl
turned false true = refl
turned false false = refl

pub without_holds_the_others : WithoutHoldsTheOthers
without_holds_the_others set link other =
    any-filter_same (λ (number : ℕ). number == other) (λ (number : ℕ). not (number == link)) (not (other == link))
    (λ number e. ap (λ (k : ℕ). not (k == link)) (eqb-true number other e)) set ∙ turned (not (other == link)) (holds set other)

filter_few : {X : Type 0} (p : X → Bool) (xs : List X) → length (filter p xs) ≤ length xs
filter_few p [] = omega arith
filter_few p (x ∷ xs) = let h = filter_few p xs in by_test (p x) h where
  by_test : (b : Bool) → length (filter p xs) ≤ length xs → length (cond b (x ∷ filter p xs) (filter p xs)) ≤ suc (length xs)
  by_test true h = omega arith
  by_test false h = omega arith

pub without_is_failure_set : WithoutIsFailureSet
without_is_failure_set set link valid = record {
  few = (let l = filter_few (λ (number : ℕ). not (number == link)) set in let f = valid.few in omega arith);
  ascending = IsStrictlyIncreasing-filter (λ (number : ℕ). not (number == link)) set valid.ascending;
}
