-- The cases of a book are its prefixes, each once.
use Rattle.std.proofs.Common.{ℕ, zero, suc, ◌≡◌, ◌<◌, ◌≤◌, ◌+◌, ◌==◌, max, ◌&&◌, ◌||◌, ◌⊎◌, inl, inr, Bool, true, false, cond, if◌then◌else◌, List, [], ◌∷◌, length, map, filter, Contains, Option, Some, None, is_none, arith, ap, sym, subst, ◌∙◌, refl}
use Rattle.std.specs.List.{AllByRecursion, IsDistinct, list_any}
use Rattle.std.proofs.lemmas.Bool.{cases_order, false≢true}
use Rattle.std.proofs.lemmas.Bool.Decides.{nat_tests}
use Rattle.net_types.specs.NetValue.{NetValue}
use Rattle.net_types.specs.PrefixValue.{PrefixValue}
use Rattle.net_types.specs.Prefixes.{same_prefix}
use Rattle.net_types.proofs.PrefixLemmas.{same_prefix_is_one}
use Rattle.property_book.specs.declared.property.Property.{Property}
use Rattle.property_book.specs.declared.verdict.Barred.{Barred}
use Rattle.property_book.specs.Applicable.{barred}
use Rattle.failure_sets.specs.SetList.{failure_sets}
use Rattle.case_walk.specs.Book.{applies, asked_prefixes, distinct, is_of, most_of, total_of}
use Rattle.case_walk.specs.Laws.{CasesAreAskedOnce, IsMost, MostIsGreatest}

-- a prefix that is the same as one is found where that one is
same_found : (a b c d e f : ℕ) → ((a == c) && (b == d)) ≡ true → ((c == e) && (d == f)) ≡ ((a == e) && (b == f))
same_found a b c d e f h = grind (arith, nat_tests)

any_same : (q p : PrefixValue) (xs : List PrefixValue) → same_prefix q p ≡ true → list_any (same_prefix p) xs ≡ list_any (same_prefix q) xs
any_same q p [] h = refl
any_same q p (x ∷ xs) h = ap (λ (b : Bool). b || list_any (same_prefix p) xs) (same_found q.bits q.len p.bits p.len x.bits x.len h) ∙ ap (λ (b : Bool). same_prefix q x || b) (any_same q p xs h)

stays_found : (b : Bool) (q p : PrefixValue) (more xs : List PrefixValue) → list_any (same_prefix p) more ≡ b → list_any (same_prefix q) xs ≡ list_any (same_prefix q) more → list_any (same_prefix q) (if b then xs else p ∷ xs) ≡ (same_prefix q p || list_any (same_prefix q) more)
stays_found false q p more xs any e = ap (λ (b : Bool). same_prefix q p || b) e
stays_found true q p more xs any e = go (same_prefix q p) refl where
  go : (b : Bool) → same_prefix q p ≡ b → list_any (same_prefix q) xs ≡ (b || list_any (same_prefix q) more)
  go false h = e
  go true h = e ∙ sym (any_same q p more h) ∙ any

same_members : (xs : List PrefixValue) (q : PrefixValue) → list_any (same_prefix q) (distinct xs) ≡ list_any (same_prefix q) xs
same_members [] q = refl
same_members (p ∷ more) q = stays_found (list_any (same_prefix p) more) q p more (distinct more) refl (same_members more q)

none_same : (p : PrefixValue) (xs : List PrefixValue) → list_any (same_prefix p) xs ≡ false → AllByRecursion (λ y. same_prefix p y ≡ false) xs
none_same p [] none = tt
none_same p (x ∷ xs) none = let both = parts (same_prefix p x) (list_any (same_prefix p) xs) none in (both.0, none_same p xs both.1) where
  parts : (a b : Bool) → (a || b) ≡ false → (a ≡ false) × (b ≡ false)
  parts false b e = (refl, e)
  parts true b e = absurd (false≢true (sym e))

apart : (b : Bool) (p : PrefixValue) (more xs : List PrefixValue) → list_any (same_prefix p) more ≡ b → list_any (same_prefix p) xs ≡ list_any (same_prefix p) more → IsDistinct same_prefix xs → IsDistinct same_prefix (if b then xs else p ∷ xs)
unfolding IsDistinct
apart true p more xs any e is = is
apart false p more xs any e is = (none_same p xs (e ∙ any), is)

none_apart : IsDistinct same_prefix []
unfolding IsDistinct
none_apart = tt

all_apart : (xs : List PrefixValue) → IsDistinct same_prefix (distinct xs)
all_apart [] = none_apart
all_apart (p ∷ more) = apart (list_any (same_prefix p) more) p more (distinct more) refl (same_members more p) (all_apart more)

-- ---- the prefixes that are asked of are those of properties that apply

here_or_later : {X : Type 0} (x y : X) (ys : List X) → Contains (y ∷ ys) x → (y ≡ x) ⊎ Contains ys x
here_or_later x y ys (zero, low, is) = inl is
here_or_later x y ys (suc k, low, is) = inr (k, omega arith, is)

later : {X : Type 0} (x y : X) (ys : List X) → Contains ys x → Contains (y ∷ ys) x
later x y ys (k, low, is) = (suc k, omega arith, is)

-- a property of the book that applies has the prefix
abbrev IsAskedOf : NetValue → List Property → PrefixValue → Type 0
IsAskedOf net book prefix = (property : Property) × Contains book property × (barred net property ≡ None) × (property.prefix ≡ prefix)

asked_later : (net : NetValue) (first : Property) (book : List Property) (prefix : PrefixValue) → IsAskedOf net book prefix → IsAskedOf net (first ∷ book) prefix
asked_later net first book prefix (property, there, open_there, is) = (property, later property first book there, open_there, is)

-- the prefixes of the properties that apply, where the first has this bar or none
abbrev asked_with : NetValue → Option Barred → Property → List Property → List PrefixValue
asked_with net bar first book = map (λ (property : Property). property.prefix) (cond (is_none bar) (first ∷ filter (applies net) book) (filter (applies net) book))

from_asked : (net : NetValue) (book : List Property) (prefix : PrefixValue) → list_any (same_prefix prefix) (asked_prefixes net book) ≡ true → IsAskedOf net book prefix
from_asked net [] prefix e = absurd (false≢true e)
from_asked net (first ∷ book) prefix e = go (λ rest. from_asked net book prefix rest) (barred net first) refl e where
  first_or : (list_any (same_prefix prefix) (asked_prefixes net book) ≡ true → IsAskedOf net book prefix) → (b : Bool) → barred net first ≡ None → same_prefix prefix first.prefix ≡ b → (b || list_any (same_prefix prefix) (asked_prefixes net book)) ≡ true → IsAskedOf net (first ∷ book) prefix
  first_or past true open_first same e = (first, (0, omega arith, refl), open_first, sym ((same_prefix_is_one prefix first.prefix).0 same))
  first_or past false open_first same e = asked_later net first book prefix (past e)

  go : (list_any (same_prefix prefix) (asked_prefixes net book) ≡ true → IsAskedOf net book prefix) → (o : Option Barred) → barred net first ≡ o → list_any (same_prefix prefix) (asked_with net o first book) ≡ true → IsAskedOf net (first ∷ book) prefix
  go past None h e = first_or past (same_prefix prefix first.prefix) h refl e
  go past (Some bar) h e = asked_later net first book prefix (past e)

or_true : (b c : Bool) → c ≡ true → (b || c) ≡ true
or_true true c e = refl
or_true false c e = e

to_asked : (net : NetValue) (book : List Property) (prefix : PrefixValue) (property : Property) → Contains book property → barred net property ≡ None → property.prefix ≡ prefix → list_any (same_prefix prefix) (asked_prefixes net book) ≡ true
to_asked net [] prefix property (k, low, is) open_there same = absurd (omega arith)
to_asked net (first ∷ book) prefix property there open_there same = elim (here_or_later property first book there) [
  | inl here ↦
      let open_first : barred net first ≡ None = ap (λ (p : Property). barred net p) here ∙ open_there in
      subst (λ (o : Option Barred). list_any (same_prefix prefix) (asked_with net o first book) ≡ true) (sym open_first)
      (ap (λ (b : Bool). b || list_any (same_prefix prefix) (asked_prefixes net book))
      (subst (λ (p : PrefixValue). same_prefix prefix p ≡ true) (sym (ap (λ (p : Property). p.prefix) here ∙ same)) ((same_prefix_is_one prefix prefix).1 refl)))
  | inr past ↦ with_first (barred net first) (to_asked net book prefix property past open_there same)
] where
  with_first : (o : Option Barred) → list_any (same_prefix prefix) (asked_prefixes net book) ≡ true → list_any (same_prefix prefix) (asked_with net o first book) ≡ true
  with_first None e = or_true (same_prefix prefix first.prefix) (list_any (same_prefix prefix) (asked_prefixes net book)) e
  with_first (Some bar) e = e

pub cases_are_asked_once : CasesAreAskedOnce
unfolding total_of
cases_are_asked_once net book = (
  distinct (asked_prefixes net book),
  record {
    distinct = all_apart (asked_prefixes net book);
    each = λ prefix. (
      (λ e. from_asked net book prefix (sym (same_members (asked_prefixes net book) prefix) ∙ e)),
      (λ (property, there, open_there, same). same_members (asked_prefixes net book) prefix ∙ to_asked net book prefix property there open_there same),
    );
  },
  refl,
)

-- ---- the greatest number of failures

most_later : (net : NetValue) (prefix : PrefixValue) (first : Property) (more : List Property) (n m : ℕ) → n ≡ (if is_of net prefix first then first.failures else 0) → IsMost net prefix more m → IsMost net prefix (first ∷ more) (max n m)
most_later net prefix first more n m is most = record {
  bound = λ property there mine. elim (here_or_later property first more there) [
    | inl here ↦ (let e : is_of net prefix first ≡ true = subst (λ (p : Property). is_of net prefix p ≡ true) (sym here) mine in
        let f : n ≡ first.failures = is ∙ ap (λ (b : Bool). if b then first.failures else 0) e in
        let g : first.failures ≡ property.failures = ap (λ (p : Property). p.failures) here in
        omega arith)
    | inr past ↦ (let b = most.bound property past mine in omega arith)
  ];
  reached = by_size (cases_order n m);
} where
  from_more : n ≤ m → (most : (m ≡ 0) ⊎ ((property : Property) × Contains more property × (is_of net prefix property ≡ true) × (property.failures ≡ m))) →
      (max n m ≡ 0) ⊎ ((property : Property) × Contains (first ∷ more) property × (is_of net prefix property ≡ true) × (property.failures ≡ max n m))
  from_more low (inl none) = inl (omega arith)
  from_more low (inr (property, there, mine, same)) = inr (property, later property first more there, mine, omega arith)

  from_first : m < n → (b : Bool) → is_of net prefix first ≡ b → n ≡ (if b then first.failures else 0) →
      (max n m ≡ 0) ⊎ ((property : Property) × Contains (first ∷ more) property × (is_of net prefix property ≡ true) × (property.failures ≡ max n m))
  from_first high true e f = inr (first, (0, omega arith, refl), e, omega arith)
  from_first high false e f = absurd (omega arith)

  by_size : (n ≡ m) ⊎ ((n < m) ⊎ (m < n)) → (max n m ≡ 0) ⊎ ((property : Property) × Contains (first ∷ more) property × (is_of net prefix property ≡ true) × (property.failures ≡ max n m))
  by_size (inl same) = from_more (omega arith) most.reached
  by_size (inr (inl low)) = from_more (omega arith) most.reached
  by_size (inr (inr high)) = from_first high (is_of net prefix first) refl is

pub most_is_greatest : MostIsGreatest
most_is_greatest net prefix [] = record { bound = λ property there mine. nothing property there; reached = inl refl } where
  nothing : (property : Property) → Contains [] property → property.failures ≤ 0
  nothing property (k, low, is) = absurd (omega arith)
most_is_greatest net prefix (first ∷ more) =
    most_later net prefix first more (if is_of net prefix first then first.failures else 0) (most_of net prefix more) refl (most_is_greatest net prefix more)
