-- Prefixes of a book, and what they permit.
use Rattle.std.proofs.Common.{ℕ, ◌≡◌, ◌≤◌, ◌+◌, ◌==◌, ◌&&◌, ◌||◌, max, not, cond, if◌then◌else◌, Bool, true, false, List, [], ◌∷◌, map, filter, All, sum_by, arith, refl, ap, sym, subst, ◌∙◌}
use Rattle.std.proofs.lemmas.Bool.{and_from}
use Rattle.std.proofs.lemmas.Bool.Decides.{nat_tests}
use Rattle.std.proofs.lemmas.List.Elements.{All-nil, All-cons, All-head, All-tail, All-weaker}
use Rattle.std.proofs.lemmas.List.Sums.{sum_by-cons}
use Rattle.std.specs.List.{list_any}
use Rattle.net_types.specs.NetValue.{NetValue}
use Rattle.net_types.specs.PrefixValue.{PrefixValue}
use Rattle.net_types.specs.Prefixes.{same_prefix}
use Rattle.net_types.proofs.PrefixLemmas.{same_prefix_is_one}
use Rattle.property_book.specs.declared.property.Property.{Property}
use Rattle.case_walk.specs.Book.{applies, is_of, is_lead, asked_prefixes, stands, distinct, most_of}

pub same_itself : (p : PrefixValue) → same_prefix p p ≡ true
same_itself p = (same_prefix_is_one p p).1 refl

swapped : (a b c d : ℕ) → ((a == c) && (b == d)) ≡ ((c == a) && (d == b))
swapped a b c d = grind (arith, nat_tests)

pub same_prefix_swaps : (p q : PrefixValue) → same_prefix p q ≡ same_prefix q p
same_prefix_swaps p q = swapped p.bits p.len q.bits q.len

-- the prefixes with one property more
pub asked_in : (net : NetValue) (property : Property) (later : List Property) → applies net property ≡ true → asked_prefixes net (property ∷ later) ≡ property.prefix ∷ asked_prefixes net later
asked_in net property later h = ap (λ (b : Bool). map (λ (a : Property). a.prefix) (cond b (property ∷ filter (applies net) later) (filter (applies net) later))) h

pub asked_out : (net : NetValue) (property : Property) (later : List Property) → applies net property ≡ false → asked_prefixes net (property ∷ later) ≡ asked_prefixes net later
asked_out net property later h = ap (λ (b : Bool). map (λ (a : Property). a.prefix) (cond b (property ∷ filter (applies net) later) (filter (applies net) later))) h

-- a sum over the prefixes, with one property more
pub sum_lead : (f : PrefixValue → ℕ) (net : NetValue) (property : Property) (later : List Property) →
    sum_by f (distinct (asked_prefixes net (property ∷ later))) ≡ (if is_lead net property later then f property.prefix else 0) + sum_by f (distinct (asked_prefixes net later))
sum_lead f net property later = go (applies net property) refl (stands (asked_prefixes net later) property.prefix) refl where
  go : (a : Bool) → applies net property ≡ a → (s : Bool) → stands (asked_prefixes net later) property.prefix ≡ s →
      sum_by f (distinct (asked_prefixes net (property ∷ later))) ≡ (if is_lead net property later then f property.prefix else 0) + sum_by f (distinct (asked_prefixes net later))
  go false e s t =
      let l : is_lead net property later ≡ false = ap (λ (b : Bool). b && not (stands (asked_prefixes net later) property.prefix)) e in
      ap (λ (ps : List PrefixValue). sum_by f (distinct ps)) (asked_out net property later e)
      ∙ (let z : sum_by f (distinct (asked_prefixes net later)) ≡ 0 + sum_by f (distinct (asked_prefixes net later)) = omega arith in z)
      ∙ ap (λ (b : Bool). (if b then f property.prefix else 0) + sum_by f (distinct (asked_prefixes net later))) (sym l)
  go true e true t =
      let l : is_lead net property later ≡ false = ap (λ (b : Bool). b && not (stands (asked_prefixes net later) property.prefix)) e ∙ ap not t in
      ap (λ (ps : List PrefixValue). sum_by f (distinct ps)) (asked_in net property later e)
      ∙ ap (λ (b : Bool). sum_by f (if b then distinct (asked_prefixes net later) else property.prefix ∷ distinct (asked_prefixes net later))) t
      ∙ (let z : sum_by f (distinct (asked_prefixes net later)) ≡ 0 + sum_by f (distinct (asked_prefixes net later)) = omega arith in z)
      ∙ ap (λ (b : Bool). (if b then f property.prefix else 0) + sum_by f (distinct (asked_prefixes net later))) (sym l)
  go true e false t =
      let l : is_lead net property later ≡ true = ap (λ (b : Bool). b && not (stands (asked_prefixes net later) property.prefix)) e ∙ ap not t in
      ap (λ (ps : List PrefixValue). sum_by f (distinct ps)) (asked_in net property later e)
      ∙ ap (λ (b : Bool). sum_by f (if b then distinct (asked_prefixes net later) else property.prefix ∷ distinct (asked_prefixes net later))) t
      ∙ sum_by-cons f property.prefix (distinct (asked_prefixes net later))
      ∙ ap (λ (b : Bool). (if b then f property.prefix else 0) + sum_by f (distinct (asked_prefixes net later))) (sym l)

-- no prefix permits more than all properties do
pub most_le : (net : NetValue) (prefix : PrefixValue) (n : ℕ) (book : List Property) → All (λ (property : Property). property.failures ≤ n) book → most_of net prefix book ≤ n
most_le net prefix n [] all = omega arith
most_le net prefix n (property ∷ more) all =
    let h = All-head (λ (property : Property). property.failures ≤ n) property more all in
    let t = most_le net prefix n more (All-tail (λ (property : Property). property.failures ≤ n) property more all) in
    go (is_of net prefix property) h t where
      go : (b : Bool) → property.failures ≤ n → most_of net prefix more ≤ n → max (if b then property.failures else 0) (most_of net prefix more) ≤ n
      go true h t = omega arith
      go false h t = omega arith

-- what is known of a property of the book
pub record IsInside (net : NetValue) (book : List Property) (property : Property) : Type 0 where
  pub among : applies net property ≡ true → stands (asked_prefixes net book) property.prefix ≡ true
  pub fits : applies net property ≡ true → property.failures ≤ most_of net property.prefix book

inside_first : (net : NetValue) (property : Property) (more : List Property) → IsInside net (property ∷ more) property
inside_first net property more = record {
  among = λ open_here. subst (λ (ps : List PrefixValue). stands ps property.prefix ≡ true) (sym (asked_in net property more open_here))
      (ap (λ (b : Bool). b || stands (asked_prefixes net more) property.prefix) (same_itself property.prefix));
  fits = λ open_here. (
      let e : is_of net property.prefix property ≡ true = and_from (applies net property) (same_prefix property.prefix property.prefix) open_here (same_itself property.prefix) in
      let f : max (if is_of net property.prefix property then property.failures else 0) (most_of net property.prefix more) ≡ max property.failures (most_of net property.prefix more) =
      ap (λ (b : Bool). max (if b then property.failures else 0) (most_of net property.prefix more)) e in
      let g : property.failures ≤ max property.failures (most_of net property.prefix more) = omega arith in
      subst (λ (n : ℕ). property.failures ≤ n) (sym f) g);
}

or_true : (b c : Bool) → c ≡ true → (b || c) ≡ true
or_true true c e = refl
or_true false c e = e

stands_more : (net : NetValue) (property : Property) (more : List Property) (p : PrefixValue) → stands (asked_prefixes net more) p ≡ true → stands (asked_prefixes net (property ∷ more)) p ≡ true
stands_more net property more p h = go (applies net property) refl where
  go : (a : Bool) → applies net property ≡ a → stands (asked_prefixes net (property ∷ more)) p ≡ true
  go false e = subst (λ (ps : List PrefixValue). stands ps p ≡ true) (sym (asked_out net property more e)) h
  go true e = subst (λ (ps : List PrefixValue). stands ps p ≡ true) (sym (asked_in net property more e)) (or_true (same_prefix p property.prefix) (stands (asked_prefixes net more) p) h)

inside_later : (net : NetValue) (first : Property) (more : List Property) (property : Property) → IsInside net more property → IsInside net (first ∷ more) property
inside_later net first more property h = record {
  among = λ open_here. stands_more net first more property.prefix (h.among open_here);
  fits = λ open_here. (
      let f = h.fits open_here in
      let n = most_of net property.prefix more in
      let m = (if is_of net property.prefix first then first.failures else 0) in
      let g : most_of net property.prefix more ≤ max m (most_of net property.prefix more) = omega arith in
      omega arith);
}

pub all_inside : (net : NetValue) (book : List Property) → All (IsInside net book) book
all_inside net [] = All-nil (IsInside net [])
all_inside net (property ∷ more) = All-cons (IsInside net (property ∷ more)) property more (inside_first net property more)
    (All-weaker (IsInside net more) (IsInside net (property ∷ more)) (inside_later net property more) more (all_inside net more))
