-- Names in byte order: the list does not depend on the order in which the names come.
use Rattle.std.proofs.Common.{ℕ, ◌≡◌, ◌&&◌, ◌||◌, Bool, true, false, cond, List, [], ◌∷◌, filter, fold, insert, refl, ap, sym, subst, ◌∙◌, arith, nat_eq}
use Rattle.std.specs.List.{list_any, position_or_len, AllByRecursion}
use Rattle.std.specs.Ordering.{is_lt, nat_cmp, ordering_reverse}
use Rattle.std.specs.Cmp.Lexicographic.{slice_cmp, pointwise}
use Rattle.std.specs.List.Sorted.{IsPermutation}
use Rattle.std.specs.declared.cmp.Ordering.{Ordering}
use Rattle.std.specs.declared.cmp.Ordering.TheVariants.{Less, Equal, Greater}
use Rattle.std.proofs.lemmas.Bool.{false≢true}
use Rattle.std.proofs.lemmas.Bool.Decides.{nat_tests}
use Rattle.std.proofs.lemmas.Cmp.{nat_list_cmp_total}
use Rattle.std.proofs.lemmas.List.Sorted.{list_any-IsPermutation}
use Rattle.net_types.specs.Order.{same_text, text_before}
use Rattle.topology.specs.Ascending.{is_there, put, ascending}
use Rattle.topology.proofs.RisingLemmas.{Rises, Rises-ascending, insert-place, put_before}
use Rattle.topology.proofs.OrderLaws.{text_order}
use Rattle.commands.specs.Folder.{config_names, is_config}

-- whether a text is among others
abbrev among : List (List ℕ) → List ℕ → Bool
among texts y = list_any (λ z. same_text z y) texts

same_is : (x y : List ℕ) → same_text x y ≡ true → x ≡ y
same_is [] [] h = refl
same_is [] (y ∷ ys) h = absurd (false≢true h)
same_is (x ∷ xs) [] h = absurd (false≢true h)
same_is (x ∷ xs) (y ∷ ys) h = both (nat_eq x y) refl h (same_is xs ys) where
  both : (b : Bool) → nat_eq x y ≡ b → (b && pointwise nat_eq xs ys) ≡ true → (pointwise nat_eq xs ys ≡ true → xs ≡ ys) → x ∷ xs ≡ y ∷ ys
  both true e k i = let first : x ≡ y = grind (arith, nat_tests) in λ j. first j ∷ i k j
  both false e k i = absurd (false≢true k)

same_self : (x : List ℕ) → same_text x x ≡ true
same_self [] = refl
same_self (x ∷ xs) = let first : nat_eq x x ≡ true = grind (arith, nat_tests) in rw first (same_self xs)

reverse_self : (o : Ordering) → o ≡ ordering_reverse o → is_lt o ≡ false
reverse_self Less e = absurd (false≢true (sym (ap is_lt e)))
reverse_self Equal e = refl
reverse_self Greater e = refl

before_self : (x : List ℕ) → text_before x x ≡ false
before_self x = reverse_self (slice_cmp nat_cmp x x) (nat_list_cmp_total.antisymm x x)

or_swap : (a b c : Bool) → (a || (b || c)) ≡ (b || (a || c))
or_swap true true c = refl
or_swap true false c = refl
or_swap false true c = refl
or_swap false false c = refl

among-put_before : (x y : List ℕ) (xs : List (List ℕ)) → among (put_before text_before x xs) y ≡ (same_text x y || among xs y)
among-put_before x y [] = refl
among-put_before x y (z ∷ zs) = go (text_before x z) (among-put_before x y zs) where
  go : (b : Bool) → among (put_before text_before x zs) y ≡ (same_text x y || among zs y) → among (cond b (x ∷ z ∷ zs) (z ∷ put_before text_before x zs)) y ≡ (same_text x y || (same_text z y || among zs y))
  go true i = refl
  go false i = ap (λ b. same_text z y || b) i ∙ or_swap (same_text z y) (same_text x y) (among zs y)

among-there : (x y : List ℕ) (xs : List (List ℕ)) → among xs x ≡ true → among xs y ≡ (same_text x y || among xs y)
among-there x y xs h = go (same_text x y) refl where
  go : (b : Bool) → same_text x y ≡ b → among xs y ≡ (b || among xs y)
  go true e = subst (λ (z : List ℕ). among xs z ≡ true) (same_is x y e) h
  go false e = refl

among-put : (x y : List ℕ) (xs : List (List ℕ)) → among (put same_text text_before xs x) y ≡ (same_text x y || among xs y)
among-put x y xs = go (is_there same_text x xs) refl where
  go : (b : Bool) → is_there same_text x xs ≡ b → among (cond b xs (insert xs (position_or_len (λ y. text_before x y) xs) x)) y ≡ (same_text x y || among xs y)
  go true e = among-there x y xs e
  go false e = rw (insert-place text_before x xs) (among-put_before x y xs)

among-fold : (y : List ℕ) (xs done : List (List ℕ)) → among (fold (λ done x. put same_text text_before done x) done xs) y ≡ (among xs y || among done y)
among-fold y [] done = refl
among-fold y (x ∷ xs) done =
    among-fold y xs (put same_text text_before done x) ∙ ap (λ b. among xs y || b) (among-put x y done) ∙ turn (among xs y) (same_text x y) (among done y) where
      turn : (a b c : Bool) → (a || (b || c)) ≡ ((b || a) || c)
      turn true true c = refl
      turn true false c = refl
      turn false true c = refl
      turn false false c = refl

or_none : (a : Bool) → (a || false) ≡ a
or_none true = refl
or_none false = refl

among-ascending : (y : List ℕ) (xs : List (List ℕ)) → among (ascending same_text text_before xs) y ≡ among xs y
among-ascending y xs = among-fold y xs [] ∙ or_none (among xs y)

among-filter : (p : List ℕ → Bool) (y : List ℕ) (xs : List (List ℕ)) → among (filter p xs) y ≡ (p y && among xs y)
among-filter p y [] = none (p y) where
  none : (b : Bool) → false ≡ (b && false)
  none true = refl
  none false = refl
among-filter p y (x ∷ xs) = go (p x) refl (same_text x y) refl (among-filter p y xs) where
  skipped : (a b : Bool) → (a && b) ≡ (a && (false || b))
  skipped true b = refl
  skipped false b = refl

  go : (b : Bool) → p x ≡ b → (s : Bool) → same_text x y ≡ s → among (filter p xs) y ≡ (p y && among xs y) → among (cond b (x ∷ filter p xs) (filter p xs)) y ≡ (p y && (s || among xs y))
  go true e true f i = rw f (let g : p y ≡ true = ap p (sym (same_is x y f)) ∙ e in rw g refl)
  go true e false f i = rw f (i ∙ skipped (p y) (among xs y))
  go false e true f i = let g : p y ≡ false = ap p (sym (same_is x y f)) ∙ e in i ∙ rw g refl
  go false e false f i = i ∙ skipped (p y) (among xs y)

-- a text among those that all come after another comes after it
after : (y x : List ℕ) (ys : List (List ℕ)) → AllByRecursion (λ z. text_before y z ≡ true) ys → among ys x ≡ true → text_before y x ≡ true
after y x [] a h = absurd (false≢true h)
after y x (z ∷ zs) a h = go (same_text z x) refl h (after y x zs a.1) where
  go : (b : Bool) → same_text z x ≡ b → (b || among zs x) ≡ true → (among zs x ≡ true → text_before y x ≡ true) → text_before y x ≡ true
  go true e k i = subst (λ (w : List ℕ). text_before y w ≡ true) (same_is z x e) a.0
  go false e k i = i k

-- no text of a rising list stands again behind itself
once : (x : List ℕ) (xs : List (List ℕ)) → AllByRecursion (λ z. text_before x z ≡ true) xs → among xs x ≡ false
once x xs a = go (among xs x) refl where
  go : (b : Bool) → among xs x ≡ b → b ≡ false
  go true e = absurd (false≢true (sym (before_self x) ∙ after x x xs a e))
  go false e = refl

-- a text that is first or behind, and is not first, is behind
behind_it : (x y : List ℕ) (xs : List (List ℕ)) → same_text x y ≡ false → (same_text x y || among xs y) ≡ true → among xs y ≡ true
behind_it x y xs n h = rw n at h

not_same : (x y : List ℕ) → same_text x y ≡ false → same_text y x ≡ false
not_same x y n = go (same_text y x) refl where
  go : (b : Bool) → same_text y x ≡ b → b ≡ false
  go true e = absurd (false≢true (sym n ∙ subst (λ (z : List ℕ). same_text z y ≡ true) (same_is y x e) (same_self y)))
  go false e = refl

heads : (x y : List ℕ) (xs ys : List (List ℕ)) → AllByRecursion (λ z. text_before x z ≡ true) xs → AllByRecursion (λ z. text_before y z ≡ true) ys → ((z : List ℕ) → among (x ∷ xs) z ≡ among (y ∷ ys) z) → x ≡ y
heads x y xs ys a b h = go (same_text x y) refl where
  first : (u : List ℕ) (us : List (List ℕ)) → among (u ∷ us) u ≡ true
  first u us = rw (same_self u) refl

  go : (t : Bool) → same_text x y ≡ t → x ≡ y
  go true e = same_is x y e
  go false e =
      let m : same_text y x ≡ false = not_same x y e in
      let k : (same_text y x || among ys x) ≡ true = sym (h x) ∙ first x xs in
      let l : (same_text x y || among xs y) ≡ true = h y ∙ first y ys in
      absurd (false≢true (sym (before_self x) ∙ text_order.trans x y x (after x y xs a (behind_it x y xs e l)) (after y x ys b (behind_it y x ys m k))))

-- what stands behind equal first texts has the same texts
rests : (x y : List ℕ) (xs ys : List (List ℕ)) → AllByRecursion (λ z. text_before x z ≡ true) xs → AllByRecursion (λ z. text_before y z ≡ true) ys → x ≡ y → ((z : List ℕ) → among (x ∷ xs) z ≡ among (y ∷ ys) z) → (z : List ℕ) → among xs z ≡ among ys z
rests x y xs ys a b e h z = by (same_text x z) refl where
  by : (t : Bool) → same_text x z ≡ t → among xs z ≡ among ys z
  by true t =
      let f : x ≡ z = same_is x z t in
      let left : among xs z ≡ false = subst (λ (w : List ℕ). among xs w ≡ false) f (once x xs a) in
      let right : among ys z ≡ false = subst (λ (w : List ℕ). among ys w ≡ false) (sym e ∙ f) (once y ys b) in
      left ∙ sym right
  by false t =
      let k : (same_text x z || among xs z) ≡ (same_text x z || among ys z) = subst (λ (w : List ℕ). (same_text x z || among xs z) ≡ (same_text w z || among ys z)) (sym e) (h z) in
      rw t at k

rising_same : (xs ys : List (List ℕ)) → Rises text_before xs → Rises text_before ys → ((z : List ℕ) → among xs z ≡ among ys z) → xs ≡ ys
rising_same [] [] r s h = refl
rising_same [] (y ∷ ys) r s h = absurd (false≢true (h y ∙ rw (same_self y) refl))
rising_same (x ∷ xs) [] r s h = absurd (false≢true (sym (h x) ∙ rw (same_self x) refl))
rising_same (x ∷ xs) (y ∷ ys) r s h =
    let e = heads x y xs ys r.0 s.0 h in
    let tails = rising_same xs ys r.1 s.1 (rests x y xs ys r.0 s.0 e h) in
    λ i. e i ∷ tails i

-- the configuration files of a listing, in whatever order it comes
pub config_names-IsPermutation : (xs ys : List (List ℕ)) → IsPermutation xs ys → config_names ys ≡ config_names xs
config_names-IsPermutation xs ys p =
    rising_same (config_names ys) (config_names xs) (Rises-ascending same_text text_before text_order (filter is_config ys)) (Rises-ascending same_text text_before text_order (filter is_config xs)) (λ z.
    among-ascending z (filter is_config ys) ∙ among-filter is_config z ys ∙ ap (λ b. is_config z && b) (sym (list_any-IsPermutation (λ w. same_text w z) xs ys p)) ∙ sym (among-filter is_config z xs) ∙ sym (among-ascending z (filter is_config xs)))
