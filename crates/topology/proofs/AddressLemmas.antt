-- Addresses that are looked for in ascending lists are those that configurations have in common.
use Rattle.std.proofs.Common.{ℕ, zero, suc, ◌≡◌, ◌+◌, ◌≤◌, ◌<◌, ◌==◌, ◌||◌, ◌⊎◌, ⊎_elim, Bool, true, false, cond, nat_eq, nat_lt, List, [], ◌∷◌, map, fold, length, get_or, refl, ap, sym, ◌∙◌, arith, zero-add, Option, Some, None}
use Rattle.std.specs.Prelude.{Result, Ok, Err, is_ok}
use Rattle.std.specs.Option.{option_map}
use Rattle.std.specs.List.{list_any, position, filter_map, cons_option}
use Rattle.std.specs.List.Sorted.{IsNonDecreasing, IsBinarySearchResult}
use Rattle.std.specs.Ordering.{nat_cmp}
use Rattle.std.specs.Result.{MatchResult}
use Rattle.std.proofs.lemmas.Bool.{cases_lt}
use Rattle.std.proofs.lemmas.Bool.Decides.{nat_tests}
use Rattle.std.proofs.lemmas.List.{length-map, get_or_default}
use Rattle.std.proofs.lemmas.List.Elements.{All-from_recursion}
use Rattle.std.proofs.lemmas.List.Folds.{list_any_at, list_any_none}
use Rattle.std.proofs.lemmas.List.Sorted.{searched}
use Rattle.net_types.specs.declared.config.RouterConfig.{RouterConfig}
use Rattle.topology.specs.Ascending.{is_there, put, ascending}
use Rattle.topology.specs.Pairs.{partner, pair_or, least_pair, any_pair}
use Rattle.topology.specs.Live.{link_address, same_number, has_address_twice, meet_at_address}
use Rattle.topology.specs.Communities.{ascending_numbers}
use Rattle.topology.specs.Network.{address_pair}
use Rattle.topology.specs.Addresses.{link_addresses, addresses_of, have_one, repeats, share_one}
use Rattle.topology.proofs.OrderLaws.{number_order, number-equal}
use Rattle.topology.proofs.RisingLemmas.{put_before, insert-place, Rises-ascending, Rises}
use Rattle.topology.proofs.MapLemmas.{position_or_len-map}
use Rattle.topology.proofs.MemberLemmas.{from-any, any-from, In-ascending}
use Rattle.topology.proofs.AscendingLemmas.{from-ascending}

-- tests
or_last : (a b c : Bool) → ((a || b) || c) ≡ (a || (b || c))
or_last true b c = refl
or_last false b c = refl

or_turned : (a b : Bool) → (a || b) ≡ (b || a)
or_turned true true = refl
or_turned true false = refl
or_turned false true = refl
or_turned false false = refl

or_pairs : (a b c d : Bool) → ((a || b) || (c || d)) ≡ ((a || c) || (b || d))
or_pairs true b c d = refl
or_pairs false true true d = refl
or_pairs false true false d = refl
or_pairs false false c d = refl

same_test : (a b : Bool) → (a ≡ true → b ≡ true) → (b ≡ true → a ≡ true) → a ≡ b
same_test true b f g = sym (f refl)
same_test false true f g = g refl
same_test false false f g = refl

any-both : {A : Type 0} (p q : A → Bool) (xs : List A) → list_any (λ x. p x || q x) xs ≡ (list_any p xs || list_any q xs)
any-both p q [] = refl
any-both p q (x ∷ xs) = ap (λ b. (p x || q x) || b) (any-both p q xs) ∙ or_pairs (p x) (q x) (list_any p xs) (list_any q xs)

-- an ascending list is shorter exactly where an item stands twice
there-put_before : {A : Type 0} (same before : A → A → Bool) (x y : A) (xs : List A) → is_there same y (put_before before x xs) ≡ (is_there same y xs || same x y)
there-put_before same before x y [] = or_turned (same x y) false
there-put_before same before x y (d ∷ ds) = go (before x d) (there-put_before same before x y ds) where
  go : (b : Bool) → is_there same y (put_before before x ds) ≡ (is_there same y ds || same x y) → is_there same y (cond b (x ∷ d ∷ ds) (d ∷ put_before before x ds)) ≡ ((same d y || is_there same y ds) || same x y)
  go true i = or_turned (same x y) (same d y || is_there same y ds)
  go false i = ap (λ b. same d y || b) i ∙ sym (or_last (same d y) (is_there same y ds) (same x y))

length-put_before : {A : Type 0} (before : A → A → Bool) (x : A) (xs : List A) → length (put_before before x xs) ≡ suc (length xs)
length-put_before before x [] = refl
length-put_before before x (y ∷ ys) = go (before x y) (length-put_before before x ys) where
  go : (b : Bool) → length (put_before before x ys) ≡ suc (length ys) → length (cond b (x ∷ y ∷ ys) (y ∷ put_before before x ys)) ≡ suc (suc (length ys))
  go true i = refl
  go false i = ap suc i

length-fold : {A : Type 0} (same before : A → A → Bool) (xs done : List A) → length (fold (λ done x. put same before done x) done xs) ≤ length done + length xs
length-fold same before [] done = omega arith
length-fold {A = A} same before (x ∷ xs) done = go (is_there same x done) refl (λ d. length-fold same before xs d) where
  go : (b : Bool) → is_there same x done ≡ b → ((d : List A) → length (fold (λ done x. put same before done x) d xs) ≤ length d + length xs) → length (fold (λ done x. put same before done x) (put same before done x) xs) ≤ length done + suc (length xs)
  go true e f = rw e (let i = f done in omega arith)
  go false e f = rw (e, insert-place before x done) (let i = f (put_before before x done) in let l = length-put_before before x done in omega arith)

less-here : (n m k : ℕ) → n ≤ m + k → nat_lt n (m + suc k) ≡ true
less-here n m k h = grind (arith, nat_tests)

less-none : (n : ℕ) → nat_lt n (n + 0) ≡ false
less-none n = grind (arith, nat_tests)

counted : {A : Type 0} (same before : A → A → Bool) (xs done : List A) → nat_lt (length (fold (λ done x. put same before done x) done xs)) (length done + length xs) ≡ (list_any (λ x. is_there same x done) xs || any_pair same xs)
counted same before [] done = less-none (length done)
counted {A = A} same before (x ∷ xs) done = go (is_there same x done) refl (λ d. counted same before xs d) where
  go : (b : Bool) → is_there same x done ≡ b → ((d : List A) → nat_lt (length (fold (λ done x. put same before done x) d xs)) (length d + length xs) ≡ (list_any (λ x. is_there same x d) xs || any_pair same xs)) → nat_lt (length (fold (λ done x. put same before done x) (put same before done x) xs)) (length done + suc (length xs)) ≡ ((is_there same x done || list_any (λ y. is_there same y done) xs) || (list_any (λ y. same x y) xs || any_pair same xs))
  go true e f = rw e (less-here (length (fold (λ done x. put same before done x) done xs)) (length done) (length xs) (length-fold same before xs done))
  go false e f = rw (e, insert-place before x done) (
      ap (λ n. nat_lt (length (fold (λ done x. put same before done x) (put_before before x done) xs)) n) (let l = length-put_before before x done in omega arith) ∙
      f (put_before before x done) ∙
      ap (λ b. b || any_pair same xs) (ap (λ p. list_any p xs) (λ i y. there-put_before same before x y done i) ∙ any-both (λ y. is_there same y done) (λ y. same x y) xs) ∙
      or_last (list_any (λ y. is_there same y done) xs) (list_any (λ y. same x y) xs) (any_pair same xs)
      )

any-never : {A : Type 0} (xs : List A) → list_any (λ x. false) xs ≡ false
any-never [] = refl
any-never (x ∷ xs) = any-never xs

pub shorter-ascending : {A : Type 0} (same before : A → A → Bool) (xs : List A) → nat_lt (length (ascending same before xs)) (length xs) ≡ any_pair same xs
shorter-ascending same before xs =
    sym (ap (λ n. nat_lt (length (ascending same before xs)) n) (zero-add (length xs))) ∙
    counted same before xs [] ∙
    ap (λ b. b || any_pair same xs) (any-never xs)

-- what some items have, in place of the items
any-given : {B : Type 0} (f : B → Option ℕ) (n : ℕ) (xs : List B) → list_any (λ y. same_number (Some n) (f y)) xs ≡ list_any (λ m. n == m) (filter_map f xs)
any-given f n [] = refl
any-given f n (x ∷ xs) = go (f x) (any-given f n xs) where
  go : (o : Option ℕ) → list_any (λ y. same_number (Some n) (f y)) xs ≡ list_any (λ m. n == m) (filter_map f xs) → (same_number (Some n) o || list_any (λ y. same_number (Some n) (f y)) xs) ≡ list_any (λ m. n == m) (cons_option o (filter_map f xs))
  go None i = i
  go (Some m) i = ap (λ b. (n == m) || b) i

pairs-given : {B : Type 0} (f : B → Option ℕ) (xs : List B) → any_pair (λ x y. same_number (f x) (f y)) xs ≡ any_pair nat_eq (filter_map f xs)
pairs-given f [] = refl
pairs-given f (x ∷ xs) = go (f x) (pairs-given f xs) where
  go : (o : Option ℕ) → any_pair (λ x y. same_number (f x) (f y)) xs ≡ any_pair nat_eq (filter_map f xs) → (list_any (λ y. same_number o (f y)) xs || any_pair (λ x y. same_number (f x) (f y)) xs) ≡ any_pair nat_eq (cons_option o (filter_map f xs))
  go None i = ap (λ b. b || any_pair (λ x y. same_number (f x) (f y)) xs) (any-never xs) ∙ i
  go (Some n) i = ap (λ b. b || any_pair (λ x y. same_number (f x) (f y)) xs) (any-given f n xs) ∙ ap (λ b. list_any (λ m. n == m) (filter_map f xs) || b) i

meet-given : {B : Type 0} (f : B → Option ℕ) (xs ys : List B) → list_any (λ x. list_any (λ y. same_number (f x) (f y)) ys) xs ≡ have_one (filter_map f xs) (filter_map f ys)
meet-given f [] ys = refl
meet-given f (x ∷ xs) ys = go (f x) (meet-given f xs ys) where
  go : (o : Option ℕ) → list_any (λ x. list_any (λ y. same_number (f x) (f y)) ys) xs ≡ have_one (filter_map f xs) (filter_map f ys) → (list_any (λ y. same_number o (f y)) ys || list_any (λ x. list_any (λ y. same_number (f x) (f y)) ys) xs) ≡ have_one (cons_option o (filter_map f xs)) (filter_map f ys)
  go None i = ap (λ b. b || list_any (λ x. list_any (λ y. same_number (f x) (f y)) ys) xs) (any-never ys) ∙ i
  go (Some n) i = ap (λ b. b || list_any (λ x. list_any (λ y. same_number (f x) (f y)) ys) xs) (any-given f n ys) ∙ ap (λ b. list_any (λ m. n == m) (filter_map f ys) || b) i

-- an ascending list holds what the list holds
any-ascending : (p : ℕ → Bool) (xs : List ℕ) → list_any p (ascending_numbers xs) ≡ list_any p xs
any-ascending p xs = same_test (list_any p (ascending_numbers xs)) (list_any p xs)
    (λ h. let w = from-any p (ascending_numbers xs) h in any-from p w.0 xs (from-ascending nat_eq nat_lt w.0 xs w.1) w.2)
    (λ h. let w = from-any p xs h in any-from p w.0 (ascending_numbers xs) (In-ascending nat_eq nat_lt number-equal w.0 xs w.1) w.2)

have_one-ascending : (xs ys : List ℕ) → have_one (ascending_numbers xs) (ascending_numbers ys) ≡ have_one xs ys
have_one-ascending xs ys =
    any-ascending (λ x. list_any (λ y. x == y) (ascending_numbers ys)) xs ∙
    ap (λ p. list_any p xs) (λ i x. any-ascending (λ y. x == y) ys i)

pub repeat-is : (config : RouterConfig) → nat_lt (length (ascending_numbers (link_addresses config))) (length (link_addresses config)) ≡ has_address_twice config
repeat-is config = shorter-ascending nat_eq nat_lt (link_addresses config) ∙ sym (pairs-given (λ interface. link_address interface) config.interfaces)

meets-is : (a b : RouterConfig) → have_one (addresses_of a).each (addresses_of b).each ≡ meet_at_address a b
meets-is a b = have_one-ascending (link_addresses a) (link_addresses b) ∙ sym (meet-given (λ interface. link_address interface) a.interfaces b.interfaces)

-- the least pair of what is seen of items
position-map : {A B : Type 0} (f : A → B) (p : B → Bool) (xs : List A) → position p (map f xs) ≡ position (λ x. p (f x)) xs
position-map f p xs = rw (position_or_len-map f p xs, length-map xs f) refl

least_pair-seen : {A B : Type 0} (f : A → B) (itself : A → Bool) (meets : A → A → Bool) (other : B → Bool) (touch : B → B → Bool) → ((x : A) → other (f x) ≡ itself x) → ((x y : A) → touch (f x) (f y) ≡ meets x y) → (at : ℕ) (xs : List A) → least_pair other touch at (map f xs) ≡ least_pair itself meets at xs
least_pair-seen f itself meets other touch e h at [] = refl
least_pair-seen f itself meets other touch e h at (x ∷ xs) =
    ap (λ later. pair_or at (partner other touch (f x) (map f xs)) later) (least_pair-seen f itself meets other touch e h (at + 1) xs) ∙
    ap (λ first. pair_or at first (least_pair itself meets (at + 1) xs)) (
    ap (λ b. cond b (Some 0) (option_map (λ k. k + 1) (position (λ y. touch (f x) y) (map f xs)))) (e x) ∙
    ap (λ o. cond (itself x) (Some 0) (option_map (λ k. k + 1) o)) (position-map f (λ y. touch (f x) y) xs ∙ ap (λ p. position p xs) (λ i y. h x y i))
    )

pub address_pair-seen : (configs : List RouterConfig) → least_pair repeats share_one 0 (map (λ c. addresses_of c) configs) ≡ address_pair configs
address_pair-seen configs = least_pair-seen (λ c. addresses_of c) has_address_twice meet_at_address repeats share_one (λ c. refl) meets-is 0 configs

-- ascending numbers do not fall
pub steady-from_rises : (xs : List ℕ) → Rises nat_lt xs → IsNonDecreasing xs
steady-from_rises [] r i j d l h = absurd (omega arith)
steady-from_rises (x ∷ xs) r zero zero d l h = omega arith
steady-from_rises (x ∷ xs) r (suc i) zero d l h = absurd (omega arith)
steady-from_rises (x ∷ xs) r (suc i) (suc j) d l h = steady-from_rises xs r.1 i j d (omega arith) (omega arith)
steady-from_rises (x ∷ xs) r zero (suc j) d l h = let b : nat_lt x (get_or xs j d) ≡ true = All-from_recursion (λ y. nat_lt x y ≡ true) xs r.0 j d (omega arith) in at-most x (get_or xs j d) b where
  at-most : (m n : ℕ) → nat_lt m n ≡ true → m ≤ n
  at-most m n b = grind (arith, nat_tests)

pub steady-ascending : (xs : List ℕ) → IsNonDecreasing (ascending_numbers xs)
steady-ascending xs = steady-from_rises (ascending_numbers xs) (Rises-ascending nat_eq nat_lt number_order xs)

-- what a binary search says of numbers that do not fall
pub found-is : (xs : List ℕ) (x : ℕ) (r : Result ℕ ℕ) → IsNonDecreasing xs → IsBinarySearchResult (λ y. nat_cmp y x) xs r → is_ok r ≡ list_any (λ n. x == n) xs
found-is xs x r up b = go r (searched xs x r b (λ i j l h. up i j 0 l h)) where
  equal : (n : ℕ) → n ≡ x → (x == n) ≡ true
  equal n e = grind (arith, nat_tests)

  other : (n : ℕ) → n < x → (x == n) ≡ false
  other n h = grind (arith, nat_tests)

  beyond : (n : ℕ) → x < n → (x == n) ≡ false
  beyond n h = grind (arith, nat_tests)

  go : (r : Result ℕ ℕ) → MatchResult r (λ i. (i < length xs) × (get_or xs i 0 ≡ x)) (λ i. (i ≤ length xs) × ((k : ℕ) → k < i → get_or xs k 0 < x) × ((k : ℕ) → i ≤ k → k < length xs → x < get_or xs k 0)) → is_ok r ≡ list_any (λ n. x == n) xs
  go (Ok i) m = sym (list_any_at (λ n. x == n) xs i 0 m.0 (equal (get_or xs i 0) m.1))
  go (Err i) m = sym (list_any_none (λ n. x == n) xs (λ k d h. rw (get_or_default xs k d 0 h) (side k h (cases_lt k i)))) where
    side : (k : ℕ) → k < length xs → (k < i) ⊎ (i ≤ k) → (x == get_or xs k 0) ≡ false
    side k h s = ⊎_elim (λ l. other (get_or xs k 0) (m.1 k l)) (λ l. beyond (get_or xs k 0) (m.2 k l h)) s
