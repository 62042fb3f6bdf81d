-- Tables of places: of no items, of one item more, and where an item is changed that keeps its name.
use Rattle.std.proofs.Common.{ℕ, ◌≡◌, ◌≤◌, ◌<◌, ◌+◌, ◌++◌, ◌||◌, ◌&&◌, ◌==◌, Bool, true, false, not, zero, suc, cond, List, [], ◌∷◌, length, set, get_or, nat_lt, nat_eq, refl, ap, sym, subst, ◌∙◌, arith, Option, Some, None, slice_get}
use Rattle.std.specs.Prelude.{position, String, string_bytes, MatchOption, is_some}
use Rattle.std.specs.List.{position_or_len, list_any, find}
use Rattle.std.specs.Option.{option_map_or}
use Rattle.std.specs.String.{string_cmp}
use Rattle.std.specs.BTreeMap.{BTreeMap, Updates, get, get_by_text}
use Rattle.std.specs.Ordering.{nat_cmp, ordering_then, is_eq}
use Rattle.std.specs.declared.cmp.Ordering.TheVariants.{Less, Equal, Greater}
use Rattle.std.proofs.lemmas.Bool.Decides.{nat_tests}
use Rattle.std.proofs.lemmas.List.{length-set, length-append}
use Rattle.std.proofs.lemmas.List.Folds.{position_or_len-set, position_or_len_push, find_at}
use Rattle.std.proofs.lemmas.List.Sums.{prefix_len-le-length}
use Rattle.std.proofs.lemmas.Map.Text.{btree_map_updates_text}
use Rattle.std.proofs.lemmas.Slice.Eq.{bytes_eq-Decides}
use Rattle.net_types.specs.Order.{same_text}
use Rattle.net_types.specs.PrefixValue.{PrefixValue}
use Rattle.net_types.specs.Prefixes.{same_prefix}
use Rattle.net_types.specs.declared.config.Neighbor.{Neighbor}
use Rattle.frr_reader.specs.Places.{HasPlaces, HasAddressPlaces, HasPrefixPlaces}

-- where an item is changed that keeps its key, each key's place stays
pub position-set : {A : Type 0} (p : A → Bool) (xs : List A) (k : ℕ) (y d : A) → p y ≡ p (get_or xs k d) → position p (set xs k y) ≡ position p xs
position-set p xs k y d e = rw (position_or_len-set p xs k y d e, length-set xs k y) refl

push-cases : (b : Bool) (q n : ℕ) → q ≤ n →
    cond (nat_lt (cond (nat_eq q n) (n + cond b 0 1) q) (n + 1)) (Some (cond (nat_eq q n) (n + cond b 0 1) q)) None
    ≡ cond (nat_lt q n) (Some q) (cond b (Some n) None)
push-cases true q n h = grind (arith, nat_tests)
push-cases false q n h = grind (arith, nat_tests)

-- behind the items one more
pub position-push : {A : Type 0} (p : A → Bool) (xs : List A) (y : A) → position p (xs ++ y ∷ []) ≡ cond (nat_lt (position_or_len p xs) (length xs)) (Some (position_or_len p xs)) (cond (p y) (Some (length xs)) None)
position-push p xs y = rw (position_or_len_push p xs y, length-append xs (y ∷ [])) (push-cases (p y) (position_or_len p xs) (length xs) (prefix_len-le-length _ xs))

pub places_nil : {A Y : Type 0} (name_of : A → List ℕ) (m : BTreeMap (String Y) ℕ) → m.entries ≡ [] → HasPlaces name_of [] m
places_nil name_of m e name = rw e refl

-- a place that is found is the first of its key, and where none is found there is none
pub place_found : {A : Type 0} (p : A → Bool) (xs : List A) (k : ℕ) → Some k ≡ position p xs → k ≡ position_or_len p xs
place_found p xs k e = go (nat_lt (position_or_len p xs) (length xs)) e where
  go : (b : Bool) → Some k ≡ cond b (Some (position_or_len p xs)) None → k ≡ position_or_len p xs
  go true i = cc
  go false i = absurd (cc)

pub place_missing : {A : Type 0} (p : A → Bool) (xs : List A) (n : ℕ) → None ≡ position p xs → n ≡ length xs → n ≡ position_or_len p xs
place_missing p xs n e f = go (nat_lt (position_or_len p xs) (length xs)) refl e where
  go : (b : Bool) → nat_lt (position_or_len p xs) (length xs) ≡ b → None ≡ cond b (Some (position_or_len p xs)) None → n ≡ position_or_len p xs
  go true g i = absurd (cc)
  go false g i = let h : position_or_len p xs ≤ length xs = prefix_len-le-length _ xs in grind (arith, nat_tests)

-- the place of a key among items that a table of their places finds
pub placed : {A : Type 0} (p : A → Bool) (xs : List A) (found : Option ℕ) (k n : ℕ) → found ≡ position p xs → n ≡ length xs → MatchOption found (k ≡ n) (λ place. k ≡ place) → k ≡ position_or_len p xs
placed p xs (Some place) k n e f h = place_found p xs k (ap Some h ∙ e)
placed p xs None k n e f h = h ∙ place_missing p xs n e f

first-within : (n : ℕ) → nat_lt 0 (suc n) ≡ true
first-within n = grind (arith, nat_tests)

next-within : (m n : ℕ) → nat_lt (1 + m) (suc n) ≡ nat_lt m n
next-within m n = go (nat_lt m n) refl where
  go : (b : Bool) → nat_lt m n ≡ b → nat_lt (1 + m) (suc n) ≡ b
  go true h = grind (arith, nat_tests)
  go false h = grind (arith, nat_tests)

-- an item passes where one is found
pub any_placed : {A : Type 0} (p : A → Bool) (xs : List A) → nat_lt (position_or_len p xs) (length xs) ≡ list_any p xs
any_placed p [] = refl
any_placed {A} p (x ∷ xs) = go (p x) (any_placed p xs) where
  go : (b : Bool) → nat_lt (position_or_len p xs) (length xs) ≡ list_any p xs → nat_lt (cond (not b) (1 + position_or_len p xs) 0) (length (x ∷ xs)) ≡ (b || list_any p xs)
  go true i = first-within (length xs)
  go false i = next-within (position_or_len p xs) (length xs) ∙ i

-- what a table finds of one item more, which it finds at its place if no item before has the key
pub keyed-push : {A : Type 0} (p : A → Bool) (xs : List A) (x : A) (k : ℕ) (old now : Option ℕ) → old ≡ position p xs → (p x ≡ true → length xs ≤ position_or_len p xs) → k ≡ length xs → now ≡ cond (p x) (Some k) old → now ≡ position p (xs ++ x ∷ [])
keyed-push {A} p xs x k old now e absent f g = g ∙ (rw f (go (p x) refl) ∙ sym (position-push p xs x)) where
  none : (q l : ℕ) → l ≤ q → nat_lt q l ≡ false
  none q l i = grind (arith, nat_tests)

  go : (b : Bool) → p x ≡ b → cond b (Some (length xs)) old ≡ cond (nat_lt (position_or_len p xs) (length xs)) (Some (position_or_len p xs)) (cond b (Some (length xs)) None)
  go true h = rw (none (position_or_len p xs) (length xs) (absent h)) refl
  go false h = e

-- one item more, of a name that none has
pub places_push : {A Y : Type 0} (name_of : A → List ℕ) (xs : List A) (x : A) (m n : BTreeMap (String Y) ℕ) (key : String Y) (k : ℕ) → HasPlaces name_of xs m → length xs ≤ position_or_len (λ y. same_text (name_of y) (name_of x)) xs → string_bytes key ≡ name_of x → k ≡ length xs → Updates string_cmp m n key (Some k) → HasPlaces name_of (xs ++ x ∷ []) n
places_push {A} {Y} name_of xs x m n key k h absent e f u name =
    keyed-push (λ y. same_text (name_of y) name) xs x k (get_by_text m name) (get_by_text n name) (h name) first f (btree_map_updates_text (string_bytes key) m n (Some k) u name ∙ rw e refl) where
      first : same_text (name_of x) name ≡ true → length xs ≤ position_or_len (λ y. same_text (name_of y) name) xs
      first g = let same : name ≡ name_of x = sym ((bytes_eq-Decides (name_of x) name).0 g) in rw same absent

-- an item is changed that keeps its name
pub places_set : {A Y : Type 0} (name_of : A → List ℕ) (xs : List A) (m : BTreeMap (String Y) ℕ) (k : ℕ) (y d : A) → HasPlaces name_of xs m → name_of y ≡ name_of (get_or xs k d) → HasPlaces name_of (set xs k y) m
places_set name_of xs m k y d h e name = h name ∙ sym (position-set (λ x. same_text (name_of x) name) xs k y d (ap (λ n. same_text n name) e))

-- what is made of the first item that passes
pub entries_found : {A E : Type 0} (p : A → Bool) (entries : A → List E) (xs : List A) → option_map_or entries (slice_get xs (position_or_len p xs)) [] ≡ option_map_or entries (find p xs) []
entries_found p entries xs = ap (λ x. option_map_or entries x []) (sym (find_at p xs))

-- a name is found where an item has it
pub name_found : {A : Type 0} (p : A → Bool) (xs : List A) (found : Option ℕ) → found ≡ position p xs → is_some found ≡ list_any p xs
name_found p xs found e = rw e (go (nat_lt (position_or_len p xs) (length xs)) (any_placed p xs)) where
  go : (b : Bool) → b ≡ list_any p xs → is_some (cond b (Some (position_or_len p xs)) None) ≡ list_any p xs
  go true f = f
  go false f = f

-- the orders of numbers and of prefixes tell them apart
number-cases : (l e : Bool) → (l ≡ true → e ≡ false) → is_eq (cond l Less (cond e Equal Greater)) ≡ e
number-cases true e h = rw (h refl) refl
number-cases false true h = refl
number-cases false false h = refl

apart : (x y : ℕ) → nat_lt x y ≡ true → (x == y) ≡ false
apart x y h = grind (arith, nat_tests)

same-number : (a b : ℕ) → is_eq (nat_cmp a b) ≡ (a == b)
same-number a b = number-cases (nat_lt a b) (a == b) (apart a b)

pair-cases : (l e m f : Bool) → (l ≡ true → e ≡ false) → (m ≡ true → f ≡ false) → is_eq (ordering_then (cond l Less (cond e Equal Greater)) (cond m Less (cond f Equal Greater))) ≡ (e && f)
pair-cases true e m f h k = rw (h refl) refl
pair-cases false true true f h k = sym (k refl)
pair-cases false true false true h k = refl
pair-cases false true false false h k = refl
pair-cases false false m f h k = refl

same-pair : (a b c d : ℕ) → is_eq (ordering_then (nat_cmp a c) (nat_cmp b d)) ≡ ((a == c) && (b == d))
same-pair a b c d = pair-cases (nat_lt a c) (a == c) (nat_lt b d) (b == d) (apart a c) (apart b d)

same_prefix-equal : (x y : PrefixValue) → same_prefix x y ≡ true → x ≡ y
same_prefix-equal x y h =
    let bits : x.bits ≡ y.bits = first x.bits x.len y.bits y.len h in
    let len : x.len ≡ y.len = second x.bits x.len y.bits y.len h in
    λ i. record { bits = bits i; len = len i } where
      first : (a b c d : ℕ) → ((a == c) && (b == d)) ≡ true → a ≡ c
      first a b c d h = grind (arith, nat_tests)

      second : (a b c d : ℕ) → ((a == c) && (b == d)) ≡ true → b ≡ d
      second a b c d h = grind (arith, nat_tests)

same-equal : (a b : ℕ) → (a == b) ≡ true → b ≡ a
same-equal a b h = grind (arith, nat_tests)

not-within : (q l : ℕ) → nat_lt q l ≡ false → l ≤ q
not-within q l h = grind (arith, nat_tests)

none-within : {A : Type 0} (p : A → Bool) (xs : List A) → position p xs ≡ None → length xs ≤ position_or_len p xs
none-within p xs e = go (nat_lt (position_or_len p xs) (length xs)) refl e where
  go : (b : Bool) → nat_lt (position_or_len p xs) (length xs) ≡ b → cond b (Some (position_or_len p xs)) None ≡ None → length xs ≤ position_or_len p xs
  go true g i = absurd (cc)
  go false g i = not-within (position_or_len p xs) (length xs) g

-- one neighbor more, of an address that none has
pub addresses_push : (ns : List Neighbor) (x : Neighbor) (m n : BTreeMap ℕ ℕ) (k : ℕ) → HasAddressPlaces ns m → position (λ (y : Neighbor). y.address == x.address) ns ≡ None → k ≡ length ns → Updates nat_cmp m n x.address (Some k) → HasAddressPlaces (ns ++ x ∷ []) n
addresses_push ns x m n k h absent f u a =
    keyed-push (λ (y : Neighbor). y.address == a) ns x k (get nat_cmp m a) (get nat_cmp n a) (h a) first f (u.0 a ∙ ap (λ b. cond b (Some k) (get nat_cmp m a)) (same-number x.address a)) where
      first : (x.address == a) ≡ true → length ns ≤ position_or_len (λ (y : Neighbor). y.address == a) ns
      first g = rw (same-equal x.address a g) (none-within (λ (y : Neighbor). y.address == x.address) ns absent)

-- a neighbor is changed that keeps its address
pub addresses_set : (ns : List Neighbor) (m : BTreeMap ℕ ℕ) (k : ℕ) (y d : Neighbor) → HasAddressPlaces ns m → y.address ≡ (get_or ns k d).address → HasAddressPlaces (set ns k y) m
addresses_set ns m k y d h e a = h a ∙ sym (position-set (λ (n : Neighbor). n.address == a) ns k y d (ap (λ n. n == a) e))

-- one prefix more, which is not there
pub prefixes_push : (ps : List PrefixValue) (x : PrefixValue) (m n : BTreeMap (ℕ × ℕ) ℕ) (k : ℕ) → HasPrefixPlaces ps m → list_any (λ p. same_prefix p x) ps ≡ false → k ≡ length ps → Updates (λ a b. ordering_then (nat_cmp a.0 b.0) (nat_cmp a.1 b.1)) m n (x.bits, x.len) (Some k) → HasPrefixPlaces (ps ++ x ∷ []) n
prefixes_push ps x m n k h absent f u p =
    let at : BTreeMap (ℕ × ℕ) ℕ → Option ℕ = λ t. get (λ a b. ordering_then (nat_cmp a.0 b.0) (nat_cmp a.1 b.1)) t (p.bits, p.len) in
    keyed-push (λ q. same_prefix q p) ps x k (at m) (at n) (h p) first f (u.0 (p.bits, p.len) ∙ ap (λ b. cond b (Some k) (at m)) (same-pair x.bits x.len p.bits p.len)) where
      first : same_prefix x p ≡ true → length ps ≤ position_or_len (λ q. same_prefix q p) ps
      first g = subst (λ y. length ps ≤ position_or_len (λ q. same_prefix q y) ps) (same_prefix-equal x p g)
          (not-within (position_or_len (λ q. same_prefix q x) ps) (length ps) (any_placed (λ q. same_prefix q x) ps ∙ absent))
