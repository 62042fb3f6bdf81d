-- What is open behind a line is what the line names, and all else is as it was.
use Rattle.std.proofs.Common.{ℕ, zero, suc, ◌≡◌, ◌≢◌, ◌<◌, ◌≤◌, ◌+◌, ◌++◌, Bool, true, false, not, cond, List, [], ◌∷◌, length, nat_lt, Option, Some, None, Result, Ok, IsSomeAnd, set, slice_get, slice_set, if◌then◌else◌, refl, sym, subst, ◌∙◌, ap, arith}
use Rattle.std.specs.Option.{option_map_or}
use Rattle.std.specs.List.{position_or_len}
use Rattle.std.proofs.lemmas.Bool.Decides.{nat_tests}
use Rattle.std.proofs.lemmas.List.Sorted.{IsPermutation-insert}
use Rattle.std.proofs.lemmas.List.Sums.{prefix_len-le-length}
use Rattle.net_types.specs.Order.{same_text}
use Rattle.net_types.specs.declared.config.Interface.{Interface}
use Rattle.net_types.specs.declared.config.PrefixEntry.{PrefixEntry}
use Rattle.net_types.specs.declared.config.CommunityEntry.{CommunityEntry}
use Rattle.net_types.specs.declared.config.MapEntry.{MapEntry}
use Rattle.net_types.specs.declared.config.RouteMap.{RouteMap}
use Rattle.frr_reader.specs.declared.causes.Cause.{Cause}
use Rattle.frr_reader.specs.declared.modes.Mode.TheVariants.{InInterface}
use Rattle.frr_policy.specs.Values.{name_of}
use Rattle.frr_reader.specs.Values.{one}
use Rattle.frr_reader.specs.Answers.{needs}
use Rattle.frr_reader.specs.State.{State}
use Rattle.frr_reader.specs.Entries.{place_for, entries_at, entry_at, with_entry_at}
use Rattle.frr_reader.specs.Needs.{noted_change}
use Rattle.frr_reader.specs.Effects.{fresh_interface, place_of, with_interface, interface_line, open_entry, with_begun, with_entry_set, with_change_noted, with_changed}
use Rattle.frr_reader.specs.StateLaws.{OpensInterface, OpensTheNamedInterface, ChangesTheOpenInterface, LosesNoEntry, OpensWhatItBegins, ChangesEntry, ChangesTheOpenEntry}
use Rattle.frr_reader.proofs.EntryLemmas.{set-there, slice_get-behind, same_text_true}
use Rattle.frr_reader.proofs.OpenLemmas.{begun_there}

-- items of lists

pub first_passes : {A : Type 0} (test : A → Bool) (xs : List A) → position_or_len test xs < length xs → IsSomeAnd (slice_get xs (position_or_len test xs)) (λ x. test x ≡ true)
first_passes test [] h = absurd (omega arith)
first_passes {A} test (x ∷ xs) h = go (test x) refl (first_passes test xs) h where
  p : ℕ
  p = position_or_len test xs

  P : Option A → Type 0
  P o = IsSomeAnd o (λ y. test y ≡ true)

  go : (b : Bool) → test x ≡ b → (position_or_len test xs < length xs → P (slice_get xs (position_or_len test xs))) → cond (not b) (1 + position_or_len test xs) 0 < length (x ∷ xs) → P (slice_get (x ∷ xs) (cond (not b) (1 + position_or_len test xs) 0))
  go true e i l = e
  go false e i l = subst P (sym (slice_get-behind (position_or_len test xs) (1 + position_or_len test xs) (omega arith) x xs)) (i (omega arith))

pushed : {A : Type 0} (xs : List A) (x : A) (n : ℕ) → n ≡ length xs → slice_get (xs ++ x ∷ []) n ≡ Some x
pushed [] x n e = rw e refl
pushed (y ∷ ys) x n e = slice_get-behind (length ys) n e y (ys ++ x ∷ []) ∙ pushed ys x (length ys) refl

left : {A : Type 0} (xs ys : List A) (k : ℕ) (x : A) → slice_get xs k ≡ Some x → slice_get (xs ++ ys) k ≡ Some x
left [] ys k x e = absurd (cc)
left (y ∷ xs) ys zero x e = e
left (y ∷ xs) ys (suc k) x e = left xs ys k x e

set-others : {A : Type 0} (xs : List A) (k : ℕ) (x : A) (j : ℕ) → j ≢ k → slice_get (set xs k x) j ≡ slice_get xs j
set-others [] k x j h = refl
set-others (y ∷ ys) zero x zero h = absurd (h refl)
set-others (y ∷ ys) zero x (suc j) h = refl
set-others (y ∷ ys) (suc k) x zero h = refl
set-others (y ∷ ys) (suc k) x (suc j) h = set-others ys k x j (λ e. h (ap suc e))

-- interfaces

named_there : (name : List ℕ) (is : List Interface) → IsSomeAnd (slice_get (with_interface name is) (place_of name is)) (λ (i : Interface). i.name ≡ name)
named_there name is = go (nat_lt (place_of name is) (length is)) refl where
  P : Option Interface → Type 0
  P o = IsSomeAnd o (λ (i : Interface). i.name ≡ name)

  same : (o : Option Interface) → IsSomeAnd o (λ (i : Interface). same_text i.name name ≡ true) → P o
  same None h = h
  same (Some i) h = same_text_true i.name name h

  go : (b : Bool) → nat_lt (place_of name is) (length is) ≡ b → P (slice_get (if b then is else is ++ fresh_interface name ∷ []) (place_of name is))
  go true e = same (slice_get is (place_of name is)) (first_passes (λ (i : Interface). same_text i.name name) is (grind (arith, nat_tests)))
  go false e =
      let h : place_of name is ≤ length is = prefix_len-le-length (λ (i : Interface). not (same_text i.name name)) is in
      let f : length is ≤ place_of name is = grind (arith, nat_tests) in
      subst P (sym (pushed is (fresh_interface name) (place_of name is) (omega arith))) refl

kept_there : (name : List ℕ) (is : List Interface) (place : ℕ) (i : Interface) → slice_get is place ≡ Some i → slice_get (with_interface name is) place ≡ Some i
kept_there name is place i h = go (nat_lt (place_of name is) (length is)) where
  go : (b : Bool) → slice_get (if b then is else is ++ fresh_interface name ∷ []) place ≡ Some i
  go true = h
  go false = left is (fresh_interface name ∷ []) place i h

pub opens_the_named_interface : OpensTheNamedInterface
unfolding interface_line
opens_the_named_interface = λ rest name s t e f. go rest name s t e f where
  opened : List ℕ → State → State
  opened name s = record s { mode = InInterface; open_place = place_of name s.interfaces; interfaces = with_interface name s.interfaces }

  is_opened : (name : List ℕ) (s : State) → OpensInterface name s (opened name s)
  is_opened name s = record { named = named_there name s.interfaces; kept = kept_there name s.interfaces }

  same : (name : List ℕ) (s t : State) (r : Result State Cause) → r ≡ Ok (opened name s) → r ≡ Ok t → opened name s ≡ t
  same name s t r e f = cc

  go : (rest : List (List ℕ)) (name : List ℕ) (s t : State) → one name_of rest ≡ Some name → needs (one name_of rest) (λ n. Ok (opened n s)) ≡ Ok t → OpensInterface name s t
  go rest name s t e f = subst (OpensInterface name s) (same name s t (needs (one name_of rest) (λ n. Ok (opened n s))) (ap (λ o. needs o (λ n. Ok (opened n s))) e) f) (is_opened name s)

pub changes_the_open_interface : ChangesTheOpenInterface
changes_the_open_interface = λ old new s e. record {
  there = set-there s.interfaces s.open_place new old e;
  others = λ place h. set-others s.interfaces s.open_place new place h;
}

-- entries

pub loses_no_entry : LosesNoEntry
loses_no_entry = record {
  prefixes = λ e es. IsPermutation-insert es (place_for (λ (x : PrefixEntry). x.seq) e.seq es) e;
  communities = λ e es. IsPermutation-insert es (place_for (λ (x : CommunityEntry). x.seq) e.seq es) e;
  maps = λ e es. IsPermutation-insert es (place_for (λ (x : MapEntry). x.seq) e.seq es) e;
}

pub opens_what_it_begins : OpensWhatItBegins
unfolding with_begun
opens_what_it_begins = λ name entry s. begun_there name entry s.maps

-- the maps with an entry set: it stands at its place, and all else is as it was

set_there : (map place : ℕ) (old new : MapEntry) (maps : List RouteMap) → entry_at map place maps ≡ Some old → entry_at map place (with_entry_at map place new maps) ≡ Some new
set_there map place old new maps e = go (slice_get maps map) refl e where
  go : (o : Option RouteMap) → slice_get maps map ≡ o → slice_get (option_map_or (λ (x : RouteMap). x.entries) o []) place ≡ Some old → slice_get (option_map_or (λ (x : RouteMap). x.entries) (slice_get (option_map_or (λ (x : RouteMap). slice_set maps map (record x { entries = slice_set x.entries place new })) o maps) map) []) place ≡ Some new
  go None f g = absurd (cc)
  go (Some m) f g = rw (set-there maps map (record m { entries = slice_set m.entries place new }) m f, set-there m.entries place new old g) refl

set_others : (map place : ℕ) (new : MapEntry) (maps : List RouteMap) (q : ℕ) → q ≢ place → entry_at map q (with_entry_at map place new maps) ≡ entry_at map q maps
set_others map place new maps q h = go (slice_get maps map) refl where
  go : (o : Option RouteMap) → slice_get maps map ≡ o → slice_get (option_map_or (λ (x : RouteMap). x.entries) (slice_get (option_map_or (λ (x : RouteMap). slice_set maps map (record x { entries = slice_set x.entries place new })) o maps) map) []) q ≡ slice_get (option_map_or (λ (x : RouteMap). x.entries) o []) q
  go None f = ap (λ o. slice_get (option_map_or (λ (x : RouteMap). x.entries) o []) q) f
  go (Some m) f = rw (set-there maps map (record m { entries = slice_set m.entries place new }) m f) (set-others m.entries place new q h)

set_other_maps : (map place : ℕ) (new : MapEntry) (maps : List RouteMap) (j : ℕ) → j ≢ map → entries_at j (with_entry_at map place new maps) ≡ entries_at j maps
set_other_maps map place new maps j h = go (slice_get maps map) where
  go : (o : Option RouteMap) → entries_at j (option_map_or (λ (x : RouteMap). slice_set maps map (record x { entries = slice_set x.entries place new })) o maps) ≡ entries_at j maps
  go None = refl
  go (Some m) = ap (λ o. option_map_or (λ (x : RouteMap). x.entries) o []) (set-others maps map (record m { entries = slice_set m.entries place new }) j h)

pub changes_the_open_entry : ChangesTheOpenEntry
changes_the_open_entry = λ old new s e. go old new s (open_entry s) e refl where
  go : (old new : MapEntry) (s : State) (o : Option MapEntry) → o ≡ Some old → open_entry s ≡ o → ChangesEntry new s
  go old new s None e f = absurd (cc)
  go old new s (Some x) e f =
      let is : with_changed new s ≡ with_entry_set new (record s { needed = noted_change s.number x new s.needed }) = ap (λ o. with_entry_set new (with_change_noted o new s)) f in
      record {
        there = ap open_entry is ∙ set_there s.open_map s.open_entry x new s.maps f;
        others = λ place h. ap (λ t. entry_at s.open_map place t.maps) is ∙ set_others s.open_map s.open_entry new s.maps place h;
        other_maps = λ map h. ap (λ t. entries_at map t.maps) is ∙ set_other_maps s.open_map s.open_entry new s.maps map h;
      }
