-- What the lines need of the whole file: where all of it is met, each name in the configuration is defined,
-- and what is prepended is the file's own AS.
use Rattle.std.proofs.Common.{ℕ, ◌≡◌, ◌≤◌, ◌==◌, ◌||◌, ◌++◌, ◌∙◌, Bool, true, false, not, cond, List, [], ◌∷◌, find, Option, Some, None, IfSome, IsSomeAnd, All, option_map, if◌then◌else◌, refl, sym, subst, arith}
use Rattle.std.specs.Option.{option_map_or}
use Rattle.std.specs.List.{list_any}
use Rattle.std.proofs.lemmas.Bool.Decides.{nat_tests}
use Rattle.std.proofs.lemmas.List.Elements.{All-nil, All-cons, All-head, All-tail, All-append, Contains-append_left, Contains-append_right, Contains-push}
use Rattle.net_types.specs.Order.{same_text}
use Rattle.net_types.specs.ConfigFacts.{has_prefix_list, has_community_list, has_map, IsOwnAs}
use Rattle.net_types.specs.declared.config.RouterConfig.{RouterConfig}
use Rattle.net_types.specs.declared.config.BgpConfig.{BgpConfig}
use Rattle.net_types.specs.declared.config.Neighbor.{Neighbor}
use Rattle.net_types.specs.declared.config.Redistribute.{Redistribute}
use Rattle.net_types.specs.declared.config.Redistribute.TheVariants.{No, Plain, By}
use Rattle.net_types.specs.declared.config.RouteMap.{RouteMap}
use Rattle.net_types.specs.declared.config.MapEntry.{MapEntry}
use Rattle.frr_reader.specs.declared.needs.Needed.{Needed}
use Rattle.frr_reader.specs.declared.needs.Needed.TheVariants.{Map, PrefixList, CommunityList, OwnAs}
use Rattle.frr_reader.specs.declared.needs.Need.{Need}
use Rattle.frr_reader.specs.FirstRefusal.{IsLeastLine}
use Rattle.frr_reader.specs.Needs.{new_name, new_asns, noted, noted_change, is_own, is_undefined, is_foreign, first_undefined, first_foreign}
use Rattle.frr_reader.proofs.EntryLemmas.{All-left, All-last, same_text_true}

-- what a whole file has: names of maps and lists, and AS numbers of its own
pub record Whole : Type 0 where
  pub has_map : List ℕ → Bool
  pub has_prefix_list : List ℕ → Bool
  pub has_community_list : List ℕ → Bool
  pub is_own : ℕ → Bool

abbrev pub IsMet : Whole → Needed → Type 0
IsMet w (Map name) = w.has_map name ≡ true
IsMet w (PrefixList name) = w.has_prefix_list name ≡ true
IsMet w (CommunityList name) = w.has_community_list name ≡ true
IsMet w (OwnAs asns) = All (λ asn. w.is_own asn ≡ true) asns

abbrev pub AllMet : Whole → List Need → Type 0
AllMet w needed = All (λ (n : Need). IsMet w n.what) needed

-- names that are there
abbrev pub IsThere : (List ℕ → Bool) → Option (List ℕ) → Type 0
IsThere has name = IfSome name (λ n. has n ≡ true)

pub record IsNamedNeighbor (w : Whole) (n : Neighbor) : Type 0 where
  pub «import» : IsThere w.has_map n.import
  pub «export» : IsThere w.has_map n.export

abbrev pub IsNamedBy : Whole → Redistribute → Type 0
IsNamedBy w No = Unit {0}
IsNamedBy w Plain = Unit {0}
IsNamedBy w (By name) = w.has_map name ≡ true

pub record IsNamedBgp (w : Whole) (b : BgpConfig) : Type 0 where
  pub connected : IsNamedBy w b.connected
  pub ospf : IsNamedBy w b.ospf
  pub neighbors : All (IsNamedNeighbor w) b.neighbors

pub record IsNamedEntry (w : Whole) (e : MapEntry) : Type 0 where
  pub prefixes : IsThere w.has_prefix_list e.prefixes
  pub communities : IsThere w.has_community_list e.communities
  pub «delete» : IsThere w.has_community_list e.sets.delete
  pub prepend : All (λ asn. w.is_own asn ≡ true) e.sets.prepend

abbrev pub IsNamedMap : Whole → RouteMap → Type 0
IsNamedMap w m = All (IsNamedEntry w) m.entries

pub record IsNamed (w : Whole) (b : Option BgpConfig) (ms : List RouteMap) : Type 0 where
  pub bgp : IfSome b (IsNamedBgp w)
  pub maps : All (IsNamedMap w) ms

-- where all is met that is noted, so is what was noted before, and what is noted now
pub noted_before : (w : Whole) (line : ℕ) (o : Option Needed) (so_far : List Need) → AllMet w (noted line o so_far) → AllMet w so_far
noted_before w line None so_far h = h
noted_before w line (Some what) so_far h = All-left (λ (n : Need). IsMet w n.what) so_far (record { line = line; what = what } ∷ []) h

pub noted_now : (w : Whole) (line : ℕ) (o : Option Needed) (so_far : List Need) → AllMet w (noted line o so_far) → IfSome o (IsMet w)
noted_now w line None so_far h = tt
noted_now w line (Some what) so_far h = All-last (λ (n : Need). IsMet w n.what) so_far (record { line = line; what = what }) h

-- a name of an entry is there if it was before, or is noted now
named_name : (w : Whole) (has : List ℕ → Bool) (kind : List ℕ → Needed) → ((name : List ℕ) → IsMet w (kind name) → has name ≡ true) → (old new : Option (List ℕ)) → IsThere has old → IfSome (option_map kind (new_name old new)) (IsMet w) → IsThere has new
named_name w has kind k old None h m = tt
named_name w has kind k None (Some name) h m = k name m
named_name w has kind k (Some old) (Some name) h m = go (same_text old name) refl m where
  go : (b : Bool) → same_text old name ≡ b → IfSome (option_map kind (if b then None else Some name)) (IsMet w) → has name ≡ true
  go true e n = subst (λ x. has x ≡ true) (same_text_true old name e) h
  go false e n = k name n

named_asns : (w : Whole) (old new : List ℕ) → All (λ asn. w.is_own asn ≡ true) old → IfSome (option_map OwnAs (new_asns old new)) (IsMet w) → All (λ asn. w.is_own asn ≡ true) new
named_asns w old new h m = go (same_text old new) refl m where
  go : (b : Bool) → same_text old new ≡ b → IfSome (option_map OwnAs (if b then None else Some new)) (IsMet w) → All (λ asn. w.is_own asn ≡ true) new
  go true e n = subst (λ xs. All (λ asn. w.is_own asn ≡ true) xs) (same_text_true old new e) h
  go false e n = n

-- the four notes of a changed entry
abbrev first_note : ℕ → MapEntry → MapEntry → List Need → List Need
first_note line old new so_far = noted line (option_map PrefixList (new_name old.prefixes new.prefixes)) so_far

abbrev second_note : ℕ → MapEntry → MapEntry → List Need → List Need
second_note line old new so_far = noted line (option_map CommunityList (new_name old.communities new.communities)) (first_note line old new so_far)

abbrev third_note : ℕ → MapEntry → MapEntry → List Need → List Need
third_note line old new so_far = noted line (option_map CommunityList (new_name old.sets.delete new.sets.delete)) (second_note line old new so_far)

third_met : (w : Whole) (line : ℕ) (old new : MapEntry) (so_far : List Need) → AllMet w (noted_change line old new so_far) → AllMet w (third_note line old new so_far)
third_met w line old new so_far h = noted_before w line (option_map OwnAs (new_asns old.sets.prepend new.sets.prepend)) (third_note line old new so_far) h

second_met : (w : Whole) (line : ℕ) (old new : MapEntry) (so_far : List Need) → AllMet w (noted_change line old new so_far) → AllMet w (second_note line old new so_far)
second_met w line old new so_far h = noted_before w line (option_map CommunityList (new_name old.sets.delete new.sets.delete)) (second_note line old new so_far) (third_met w line old new so_far h)

first_met : (w : Whole) (line : ℕ) (old new : MapEntry) (so_far : List Need) → AllMet w (noted_change line old new so_far) → AllMet w (first_note line old new so_far)
first_met w line old new so_far h = noted_before w line (option_map CommunityList (new_name old.communities new.communities)) (first_note line old new so_far) (second_met w line old new so_far h)

pub change_before : (w : Whole) (line : ℕ) (old new : MapEntry) (so_far : List Need) → AllMet w (noted_change line old new so_far) → AllMet w so_far
change_before w line old new so_far h = noted_before w line (option_map PrefixList (new_name old.prefixes new.prefixes)) so_far (first_met w line old new so_far h)

pub change_named : (w : Whole) (line : ℕ) (old new : MapEntry) (so_far : List Need) → AllMet w (noted_change line old new so_far) → IsNamedEntry w old → IsNamedEntry w new
change_named w line old new so_far h k = record {
  prefixes = named_name w w.has_prefix_list PrefixList (λ name m. m) old.prefixes new.prefixes k.prefixes (noted_now w line (option_map PrefixList (new_name old.prefixes new.prefixes)) so_far (first_met w line old new so_far h));
  communities = named_name w w.has_community_list CommunityList (λ name m. m) old.communities new.communities k.communities (noted_now w line (option_map CommunityList (new_name old.communities new.communities)) (first_note line old new so_far) (second_met w line old new so_far h));
  «delete» = named_name w w.has_community_list CommunityList (λ name m. m) old.sets.delete new.sets.delete k.delete (noted_now w line (option_map CommunityList (new_name old.sets.delete new.sets.delete)) (second_note line old new so_far) (third_met w line old new so_far h));
  prepend = named_asns w old.sets.prepend new.sets.prepend k.prepend (noted_now w line (option_map OwnAs (new_asns old.sets.prepend new.sets.prepend)) (third_note line old new so_far) h);
}

-- where nothing is undefined and nothing is foreign, all is met

abbrev pub whole_of : RouterConfig → Whole
whole_of config = record { has_map = has_map config; has_prefix_list = has_prefix_list config; has_community_list = has_community_list config; is_own = is_own config }

not_false : (b : Bool) → not b ≡ false → b ≡ true
not_false true e = refl
not_false false e = cc

or_left : (a b : Bool) → (a || b) ≡ false → a ≡ false
or_left true b e = cc
or_left false b e = refl

or_right : (a b : Bool) → (a || b) ≡ false → b ≡ false
or_right true b e = cc
or_right false b e = e

all_own : (own : ℕ → Bool) (asns : List ℕ) → list_any (λ asn. not (own asn)) asns ≡ false → All (λ asn. own asn ≡ true) asns
all_own own [] h = All-nil (λ asn. own asn ≡ true)
all_own own (a ∷ more) h = All-cons (λ asn. own asn ≡ true) a more (not_false (own a) (or_left (not (own a)) (list_any (λ asn. not (own asn)) more) h)) (all_own own more (or_right (not (own a)) (list_any (λ asn. not (own asn)) more) h))

is_met : (config : RouterConfig) (what : Needed) → is_undefined config what ≡ false → is_foreign config what ≡ false → IsMet (whole_of config) what
is_met config (Map name) u f = not_false (has_map config name) u
is_met config (PrefixList name) u f = not_false (has_prefix_list config name) u
is_met config (CommunityList name) u f = not_false (has_community_list config name) u
is_met config (OwnAs asns) u f = all_own (is_own config) asns f

none_found : (test : Need → Bool) (all : List Need) → option_map (λ (n : Need). n.line) (find test all) ≡ None → All (λ n. test n ≡ false) all
none_found test [] h = All-nil (λ n. test n ≡ false)
none_found test (n ∷ more) h = go (test n) refl (λ k. none_found test more k) h where
  go : (b : Bool) → test n ≡ b → (option_map (λ (m : Need). m.line) (find test more) ≡ None → All (λ m. test m ≡ false) more) → option_map (λ (m : Need). m.line) (cond b (Some n) (find test more)) ≡ None → All (λ m. test m ≡ false) (n ∷ more)
  go true e i f = cc
  go false e i f = All-cons (λ m. test m ≡ false) n more e (i f)

pub all_met : (config : RouterConfig) (all : List Need) → first_undefined config all ≡ None → first_foreign config all ≡ None → AllMet (whole_of config) all
unfolding first_undefined first_foreign
all_met config all u f = λ k d l. is_met config _ (none_found (λ (n : Need). is_undefined config n.what) all u k d l) (none_found (λ (n : Need). is_foreign config n.what) all f k d l)

own_as : (config : RouterConfig) (bgp : Option BgpConfig) (asn : ℕ) → option_map_or (λ (b : BgpConfig). b.asn == asn) bgp false ≡ true → IsSomeAnd bgp (λ (b : BgpConfig). b.asn ≡ asn)
own_as config None asn h = cc
own_as config (Some b) asn h = grind (arith, nat_tests)

pub is_own_as : (config : RouterConfig) (asn : ℕ) → is_own config asn ≡ true → IsOwnAs config asn
is_own_as config asn h = own_as config config.bgp asn h

-- needs stand in the order of their lines

abbrev pub Rising : List Need → Type 0
Rising [] = Unit {0}
Rising (n ∷ later) = All (λ (m : Need). n.line ≤ m.line) later × Rising later

-- and none is of a line behind this one
pub record IsOrdered (bound : ℕ) (all : List Need) : Type 0 where
  pub rising : Rising all
  pub below : All (λ (n : Need). n.line ≤ bound) all

below_more : (m k : ℕ) → m ≤ k → (all : List Need) → All (λ (n : Need). n.line ≤ m) all → All (λ (n : Need). n.line ≤ k) all
below_more m k l all h = λ i d j. let g = h i d j in omega arith

pub ordered_more : (m k : ℕ) → m ≤ k → (all : List Need) → IsOrdered m all → IsOrdered k all
ordered_more m k l all h = record { rising = h.rising; below = below_more m k l all h.below }

rising_append : (all : List Need) (x : Need) → Rising all → All (λ (n : Need). n.line ≤ x.line) all → Rising (all ++ x ∷ [])
rising_append [] x r b = (All-nil (λ (m : Need). x.line ≤ m.line), tt)
rising_append (n ∷ later) x r b = (All-append (λ (m : Need). n.line ≤ m.line) later (x ∷ []) r.0 (All-cons (λ (m : Need). n.line ≤ m.line) x [] (All-head (λ (m : Need). m.line ≤ x.line) n later b) (All-nil (λ (m : Need). n.line ≤ m.line))), rising_append later x r.1 (All-tail (λ (m : Need). m.line ≤ x.line) n later b))

pub ordered_noted : (m line : ℕ) → m ≤ line → (o : Option Needed) (all : List Need) → IsOrdered m all → IsOrdered line (noted line o all)
ordered_noted m line l None all h = ordered_more m line l all h
ordered_noted m line l (Some what) all h =
    let x : Need = record { line = line; what = what } in
    let b = below_more m line l all h.below in
    record { rising = rising_append all x h.rising b; below = All-append (λ (n : Need). n.line ≤ line) all (x ∷ []) b (All-cons (λ (n : Need). n.line ≤ line) x [] (omega arith) (All-nil (λ (n : Need). n.line ≤ line))) }

pub ordered_change : (m line : ℕ) → m ≤ line → (old new : MapEntry) (all : List Need) → IsOrdered m all → IsOrdered line (noted_change line old new all)
ordered_change m line l old new all h =
    let a = ordered_noted m line l (option_map PrefixList (new_name old.prefixes new.prefixes)) all h in
    let b = ordered_noted line line (omega arith) (option_map CommunityList (new_name old.communities new.communities)) (first_note line old new all) a in
    let c = ordered_noted line line (omega arith) (option_map CommunityList (new_name old.sets.delete new.sets.delete)) (second_note line old new all) b in
    ordered_noted line line (omega arith) (option_map OwnAs (new_asns old.sets.prepend new.sets.prepend)) (third_note line old new all) c

-- so the first that passes is of the least line
found_line : (test : Needed → Bool) (n : Need) (later : List Need) (line : ℕ) → Some n.line ≡ Some line → test n.what ≡ true → Rising (n ∷ later) → IsLeastLine test (n ∷ later) line
found_line test n later line e t r =
    let f : n.line ≡ line = cc in
    record {
      need = n;
      among = Contains-append_left (n ∷ []) later n (Contains-push [] n);
      its = f;
      passes = t;
      least = All-cons (λ (m : Need). test m.what ≡ true → line ≤ m.line) n later (λ _. omega arith) (λ i d j _. let g = r.0 i d j in omega arith);
    }

pub least_line : (test : Needed → Bool) (all : List Need) (line : ℕ) → Rising all → option_map (λ (n : Need). n.line) (find (λ (n : Need). test n.what) all) ≡ Some line → IsLeastLine test all line
least_line test [] line r e = absurd (none_is_some e) where
  none_is_some : None ≡ Some line → ⊥
  none_is_some x = cc
least_line test (n ∷ later) line r e = go (test n.what) refl (λ f. least_line test later line r.1 f) e where
  go : (b : Bool) → test n.what ≡ b → (option_map (λ (m : Need). m.line) (find (λ (m : Need). test m.what) later) ≡ Some line → IsLeastLine test later line) → option_map (λ (m : Need). m.line) (cond b (Some n) (find (λ (m : Need). test m.what) later)) ≡ Some line → IsLeastLine test (n ∷ later) line
  go true t i f = found_line test n later line f t r
  go false t i f =
      let l = i f in
      record {
        need = l.need;
        among = Contains-append_right (n ∷ []) later l.need l.among;
        its = l.its;
        passes = l.passes;
        least = All-cons (λ (m : Need). test m.what ≡ true → line ≤ m.line) n later (λ x. absurd (true_is_false (sym x ∙ t))) l.least;
      } where
        true_is_false : true ≡ false → ⊥
        true_is_false x = cc

pub least_undefined : (config : RouterConfig) (all : List Need) (line : ℕ) → Rising all → first_undefined config all ≡ Some line → IsLeastLine (is_undefined config) all line
unfolding first_undefined
least_undefined config all line r e = least_line (is_undefined config) all line r e

pub least_foreign : (config : RouterConfig) (all : List Need) (line : ℕ) → Rising all → first_foreign config all ≡ Some line → IsLeastLine (is_foreign config) all line
unfolding first_foreign
least_foreign config all line r e = least_line (is_foreign config) all line r e
