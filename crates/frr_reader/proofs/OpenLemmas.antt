-- Wherever a line stands in a block, what the block is of is there.
use Rattle.std.proofs.Common.{ℕ, ◌≡◌, ◌⊎◌, ◌<◌, Bool, true, false, List, [], ◌∷◌, length, Option, Some, None, Err, IfSome, IfOk, IsSome, option_map, slice_get, slice_set, if◌then◌else◌, inl, inr, refl, sym, ◌∙◌, subst}
use Rattle.std.specs.Option.{option_map_or}
use Rattle.net_types.specs.Order.{same_text}
use Rattle.net_types.specs.declared.config.RouteMap.{RouteMap}
use Rattle.net_types.specs.declared.config.MapEntry.{MapEntry}
use Rattle.frr_policy.specs.Words.{words}
use Rattle.frr_reader.specs.declared.causes.Cause.TheVariants.{Unsupported, OutOfPlace}
use Rattle.frr_reader.specs.declared.modes.Mode.{Mode}
use Rattle.frr_reader.specs.declared.modes.Mode.TheVariants.{Top, InInterface, InBgp, InOspf, InMap, InFamily}
use Rattle.frr_reader.specs.Table.{FoundValue, FormValue, found_from, found_in, by_form, stands_in, behind, first_given, or_else, or_cause, is_known, modes_from, outer, table}
use Rattle.frr_reader.specs.State.{State, IsOpen}
use Rattle.frr_reader.specs.Entries.{put, place_for, with_map_entry, place_of_map, place_of_entry, entry_at, with_entry_at}
use Rattle.frr_reader.proofs.EntryLemmas.{put-there, on_first-there, set-there}

-- this mode is the other or round it: where its block is open, it was before
pub record StaysIn (mode m : Mode) : Type 0 where
  pub interface : m ≡ InInterface → mode ≡ InInterface
  pub ospf : m ≡ InOspf → mode ≡ InOspf
  pub bgp : m ≡ InBgp → (mode ≡ InBgp) ⊎ (mode ≡ InFamily)
  pub family : m ≡ InFamily → mode ≡ InFamily
  pub entry : m ≡ InMap → mode ≡ InMap

stays_there : (mode : Mode) → StaysIn mode mode
stays_there mode = record { interface = λ e. e; ospf = λ e. e; bgp = λ e. inl e; family = λ e. e; entry = λ e. e }

stays_top : (mode : Mode) → StaysIn mode Top
stays_top mode = record { interface = λ e. absurd (no_interface e); ospf = λ e. absurd (no_ospf e); bgp = λ e. absurd (no_bgp e); family = λ e. absurd (no_family e); entry = λ e. absurd (no_entry e) } where
  no_interface : Top ≡ InInterface → ⊥
  no_interface e = cc

  no_ospf : Top ≡ InOspf → ⊥
  no_ospf e = cc

  no_bgp : Top ≡ InBgp → ⊥
  no_bgp e = cc

  no_family : Top ≡ InFamily → ⊥
  no_family e = cc

  no_entry : Top ≡ InMap → ⊥
  no_entry e = cc

stays_bgp : StaysIn InFamily InBgp
stays_bgp = record { interface = λ e. absurd (no_interface e); ospf = λ e. absurd (no_ospf e); bgp = λ e. inr refl; family = λ e. refl; entry = λ e. absurd (no_entry e) } where
  no_interface : InBgp ≡ InInterface → ⊥
  no_interface e = cc

  no_ospf : InBgp ≡ InOspf → ⊥
  no_ospf e = cc

  no_entry : InBgp ≡ InMap → ⊥
  no_entry e = cc

-- all of these modes are so
abbrev EachStays : Mode → List Mode → Type 0
EachStays mode [] = Unit {0}
EachStays mode (m ∷ ms) = StaysIn mode m × EachStays mode ms

modes_stay : (mode : Mode) → EachStays mode (modes_from mode)
modes_stay Top = (stays_there Top, tt)
modes_stay InInterface = (stays_there InInterface, (stays_top InInterface, tt))
modes_stay InBgp = (stays_there InBgp, (stays_top InBgp, tt))
modes_stay InOspf = (stays_there InOspf, (stays_top InOspf, tt))
modes_stay InMap = (stays_there InMap, (stays_top InMap, tt))
modes_stay InFamily = (stays_there InFamily, (stays_bgp, (stays_top InFamily, tt)))

first_given_all : {A B : Type 0} (P : B → Type 0) (f : A → Option B) → ((x : A) → IfSome (f x) P) → (xs : List A) → IfSome (first_given f xs) P
first_given_all P f h [] = tt
first_given_all {A} {B} P f h (x ∷ xs) = go (f x) (h x) (first_given_all P f h xs) where
  go : (o : Option B) → IfSome o P → IfSome (first_given f xs) P → IfSome (or_else o (first_given f xs)) P
  go None i j = j
  go (Some y) i j = i

-- a line that is found in a mode is taken there
by_form-mode : (line : List (List ℕ)) (mode : Mode) (f : FormValue) → IfSome (by_form line mode f) (λ found. found.mode ≡ mode)
unfolding by_form
by_form-mode line mode f = go (stands_in f mode) (behind (words f.head) line) where
  go : (b : Bool) (o : Option (List (List ℕ))) → IfSome (if b then option_map (λ rest. record { mode = mode; row = f.row; rest = rest }) o else None) (λ (found : FoundValue). found.mode ≡ mode)
  go true None = tt
  go true (Some rest) = refl
  go false o = tt

found_in-mode : (line : List (List ℕ)) (mode : Mode) → IfSome (found_in line mode) (λ found. found.mode ≡ mode)
unfolding found_in
found_in-mode line mode = first_given_all (λ found. found.mode ≡ mode) (by_form line mode) (by_form-mode line mode) table

abbrev Stays : Mode → FoundValue → Type 0
Stays mode found = StaysIn mode found.mode

found_in-stays : (line : List (List ℕ)) (mode m : Mode) → StaysIn mode m → IfSome (found_in line m) (Stays mode)
found_in-stays line mode m k = go (found_in line m) (found_in-mode line m) where
  go : (o : Option FoundValue) → IfSome o (λ found. found.mode ≡ m) → IfSome o (Stays mode)
  go None h = tt
  go (Some found) h = subst (StaysIn mode) (sym h) k

outwards_stay : (line : List (List ℕ)) (mode : Mode) (ms : List Mode) → EachStays mode ms → IfSome (first_given (found_in line) ms) (Stays mode)
outwards_stay line mode [] k = tt
outwards_stay line mode (m ∷ ms) k = go (found_in line m) (found_in-stays line mode m k.0) (outwards_stay line mode ms k.1) where
  go : (o : Option FoundValue) → IfSome o (Stays mode) → IfSome (first_given (found_in line) ms) (Stays mode) → IfSome (or_else o (first_given (found_in line) ms)) (Stays mode)
  go None i j = j
  go (Some found) i j = i

or_cause_stays : (line : List (List ℕ)) (mode : Mode) (o : Option FoundValue) → IfSome o (Stays mode) → IfOk (or_cause line o) (Stays mode)
or_cause_stays line mode (Some found) h = h
or_cause_stays line mode None h = go (is_known line) where
  go : (b : Bool) → IfOk (if b then Err OutOfPlace else Err Unsupported) (Stays mode)
  go true = tt
  go false = tt

pub found_stays : (mode : Mode) (line : List (List ℕ)) → IfOk (found_from mode line) (λ found. StaysIn mode found.mode)
unfolding found_from
found_stays mode line = or_cause_stays line mode (first_given (found_in line) (modes_from mode)) (outwards_stay line mode (modes_from mode) (modes_stay mode))

-- so what is open stays there
pub opened_in : (s : State) (m : Mode) → IsOpen s → StaysIn s.mode m → IsOpen (record s { mode = m })
opened_in s m h k = record {
  interface = λ e. h.interface (k.interface e);
  ospf = λ e. h.ospf (k.ospf e);
  bgp = λ e. either (k.bgp e);
  family = λ e. h.family (k.family e);
  entry = λ e. h.entry (k.entry e);
} where
  either : (s.mode ≡ InBgp) ⊎ (s.mode ≡ InFamily) → IsSome s.bgp
  either (inl f) = h.bgp f
  either (inr f) = h.family f

outer_stays : (mode : Mode) → StaysIn mode (outer mode)
outer_stays Top = stays_there Top
outer_stays InInterface = stays_top InInterface
outer_stays InBgp = stays_top InBgp
outer_stays InOspf = stays_top InOspf
outer_stays InMap = stays_top InMap
outer_stays InFamily = stays_bgp

pub opened_outer : (s : State) → IsOpen s → IsOpen (record s { mode = outer s.mode })
opened_outer s h = opened_in s (outer s.mode) h (outer_stays s.mode)

pub opened_top : (s : State) → IsOpen s → IsOpen (record s { mode = Top })
opened_top s h = opened_in s Top h (stays_top s.mode)

-- only an interface, only OSPF, only BGP, only its family and only an entry has to be there in its mode
pub in_interface : (s : State) → s.mode ≡ InInterface → s.open_place < length s.interfaces → IsOpen s
in_interface s m h = record { interface = λ _. h; ospf = λ e. absurd (no_ospf (sym m ∙ e)); bgp = λ e. absurd (no_bgp (sym m ∙ e)); family = λ e. absurd (no_family (sym m ∙ e)); entry = λ e. absurd (no_entry (sym m ∙ e)) } where
  no_ospf : InInterface ≡ InOspf → ⊥
  no_ospf e = cc

  no_bgp : InInterface ≡ InBgp → ⊥
  no_bgp e = cc

  no_family : InInterface ≡ InFamily → ⊥
  no_family e = cc

  no_entry : InInterface ≡ InMap → ⊥
  no_entry e = cc

pub in_ospf : (s : State) → s.mode ≡ InOspf → IsSome s.ospf → IsOpen s
in_ospf s m h = record { interface = λ e. absurd (no_interface (sym m ∙ e)); ospf = λ _. h; bgp = λ e. absurd (no_bgp (sym m ∙ e)); family = λ e. absurd (no_family (sym m ∙ e)); entry = λ e. absurd (no_entry (sym m ∙ e)) } where
  no_interface : InOspf ≡ InInterface → ⊥
  no_interface e = cc

  no_bgp : InOspf ≡ InBgp → ⊥
  no_bgp e = cc

  no_family : InOspf ≡ InFamily → ⊥
  no_family e = cc

  no_entry : InOspf ≡ InMap → ⊥
  no_entry e = cc

pub in_bgp : (s : State) → s.mode ≡ InBgp → IsSome s.bgp → IsOpen s
in_bgp s m h = record { interface = λ e. absurd (no_interface (sym m ∙ e)); ospf = λ e. absurd (no_ospf (sym m ∙ e)); bgp = λ _. h; family = λ _. h; entry = λ e. absurd (no_entry (sym m ∙ e)) } where
  no_interface : InBgp ≡ InInterface → ⊥
  no_interface e = cc

  no_ospf : InBgp ≡ InOspf → ⊥
  no_ospf e = cc

  no_entry : InBgp ≡ InMap → ⊥
  no_entry e = cc

pub in_family : (s : State) → s.mode ≡ InFamily → IsSome s.bgp → IsOpen s
in_family s m h = record { interface = λ e. absurd (no_interface (sym m ∙ e)); ospf = λ e. absurd (no_ospf (sym m ∙ e)); bgp = λ _. h; family = λ _. h; entry = λ e. absurd (no_entry (sym m ∙ e)) } where
  no_interface : InFamily ≡ InInterface → ⊥
  no_interface e = cc

  no_ospf : InFamily ≡ InOspf → ⊥
  no_ospf e = cc

  no_entry : InFamily ≡ InMap → ⊥
  no_entry e = cc

pub in_map : (s : State) → s.mode ≡ InMap → IsSome (entry_at s.open_map s.open_entry s.maps) → IsOpen s
in_map s m h = record { interface = λ e. absurd (no_interface (sym m ∙ e)); ospf = λ e. absurd (no_ospf (sym m ∙ e)); bgp = λ e. absurd (no_bgp (sym m ∙ e)); family = λ e. absurd (no_family (sym m ∙ e)); entry = λ _. h } where
  no_interface : InMap ≡ InInterface → ⊥
  no_interface e = cc

  no_ospf : InMap ≡ InOspf → ⊥
  no_ospf e = cc

  no_bgp : InMap ≡ InBgp → ⊥
  no_bgp e = cc

  no_family : InMap ≡ InFamily → ⊥
  no_family e = cc

-- the new entry of a map is open
pub begun_there : (name : List ℕ) (entry : MapEntry) (maps : List RouteMap) → entry_at (place_of_map name maps) (place_of_entry name entry.seq maps) (with_map_entry name entry maps) ≡ Some entry
begun_there name entry maps = go (slice_get maps (place_of_map name maps)) (on_first-there test change new maps) where
  test : RouteMap → Bool
  test m = same_text m.name name

  change : RouteMap → RouteMap
  change m = record m { entries = put (λ (e : MapEntry). e.seq) entry m.entries }

  new : RouteMap
  new = record { name = name; entries = entry ∷ [] }

  go : (o : Option RouteMap) → slice_get (with_map_entry name entry maps) (place_of_map name maps) ≡ Some (option_map_or change o new) → slice_get (option_map_or (λ (m : RouteMap). m.entries) (slice_get (with_map_entry name entry maps) (place_of_map name maps)) []) (place_for (λ (e : MapEntry). e.seq) entry.seq (option_map_or (λ (m : RouteMap). m.entries) o [])) ≡ Some entry
  go None e = rw e refl
  go (Some m) e = rw e (put-there (λ (x : MapEntry). x.seq) entry m.entries)

-- a changed entry is there still
pub changed_there : (map place : ℕ) (entry : MapEntry) (maps : List RouteMap) → IsSome (entry_at map place maps) → IsSome (entry_at map place (with_entry_at map place entry maps))
changed_there map place entry maps h = go (slice_get maps map) refl h where
  inner : (m : RouteMap) → slice_get maps map ≡ Some m → (o : Option MapEntry) → slice_get m.entries place ≡ o → IsSome o → IsSome (slice_get (option_map_or (λ (x : RouteMap). x.entries) (slice_get (slice_set maps map (record m { entries = slice_set m.entries place entry })) map) []) place)
  inner m e None f k = absurd (let g : false ≡ true = k in cc)
  inner m e (Some old) f k = rw (set-there maps map (record m { entries = slice_set m.entries place entry }) m e, set-there m.entries place entry old f) refl

  go : (o : Option RouteMap) → slice_get maps map ≡ o → IsSome (slice_get (option_map_or (λ (x : RouteMap). x.entries) o []) place) → IsSome (slice_get (option_map_or (λ (x : RouteMap). x.entries) (slice_get (option_map_or (λ (x : RouteMap). slice_set maps map (record x { entries = slice_set x.entries place entry })) o maps) map) []) place)
  go None e k = absurd (let g : false ≡ true = k in cc)
  go (Some m) e k = inner m e (slice_get m.entries place) refl k
