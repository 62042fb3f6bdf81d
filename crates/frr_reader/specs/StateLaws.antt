-- What is true of the state behind a line: what is open is what the line names, and the other
-- interfaces and entries of maps are as they were.
use Rattle.std.specs.Prelude.{ℕ, ◌≡◌, ◌≢◌, IsSomeAnd, List, ◌∷◌, Some, Ok, slice_get}
use Rattle.std.specs.List.Sorted.{IsPermutation}
use Rattle.net_types.specs.declared.config.Interface.{Interface}
use Rattle.net_types.specs.declared.config.PrefixEntry.{PrefixEntry}
use Rattle.net_types.specs.declared.config.CommunityEntry.{CommunityEntry}
use Rattle.net_types.specs.declared.config.MapEntry.{MapEntry}
use Rattle.frr_policy.specs.Values.{name_of}
use Rattle.frr_reader.specs.Values.{one}
use Rattle.frr_reader.specs.State.{State}
use Rattle.frr_reader.specs.Entries.{put, entries_at, entry_at}
use Rattle.frr_reader.specs.Effects.{with_open, interface_line, open_entry, with_begun, with_changed}

-- the interface of this name is open, and each that was there is as it was
pub record OpensInterface (name : List ℕ) (s t : State) : Type 0 where
  pub named : IsSomeAnd (slice_get t.interfaces t.open_place) (λ (i : Interface). i.name ≡ name)
  pub kept : (place : ℕ) (i : Interface) → slice_get s.interfaces place ≡ Some i → slice_get t.interfaces place ≡ Some i

abbrev pub OpensTheNamedInterface : Type 0
OpensTheNamedInterface =
    (rest : List (List ℕ)) (name : List ℕ) (s t : State) → one name_of rest ≡ Some name →
    interface_line rest s ≡ Ok t → OpensInterface name s t

-- the open interface is now this, and each other is as it was
pub record ChangesInterface (new : Interface) (s : State) : Type 0 where
  pub there : slice_get (with_open s new).interfaces s.open_place ≡ Some new
  pub others : (place : ℕ) → place ≢ s.open_place → slice_get (with_open s new).interfaces place ≡ slice_get s.interfaces place

abbrev pub ChangesTheOpenInterface : Type 0
ChangesTheOpenInterface = (old new : Interface) (s : State) → slice_get s.interfaces s.open_place ≡ Some old → ChangesInterface new s

-- an entry that is put beside others loses none of them
pub record LosesNoEntry : Type 0 where
  pub prefixes : (e : PrefixEntry) (es : List PrefixEntry) → IsPermutation (e ∷ es) (put (λ (x : PrefixEntry). x.seq) e es)
  pub communities : (e : CommunityEntry) (es : List CommunityEntry) → IsPermutation (e ∷ es) (put (λ (x : CommunityEntry). x.seq) e es)
  pub maps : (e : MapEntry) (es : List MapEntry) → IsPermutation (e ∷ es) (put (λ (x : MapEntry). x.seq) e es)

-- the entry that a line begins is the one that is open behind it
abbrev pub OpensWhatItBegins : Type 0
OpensWhatItBegins = (name : List ℕ) (entry : MapEntry) (s : State) → open_entry (with_begun name entry s) ≡ Some entry

-- the open entry is now this, each other entry of its map is as it was, and so is each other map
pub record ChangesEntry (new : MapEntry) (s : State) : Type 0 where
  pub there : open_entry (with_changed new s) ≡ Some new
  pub others : (place : ℕ) → place ≢ s.open_entry → entry_at s.open_map place (with_changed new s).maps ≡ entry_at s.open_map place s.maps
  pub other_maps : (map : ℕ) → map ≢ s.open_map → entries_at map (with_changed new s).maps ≡ entries_at map s.maps

abbrev pub ChangesTheOpenEntry : Type 0
ChangesTheOpenEntry = (old new : MapEntry) (s : State) → open_entry s ≡ Some old → ChangesEntry new s
