-- Entries of prefix lists, community lists and route maps, in ascending sequence; lists and maps stand in
-- the order in which their names first come.
use Rattle.std.specs.Prelude.{ℕ, Bool, nat_lt, List, [], ◌∷◌, cond, insert, Option, slice_get, slice_set}
use Rattle.std.specs.Option.{option_map_or}
use Rattle.std.specs.List.{position_or_len}
use Rattle.net_types.specs.Order.{same_text}
use Rattle.net_types.specs.declared.config.PrefixList.{PrefixList}
use Rattle.net_types.specs.declared.config.PrefixEntry.{PrefixEntry}
use Rattle.net_types.specs.declared.config.CommunityList.{CommunityList}
use Rattle.net_types.specs.declared.config.CommunityEntry.{CommunityEntry}
use Rattle.net_types.specs.declared.config.RouteMap.{RouteMap}
use Rattle.net_types.specs.declared.config.MapEntry.{MapEntry}

-- the place of an entry with this number: before the first with a greater one
abbrev pub place_for : {A : Type 0} → (A → ℕ) → ℕ → List A → ℕ
place_for seq number entries = position_or_len (λ e. nat_lt number (seq e)) entries

-- an entry put at its place
abbrev pub put : {A : Type 0} → (A → ℕ) → A → List A → List A
put seq entry entries = insert entries (place_for seq (seq entry) entries) entry

-- the first item that passes is changed; where none passes, a new one stands at the end
abbrev pub on_first : {A : Type 0} → (A → Bool) → (A → A) → A → List A → List A
on_first test change new [] = new ∷ []
on_first test change new (x ∷ xs) = cond (test x) (change x ∷ xs) (x ∷ on_first test change new xs)

-- the prefix lists with one entry more
abbrev pub with_prefix_entry : List ℕ → PrefixEntry → List PrefixList → List PrefixList
with_prefix_entry name entry lists =
    on_first (λ (l : PrefixList). same_text l.name name)
    (λ l. record l { entries = put (λ (e : PrefixEntry). e.seq) entry l.entries }) (record { name = name; entries = entry ∷ [] }) lists

-- the community lists with one entry more
abbrev pub with_community_entry : List ℕ → CommunityEntry → List CommunityList → List CommunityList
with_community_entry name entry lists =
    on_first (λ (l : CommunityList). same_text l.name name)
    (λ l. record l { entries = put (λ (e : CommunityEntry). e.seq) entry l.entries }) (record { name = name; entries = entry ∷ [] }) lists

-- the route maps with one entry more
abbrev pub with_map_entry : List ℕ → MapEntry → List RouteMap → List RouteMap
with_map_entry name entry maps =
    on_first (λ (m : RouteMap). same_text m.name name)
    (λ m. record m { entries = put (λ (e : MapEntry). e.seq) entry m.entries }) (record { name = name; entries = entry ∷ [] }) maps

-- the place of the map of this name, or how many there are
abbrev pub place_of_map : List ℕ → List RouteMap → ℕ
place_of_map name maps = position_or_len (λ (m : RouteMap). same_text m.name name) maps

-- the entries of the map at this place; none where there is no map
abbrev pub entries_at : ℕ → List RouteMap → List MapEntry
entries_at place maps = option_map_or (λ (m : RouteMap). m.entries) (slice_get maps place) []

-- the place among its map's entries of a new entry with this number
abbrev pub place_of_entry : List ℕ → ℕ → List RouteMap → ℕ
place_of_entry name number maps = place_for (λ (e : MapEntry). e.seq) number (entries_at (place_of_map name maps) maps)

-- the entry at this place of the map at this place, if there is one
abbrev pub entry_at : ℕ → ℕ → List RouteMap → Option MapEntry
entry_at map place maps = slice_get (entries_at map maps) place

-- the maps with this entry at that place
abbrev pub with_entry_at : ℕ → ℕ → MapEntry → List RouteMap → List RouteMap
with_entry_at map place entry maps =
    option_map_or (λ (m : RouteMap). slice_set maps map (record m { entries = slice_set m.entries place entry })) (slice_get maps map) maps
