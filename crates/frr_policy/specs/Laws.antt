-- What is true of the numbers of entries and of refusals, said without the steps that give them.
use Rattle.std.specs.Prelude.{ℕ, ◌≡◌, ◌<◌, ◌≤◌, ◌%◌, ◌^◌, ◌↔◌, All, Contains, List, [], ◌∷◌, codes, length, Option, None, Ok, Err}
use Rattle.net_types.specs.declared.config.PrefixList.{PrefixList}
use Rattle.net_types.specs.declared.config.CommunityList.{CommunityList}
use Rattle.net_types.specs.declared.config.RouteMap.{RouteMap}
use Rattle.net_types.specs.declared.config.MapEntry.{MapEntry}
use Rattle.frr_policy.specs.declared.refusals.LineRefusal.{LineRefusal}
use Rattle.frr_policy.specs.declared.refusals.LineRefusal.TheVariants.{Unsupported, OutOfPlace, BadValue, Repeated, OutOfLimit, NoMemory}
use Rattle.frr_policy.specs.Lists.{number_of, if_free}
use Rattle.frr_policy.specs.PrefixLines.{prefix_list_row}
use Rattle.frr_policy.specs.CommunityLines.{community_list_row}
use Rattle.frr_policy.specs.MapLines.{LineRow, map_table, behind, map_line}

-- the least multiple of 5 above 0 and above each of the numbers
pub record IsNext (taken : List ℕ) (number : ℕ) : Type 0 where
  pub positive : 0 < number
  pub multiple : number % 5 ≡ 0
  pub above : All (λ n. n < number) taken
  pub least : (m : ℕ) → 0 < m → m % 5 ≡ 0 → All (λ n. n < m) taken → number ≤ m

-- an entry without a written number gets the next one, and is refused as a bad value where that passes 32 bits
pub record IsNumbered (taken : List ℕ) : Type 0 where
  pub next : (n : ℕ) → number_of None taken ≡ Ok n → IsNext taken n × (n < 2 ^ 32)
  pub refused : (refusal : LineRefusal) → number_of None taken ≡ Err refusal → (refusal ≡ BadValue) ×
      ((n : ℕ) → IsNext taken n → 2 ^ 32 ≤ n)

-- an entry of this number is added unless the number is there, which is told first, or 64 entries are
pub record IsAdded (taken : List ℕ) (number : ℕ) : Type 0 where
  pub repeated : (if_free taken number ≡ Err Repeated) ↔ Contains taken number
  pub full : (if_free taken number ≡ Err OutOfLimit) ↔ ((Contains taken number → ⊥) × (64 ≤ length taken))
  pub added : (if_free taken number ≡ Ok number) ↔ ((Contains taken number → ⊥) × (length taken < 64))

abbrev pub EachIsNumbered : Type 0
EachIsNumbered = (taken : List ℕ) → IsNumbered taken

abbrev pub EachIsAdded : Type 0
EachIsAdded = (taken : List ℕ) (number : ℕ) → IsAdded taken number

-- a cause that lies in what stands behind a row's head: not in the head, nor in the place of the line, nor in
-- want of memory
abbrev pub IsOfRest : LineRefusal → Type 0
IsOfRest Unsupported = ⊥
IsOfRest OutOfPlace = ⊥
IsOfRest BadValue = Unit {0}
IsOfRest Repeated = Unit {0}
IsOfRest OutOfLimit = Unit {0}
IsOfRest NoMemory = ⊥

-- a line of a list is refused for what stands behind its head
abbrev pub ListsRefuseForTheRest : Type 0
ListsRefuseForTheRest =
    ((rest : List (List ℕ)) (lists : List PrefixList) (refusal : LineRefusal) → prefix_list_row rest lists ≡ Err refusal →
    IsOfRest refusal) ×
    ((rest : List (List ℕ)) (lists : List CommunityList) (refusal : LineRefusal) → community_list_row rest lists ≡ Err refusal →
    IsOfRest refusal)

-- the line has the head of none of the rows
abbrev pub HasNoHead : List LineRow → List (List ℕ) → Type 0
HasNoHead rows line = All (λ (r : LineRow). behind r.head line ≡ None) rows

-- the head of the row that begins an entry
abbrev pub begins_head : List (List ℕ)
begins_head = codes "route-map" ∷ []

-- a line of a map is not supported exactly where it has the head of no row; it is out of place exactly where
-- it has the head of a row of the block and no entry is open; and want of memory is never meant
pub record IsRefusedMapLine (line : List (List ℕ)) (maps : List RouteMap) (current : Option MapEntry) : Type 0 where
  pub unsupported : (map_line line maps current ≡ Err Unsupported) ↔ HasNoHead map_table line
  pub out_of_place : (map_line line maps current ≡ Err OutOfPlace) ↔
      ((current ≡ None) × ((behind begins_head line ≡ None) × (HasNoHead map_table line → ⊥)))
  pub memory : map_line line maps current ≡ Err NoMemory → ⊥

abbrev pub EachIsRefusedMapLine : Type 0
EachIsRefusedMapLine = (line : List (List ℕ)) (maps : List RouteMap) (current : Option MapEntry) → IsRefusedMapLine line maps current
