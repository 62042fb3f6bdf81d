-- The lines of route maps, by the line table.
use Rattle.std.specs.Prelude.{ℕ, ◌≡◌, IsSomeAnd, Bool, List, [], ◌∷◌, codes, map, find, Option, Some, None, Result, Ok, Err, if◌then◌else◌}
use Rattle.std.specs.Option.{option_map_or}
use Rattle.net_types.specs.declared.config.RouteMap.{RouteMap}
use Rattle.net_types.specs.declared.config.MapEntry.{MapEntry}
use Rattle.net_types.specs.declared.config.Sets.{Sets}
use Rattle.net_types.specs.declared.config.SetCommunity.TheVariants.{Keep}
use Rattle.net_types.specs.Order.{same_text}
use Rattle.frr_policy.specs.declared.refusals.LineRefusal.{LineRefusal}
use Rattle.frr_policy.specs.declared.refusals.LineRefusal.TheVariants.{Unsupported, OutOfPlace}
use Rattle.frr_policy.specs.declared.map_steps.MapStep.{MapStep}
use Rattle.frr_policy.specs.declared.map_steps.MapStep.TheVariants.{Begin, Change}
use Rattle.frr_policy.specs.Values.{name_of, action_of, map_number_of}
use Rattle.frr_policy.specs.Grammar.{first, and_then, if_alone}
use Rattle.frr_policy.specs.Answers.{or_bad_value, then_answer}
use Rattle.frr_policy.specs.Lists.{HasRoom, if_free}
use Rattle.frr_policy.specs.MapRows.{FitsEntry, match_community, match_prefix_list, set_preference, set_metric, set_weight, set_origin, set_community, set_comm_list, set_prepend}

-- what a line that begins an entry says
pub record HeadingValue : Type 0 where
  pub name : List ℕ
  pub permit : Bool
  pub seq : ℕ

-- the words behind `route-map`: NAME, ACT, NUM 1 to 65535
abbrev pub heading_of : List (List ℕ) → Option HeadingValue
heading_of words =
    and_then (first name_of words) (λ name behind_name.
    and_then (first action_of behind_name) (λ permit behind_action.
    and_then (first map_number_of behind_action) (λ seq behind.
    if_alone (record { name = name; permit = permit; seq = seq }) behind)))

-- nothing is changed
abbrev pub no_sets : Sets
no_sets = record { weight = None; preference = None; med = None; origin = None; «delete» = None; community = Keep; prepend = [] }

-- an entry that matches every route
abbrev pub new_entry : Bool → ℕ → MapEntry
new_entry permit seq = record { seq = seq; permit = permit; prefixes = None; communities = None; sets = no_sets }

-- the entries of the map of this name; none where there is no such map
abbrev pub map_entries : List ℕ → List RouteMap → List MapEntry
map_entries name maps =
    option_map_or (λ (m : RouteMap). m.entries) (find (λ (m : RouteMap). same_text m.name name) maps) []

-- their sequence numbers
abbrev pub map_numbers : List ℕ → List RouteMap → List ℕ
map_numbers name maps = map (λ (e : MapEntry). e.seq) (map_entries name maps)

unfoldable pub added_map_entry : List RouteMap → HeadingValue → Result MapStep LineRefusal
added_map_entry maps h =
    then_answer (if_free (map_numbers h.name maps) h.seq) (λ number. Ok (Begin h.name (new_entry h.permit number)))

-- `route-map`: begins an entry of the map of the name
unfoldable pub begins : List (List ℕ) → List RouteMap → Option MapEntry → Result MapStep LineRefusal
begins rest maps current = then_answer (or_bad_value (heading_of rest)) (added_map_entry maps)

-- a line of a map's block: changes the entry that is open; outside of a block there is none
abbrev pub changes : (List (List ℕ) → MapEntry → Result MapEntry LineRefusal) → List (List ℕ) → List RouteMap → Option MapEntry →
    Result MapStep LineRefusal
changes change rest maps None = Err OutOfPlace
changes change rest maps (Some entry) = then_answer (change rest entry) (λ e. Ok (Change e))

-- a row of the line table: the words of its head, and what the words behind them do, given the maps so
-- far and the entry whose block is open, if there is one
pub record LineRow : Type 0 where
  pub head : List (List ℕ)
  pub effect : List (List ℕ) → List RouteMap → Option MapEntry → Result MapStep LineRefusal

abbrev pub row : List (List ℕ) → (List (List ℕ) → List RouteMap → Option MapEntry → Result MapStep LineRefusal) → LineRow
row head effect = record { head = head; effect = effect }

-- the rows of the line table for route maps
abbrev pub map_table : List LineRow
map_table =
    row (codes "route-map" ∷ []) begins ∷
    row (codes "match" ∷ codes "community" ∷ []) (changes match_community) ∷
    row (codes "match" ∷ codes "ip" ∷ codes "address" ∷ codes "prefix-list" ∷ []) (changes match_prefix_list) ∷
    row (codes "set" ∷ codes "local-preference" ∷ []) (changes set_preference) ∷
    row (codes "set" ∷ codes "metric" ∷ []) (changes set_metric) ∷
    row (codes "set" ∷ codes "weight" ∷ []) (changes set_weight) ∷
    row (codes "set" ∷ codes "origin" ∷ []) (changes set_origin) ∷
    row (codes "set" ∷ codes "community" ∷ []) (changes set_community) ∷
    row (codes "set" ∷ codes "comm-list" ∷ []) (changes set_comm_list) ∷
    row (codes "set" ∷ codes "as-path" ∷ codes "prepend" ∷ []) (changes set_prepend) ∷
    []

-- the words behind the head, where a line begins with it
abbrev pub behind : List (List ℕ) → List (List ℕ) → Option (List (List ℕ))
behind [] line = Some line
behind (wanted ∷ head) [] = None
behind (wanted ∷ head) (word ∷ line) = if same_text wanted word then behind head line else None

abbrev pub by_head : LineRow → Option (List (List ℕ)) → List RouteMap → Option MapEntry → Result MapStep LineRefusal →
    Result MapStep LineRefusal
by_head r (Some rest) maps current other = r.effect rest maps current
by_head r None maps current other = other

-- a line by the row whose head it has; a line with the head of none of the rows is not supported
abbrev pub by_table : List LineRow → List (List ℕ) → List RouteMap → Option MapEntry → Result MapStep LineRefusal
by_table [] line maps current = Err Unsupported
by_table (r ∷ rows) line maps current = by_head r (behind r.head line) maps current (by_table rows line maps current)

-- what a line of a route map does
unfoldable pub map_line : List (List ℕ) → List RouteMap → Option MapEntry → Result MapStep LineRefusal
map_line line maps current = by_table map_table line maps current

-- the entry of a step is in its ranges
abbrev pub FitsStep : MapStep → Type 0
FitsStep (Begin name entry) = FitsEntry entry
FitsStep (Change entry) = FitsEntry entry

-- where the entry of a step stands: a new one has a number that its map has room for, and a changed one
-- keeps its number
abbrev pub HasPlace : List RouteMap → Option MapEntry → MapStep → Type 0
HasPlace maps current (Begin name entry) = HasRoom (map_numbers name maps) entry.seq
HasPlace maps current (Change entry) = IsSomeAnd current (λ (c : MapEntry). entry.seq ≡ c.seq)
