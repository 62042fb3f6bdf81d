-- The rows of route maps by name, as the code finds them: word by word.
use Rattle.std.specs.Prelude.{ℕ, List, [], ◌∷◌, codes, Option, Some, None, Result, Err, if◌then◌else◌}
use Rattle.net_types.specs.declared.config.RouteMap.{RouteMap}
use Rattle.net_types.specs.declared.config.MapEntry.{MapEntry}
use Rattle.net_types.specs.Order.{same_text}
use Rattle.frr_policy.specs.declared.refusals.LineRefusal.{LineRefusal}
use Rattle.frr_policy.specs.declared.refusals.LineRefusal.TheVariants.{Unsupported}
use Rattle.frr_policy.specs.declared.map_steps.MapStep.{MapStep}
use Rattle.frr_policy.specs.declared.map_steps.Setting.{Setting}
use Rattle.frr_policy.specs.declared.map_steps.Setting.TheVariants.{MatchCommunity, MatchPrefixList, SetPreference, SetMetric, SetWeight, SetOrigin, SetCommunities, DeleteCommunities, Prepend}
use Rattle.frr_policy.specs.declared.map_steps.MapRow.{MapRow}
use Rattle.frr_policy.specs.declared.map_steps.MapRow.TheVariants.{Begins, Changes}
use Rattle.frr_policy.specs.MapRows.{match_community, match_prefix_list, set_preference, set_metric, set_weight, set_origin, set_community, set_comm_list, set_prepend}
use Rattle.frr_policy.specs.MapLines.{begins, changes, behind}

-- what a row of the block makes of the entry
abbrev pub change_of : Setting → List (List ℕ) → MapEntry → Result MapEntry LineRefusal
change_of MatchCommunity = match_community
change_of MatchPrefixList = match_prefix_list
change_of SetPreference = set_preference
change_of SetMetric = set_metric
change_of SetWeight = set_weight
change_of SetOrigin = set_origin
change_of SetCommunities = set_community
change_of DeleteCommunities = set_comm_list
change_of Prepend = set_prepend

abbrev pub effect_of : MapRow → List (List ℕ) → List RouteMap → Option MapEntry → Result MapStep LineRefusal
effect_of Begins = begins
effect_of (Changes setting) = changes (change_of setting)

-- a row's head, or what is left of it, and the row
pub record Place : Type 0 where
  pub head : List (List ℕ)
  pub row : MapRow

abbrev pub place : List (List ℕ) → MapRow → Place
place head row = record { head = head; row = row }

-- behind `match`
abbrev pub match_places : List Place
match_places =
    place (codes "community" ∷ []) (Changes MatchCommunity) ∷
    place (codes "ip" ∷ codes "address" ∷ codes "prefix-list" ∷ []) (Changes MatchPrefixList) ∷
    []

-- behind `set`
abbrev pub set_places : List Place
set_places =
    place (codes "local-preference" ∷ []) (Changes SetPreference) ∷
    place (codes "metric" ∷ []) (Changes SetMetric) ∷
    place (codes "weight" ∷ []) (Changes SetWeight) ∷
    place (codes "origin" ∷ []) (Changes SetOrigin) ∷
    place (codes "community" ∷ []) (Changes SetCommunities) ∷
    place (codes "comm-list" ∷ []) (Changes DeleteCommunities) ∷
    place (codes "as-path" ∷ codes "prepend" ∷ []) (Changes Prepend) ∷
    []

abbrev pub found_at : MapRow → Option (List (List ℕ)) → Option (MapRow × List (List ℕ)) → Option (MapRow × List (List ℕ))
found_at row (Some rest) other = Some (row, rest)
found_at row None other = other

-- the row whose head the words begin with, and the words behind it
abbrev pub found : List Place → List (List ℕ) → Option (MapRow × List (List ℕ))
found [] line = None
found (p ∷ places) line = found_at p.row (behind p.head line) (found places line)

unfoldable pub found_match : List (List ℕ) → Option (MapRow × List (List ℕ))
found_match line = found match_places line

unfoldable pub found_set : List (List ℕ) → Option (MapRow × List (List ℕ))
found_set line = found set_places line

-- the row of a line, by its first word and those behind it
unfoldable pub found_row : List (List ℕ) → Option (MapRow × List (List ℕ))
found_row [] = None
found_row (word ∷ more) =
    if same_text (codes "route-map") word then Some (Begins, more) else
    (if same_text (codes "match") word then found_match more else
    (if same_text (codes "set") word then found_set more else None))

-- a line by the row that is found
abbrev pub by_found : Option (MapRow × List (List ℕ)) → List RouteMap → Option MapEntry → Result MapStep LineRefusal
by_found None maps current = Err Unsupported
by_found (Some f) maps current = effect_of f.0 f.1 maps current
