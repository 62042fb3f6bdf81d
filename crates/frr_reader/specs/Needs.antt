-- What lines need of the whole file: that it defines the maps and lists that they name, and that the AS
-- numbers that they prepend are its own.
use Rattle.std.specs.Prelude.{ℕ, Bool, false, ◌==◌, not, List, [], ◌∷◌, ◌++◌, Option, Some, None, find, option_map, if◌then◌else◌}
use Rattle.std.specs.Option.{option_map_or}
use Rattle.std.specs.List.{list_any}
use Rattle.net_types.specs.Order.{same_text}
use Rattle.net_types.specs.ConfigFacts.{has_prefix_list, has_community_list, has_map}
use Rattle.net_types.specs.declared.config.RouterConfig.{RouterConfig}
use Rattle.net_types.specs.declared.config.BgpConfig.{BgpConfig}
use Rattle.net_types.specs.declared.config.MapEntry.{MapEntry}
use Rattle.frr_reader.specs.declared.needs.Needed.{Needed}
use Rattle.frr_reader.specs.declared.needs.Needed.TheVariants.{Map, PrefixList, CommunityList, OwnAs}
use Rattle.frr_reader.specs.declared.needs.Need.{Need}

-- a name that an entry did not have before
abbrev pub new_name : Option (List ℕ) → Option (List ℕ) → Option (List ℕ)
new_name old None = None
new_name None (Some name) = Some name
new_name (Some old) (Some name) = if same_text old name then None else Some name

-- AS numbers that an entry did not prepend before; the test is whether two lists of numbers are the same
abbrev pub new_asns : List ℕ → List ℕ → Option (List ℕ)
new_asns old asns = if same_text old asns then None else Some asns

-- the needs with one more, of this line
abbrev pub noted : ℕ → Option Needed → List Need → List Need
noted line None so_far = so_far
noted line (Some what) so_far = so_far ++ record { line = line; what = what } ∷ []

-- the needs of a line that makes the one entry of the other: it names the lists and prepends the AS numbers
-- that the entry did not have before
abbrev pub noted_change : ℕ → MapEntry → MapEntry → List Need → List Need
noted_change line old new so_far =
    noted line (option_map OwnAs (new_asns old.sets.prepend new.sets.prepend))
    (noted line (option_map CommunityList (new_name old.sets.delete new.sets.delete))
    (noted line (option_map CommunityList (new_name old.communities new.communities))
    (noted line (option_map PrefixList (new_name old.prefixes new.prefixes)) so_far)))

-- the AS number is the file's own; without `router bgp` none is
abbrev pub is_own : RouterConfig → ℕ → Bool
is_own config asn = option_map_or (λ (bgp : BgpConfig). bgp.asn == asn) config.bgp false

-- a map or a list is named that the file does not define
abbrev pub is_undefined : RouterConfig → Needed → Bool
is_undefined config (Map name) = not (has_map config name)
is_undefined config (PrefixList name) = not (has_prefix_list config name)
is_undefined config (CommunityList name) = not (has_community_list config name)
is_undefined config (OwnAs asns) = false

-- an AS number is prepended that is not the file's own
abbrev pub is_foreign : RouterConfig → Needed → Bool
is_foreign config (Map name) = false
is_foreign config (PrefixList name) = false
is_foreign config (CommunityList name) = false
is_foreign config (OwnAs asns) = list_any (λ asn. not (is_own config asn)) asns

-- the line of the first need that passes; needs stand in the order of their lines, so it is the least
unfoldable pub first_undefined : RouterConfig → List Need → Option ℕ
first_undefined config all = option_map (λ (n : Need). n.line) (find (λ (n : Need). is_undefined config n.what) all)

unfoldable pub first_foreign : RouterConfig → List Need → Option ℕ
first_foreign config all = option_map (λ (n : Need). n.line) (find (λ (n : Need). is_foreign config n.what) all)
