-- The lines of community lists.
use Rattle.std.specs.Prelude.{ℕ, List, [], ◌∷◌, codes, map, find, Option, None, Result, Ok, option_map, if◌then◌else◌}
use Rattle.std.specs.Option.{option_map_or}
use Rattle.net_types.specs.declared.config.CommunityList.{CommunityList}
use Rattle.net_types.specs.declared.config.CommunityEntry.{CommunityEntry}
use Rattle.net_types.specs.Communities.{community_of}
use Rattle.net_types.specs.Order.{same_text}
use Rattle.frr_policy.specs.declared.refusals.LineRefusal.{LineRefusal}
use Rattle.frr_policy.specs.Values.{name_of, list_number_of}
use Rattle.frr_policy.specs.Grammar.{first, and_then, leading, some_alone}
use Rattle.frr_policy.specs.Answers.{or_bad_value, then_answer}
use Rattle.frr_policy.specs.Lists.{FrontValue, front_of, new_number}

-- the name of a community list: `standard` NAME, or NUM 1 to 99 as the name
abbrev pub list_name_of : List (List ℕ) → Option (List ℕ × List (List ℕ))
list_name_of [] = None
list_name_of (word ∷ more) =
    if same_text (codes "standard") word then first name_of more else option_map (λ _. (word, more)) (list_number_of word)

-- the communities of an entry: one or more
abbrev pub communities_of : List (List ℕ) → Option (List ℕ)
communities_of words = some_alone (leading community_of words)

-- in front of the communities: the name, optional `seq` NUM, then ACT
abbrev pub community_front : List (List ℕ) → Option (FrontValue × List (List ℕ))
community_front words = and_then (list_name_of words) (λ name more. front_of name more)

abbrev pub with_communities : FrontValue → Option (List ℕ) → Option (FrontValue × List ℕ)
with_communities front values = option_map (λ v. (front, v)) values

-- the words behind `bgp community-list` and `ip community-list`: the front, then the communities
unfoldable pub community_line : List (List ℕ) → Option (FrontValue × List ℕ)
community_line words = and_then (community_front words) (λ front more. with_communities front (communities_of more))

-- the entries of the list of this name; none where there is no such list
abbrev pub community_entries : List ℕ → List CommunityList → List CommunityEntry
community_entries name lists =
    option_map_or (λ (l : CommunityList). l.entries) (find (λ (l : CommunityList). same_text l.name name) lists) []

-- their sequence numbers
abbrev pub community_numbers : List ℕ → List CommunityList → List ℕ
community_numbers name lists = map (λ (e : CommunityEntry). e.seq) (community_entries name lists)

-- the entry of a line, with this number, and the name of its list
abbrev pub community_entry : FrontValue × List ℕ → ℕ → List ℕ × CommunityEntry
community_entry line number = (line.0.name, record { seq = number; permit = line.0.permit; values = line.1 })

unfoldable pub added_community_entry : List CommunityList → FrontValue × List ℕ → Result (List ℕ × CommunityEntry) LineRefusal
added_community_entry lists line =
    then_answer (new_number line.0.seq (community_numbers line.0.name lists)) (λ number. Ok (community_entry line number))

-- the row `bgp community-list`, which is that of `ip community-list` too: what stands behind its head adds
-- an entry to the list of the name
unfoldable pub community_list_row : List (List ℕ) → List CommunityList → Result (List ℕ × CommunityEntry) LineRefusal
community_list_row rest lists = then_answer (or_bad_value (community_line rest)) (added_community_entry lists)
