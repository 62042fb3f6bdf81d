-- The rows of the line table that stand in the block of a route map: what each makes of the entry.
use Rattle.std.specs.Prelude.{ℕ, Bool, true, false, ◌<◌, ◌≤◌, ◌^◌, nat_le, List, [], ◌∷◌, length, codes, is_some, Option, Some, None, Result, Ok, Err, option_and_then, if◌then◌else◌}
use Rattle.net_types.specs.declared.config.MapEntry.{MapEntry}
use Rattle.net_types.specs.declared.config.Sets.{Sets}
use Rattle.net_types.specs.declared.config.SetCommunity.{SetCommunity}
use Rattle.net_types.specs.declared.config.SetCommunity.TheVariants.{Keep, Replace, Add, Clear}
use Rattle.net_types.specs.Communities.{community_of}
use Rattle.net_types.specs.NetFacts.{IsWord}
use Rattle.net_types.specs.ConfigFacts.{IsSetCommunity}
use Rattle.net_types.specs.Order.{same_text}
use Rattle.net_types.specs.Routes.{origin_of}
use Rattle.frr_policy.specs.declared.refusals.LineRefusal.{LineRefusal}
use Rattle.frr_policy.specs.declared.refusals.LineRefusal.TheVariants.{BadValue, Repeated}
use Rattle.frr_policy.specs.Values.{name_of, u32_of, positive_of}
use Rattle.frr_policy.specs.Grammar.{first, and_then, one, leading, some_alone}

-- a value that an entry takes once: the rest of the line, whether the entry has such a value, and the entry
-- with the value
abbrev pub once : {A : Type 0} → Option A → Bool → (A → MapEntry) → Result MapEntry LineRefusal
once None is_set change = Err BadValue
once (Some a) true change = Err Repeated
once (Some a) false change = Ok (change a)

-- the entry with other sets
abbrev pub with_sets : MapEntry → Sets → MapEntry
with_sets e sets = record e { sets = sets }

-- `match ip address prefix-list` NAME
unfoldable pub match_prefix_list : List (List ℕ) → MapEntry → Result MapEntry LineRefusal
match_prefix_list rest e = once (one name_of rest) (is_some e.prefixes) (λ name. record e { prefixes = Some name })

-- `match community` NAME
unfoldable pub match_community : List (List ℕ) → MapEntry → Result MapEntry LineRefusal
match_community rest e = once (one name_of rest) (is_some e.communities) (λ name. record e { communities = Some name })

-- `set local-preference` U32
unfoldable pub set_preference : List (List ℕ) → MapEntry → Result MapEntry LineRefusal
set_preference rest e = once (one u32_of rest) (is_some e.sets.preference) (λ n. with_sets e (record e.sets { preference = Some n }))

-- `set metric` U32
unfoldable pub set_metric : List (List ℕ) → MapEntry → Result MapEntry LineRefusal
set_metric rest e = once (one u32_of rest) (is_some e.sets.med) (λ n. with_sets e (record e.sets { med = Some n }))

-- `set weight` U32
unfoldable pub set_weight : List (List ℕ) → MapEntry → Result MapEntry LineRefusal
set_weight rest e = once (one u32_of rest) (is_some e.sets.weight) (λ n. with_sets e (record e.sets { weight = Some n }))

-- `set origin`, and `igp`, `egp` or `incomplete`
unfoldable pub set_origin : List (List ℕ) → MapEntry → Result MapEntry LineRefusal
set_origin rest e = once (one origin_of rest) (is_some e.sets.origin) (λ origin. with_sets e (record e.sets { origin = Some origin }))

-- these words are this one alone
abbrev pub is_only : List ℕ → List (List ℕ) → Bool
is_only keyword [] = false
is_only keyword (word ∷ []) = same_text keyword word
is_only keyword (_ ∷ _ ∷ _) = false

-- one or more communities, and behind them nothing or the word `additive`
abbrev pub replaced_or_added : List ℕ × List (List ℕ) → Option SetCommunity
replaced_or_added ([], _) = None
replaced_or_added (value ∷ more, []) = Some (Replace (value ∷ more))
replaced_or_added (value ∷ more, word ∷ words) =
    if is_only (codes "additive") (word ∷ words) then Some (Add (value ∷ more)) else None

-- `none`, or one or more communities with an optional last word `additive`
abbrev pub set_community_of : List (List ℕ) → Option SetCommunity
set_community_of rest = if is_only (codes "none") rest then Some Clear else replaced_or_added (leading community_of rest)

-- there is such a line
abbrev pub is_community_set : SetCommunity → Bool
is_community_set Keep = false
is_community_set (Replace _) = true
is_community_set (Add _) = true
is_community_set Clear = true

-- `set community`
unfoldable pub set_community : List (List ℕ) → MapEntry → Result MapEntry LineRefusal
set_community rest e = once (set_community_of rest) (is_community_set e.sets.community) (λ c. with_sets e (record e.sets { community = c }))

abbrev pub if_delete : List ℕ → List (List ℕ) → Option (List ℕ)
if_delete name words = if is_only (codes "delete") words then Some name else None

-- `set comm-list` NAME `delete`
unfoldable pub set_comm_list : List (List ℕ) → MapEntry → Result MapEntry LineRefusal
set_comm_list rest e = once (and_then (first name_of rest) if_delete) (is_some e.sets.delete)
    (λ name. with_sets e (record e.sets { «delete» = Some name }))

-- a line prepends at most so many AS numbers
abbrev pub most_prepends : ℕ
most_prepends = 10

abbrev pub if_few : List ℕ → Option (List ℕ)
if_few values = if nat_le (length values) most_prepends then Some values else None

-- 1 to 10 AS numbers
abbrev pub asns_of : List (List ℕ) → Option (List ℕ)
asns_of rest = option_and_then if_few (some_alone (leading positive_of rest))

abbrev pub has_items : List ℕ → Bool
has_items [] = false
has_items (_ ∷ _) = true

-- `set as-path prepend` and 1 to 10 AS numbers
unfoldable pub set_prepend : List (List ℕ) → MapEntry → Result MapEntry LineRefusal
set_prepend rest e = once (asns_of rest) (has_items e.sets.prepend) (λ asns. with_sets e (record e.sets { prepend = asns }))

-- the numbers of an entry are in their ranges, and it prepends at most 10 AS numbers
pub record FitsEntry (e : MapEntry) : Type 0 where
  pub seq : e.seq < 2 ^ 16
  pub weight : IsWord e.sets.weight
  pub preference : IsWord e.sets.preference
  pub med : IsWord e.sets.med
  pub community : IsSetCommunity e.sets.community
  pub few : length e.sets.prepend ≤ 10
