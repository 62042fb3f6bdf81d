-- The lines of prefix lists.
use Rattle.std.specs.Prelude.{ℕ, ◌≤◌, ◌&&◌, nat_le, List, [], ◌∷◌, codes, map, find, Option, Some, None, Result, Ok, option_and_then, option_map, if◌then◌else◌}
use Rattle.std.specs.Option.{option_map_or}
use Rattle.net_types.specs.declared.config.PrefixList.{PrefixList}
use Rattle.net_types.specs.declared.config.PrefixEntry.{PrefixEntry}
use Rattle.net_types.specs.PrefixValue.{PrefixValue, IsPrefix}
use Rattle.net_types.specs.Order.{same_text}
use Rattle.frr_policy.specs.declared.refusals.LineRefusal.{LineRefusal}
use Rattle.frr_policy.specs.declared.prefix_lines.Bound.{Bound}
use Rattle.frr_policy.specs.declared.prefix_lines.Bound.TheVariants.{Least, Most}
use Rattle.frr_policy.specs.declared.prefix_lines.Lengths.{Lengths}
use Rattle.frr_policy.specs.declared.prefix_lines.Matched.{Matched}
use Rattle.frr_policy.specs.Values.{name_of, length_of, masked_prefix_of}
use Rattle.frr_policy.specs.Grammar.{first, and_then, if_alone}
use Rattle.frr_policy.specs.Answers.{or_bad_value, then_answer}
use Rattle.frr_policy.specs.Lists.{FrontValue, front_of, new_number}

abbrev pub lengths : ℕ → ℕ → Lengths
lengths least most = record { least = least; most = most }

-- `ge` or `le` with its number
abbrev pub bound_of : List ℕ → List ℕ → Option Bound
bound_of word number =
    if same_text (codes "ge") word then option_map Least (length_of number) else
    (if same_text (codes "le") word then option_map Most (length_of number) else None)

-- the lengths without a bound, with one, and with one of each kind in either order
abbrev pub bounded_once : ℕ → Bound → Lengths
bounded_once len (Least ge) = lengths ge 32
bounded_once len (Most le) = lengths len le

abbrev pub bounded_twice : Bound → Bound → Option Lengths
bounded_twice (Least ge) (Most le) = Some (lengths ge le)
bounded_twice (Most le) (Least ge) = Some (lengths ge le)
bounded_twice (Least _) (Least _) = None
bounded_twice (Most _) (Most _) = None

-- behind a prefix of this length: nothing, `ge` NUM, `le` NUM, or both in either order
abbrev pub bounds_of : ℕ → List (List ℕ) → Option Lengths
bounds_of len [] = Some (lengths len len)
bounds_of len (_ ∷ []) = None
bounds_of len (word ∷ number ∷ []) = option_map (bounded_once len) (bound_of word number)
bounds_of len (_ ∷ _ ∷ _ ∷ []) = None
bounds_of len (word ∷ number ∷ other ∷ more ∷ []) =
    option_and_then (λ a. option_and_then (bounded_twice a) (bound_of other more)) (bound_of word number)
bounds_of len (_ ∷ _ ∷ _ ∷ _ ∷ _ ∷ _) = None

-- the lengths fit a prefix of this length
abbrev pub if_fitting : ℕ → Lengths → Option Lengths
if_fitting len l = if nat_le len l.least && nat_le l.least l.most && nat_le l.most 32 then Some l else None

-- what is matched is a prefix, with lengths that fit it
pub record FitsPrefix (m : Matched) : Type 0 where
  pub prefix : IsPrefix m.prefix
  pub least : m.prefix.len ≤ m.lengths.least
  pub most : m.lengths.least ≤ m.lengths.most
  pub fits : m.lengths.most ≤ 32

abbrev pub every_prefix : Matched
every_prefix = record { prefix = record { bits = 0; len = 0 }; lengths = lengths 0 32 }

abbrev pub matched_by : PrefixValue → List (List ℕ) → Option Matched
matched_by prefix words =
    option_map (λ l. record { prefix = prefix; lengths = l }) (option_and_then (if_fitting prefix.len) (bounds_of prefix.len words))

-- `any`, or PFX with its bounds
abbrev pub matched_of : List (List ℕ) → Option Matched
matched_of [] = None
matched_of (word ∷ more) =
    if same_text (codes "any") word then if_alone every_prefix more else
    option_and_then (λ prefix. matched_by prefix more) (masked_prefix_of word)

abbrev pub line_with : FrontValue → Option Matched → Option (FrontValue × Matched)
line_with front matched = option_map (λ m. (front, m)) matched

-- the words behind `ip prefix-list`: NAME, optional `seq` NUM, ACT, then what is matched
unfoldable pub prefix_line : List (List ℕ) → Option (FrontValue × Matched)
prefix_line words =
    and_then (first name_of words) (λ name behind_name.
    and_then (front_of name behind_name) (λ front behind_front.
    line_with front (matched_of behind_front)))

-- the entries of the list of this name; none where there is no such list
abbrev pub prefix_entries : List ℕ → List PrefixList → List PrefixEntry
prefix_entries name lists =
    option_map_or (λ (l : PrefixList). l.entries) (find (λ (l : PrefixList). same_text l.name name) lists) []

-- their sequence numbers
abbrev pub prefix_numbers : List ℕ → List PrefixList → List ℕ
prefix_numbers name lists = map (λ (e : PrefixEntry). e.seq) (prefix_entries name lists)

-- the entry of a line, with this number, and the name of its list
abbrev pub prefix_entry : FrontValue × Matched → ℕ → List ℕ × PrefixEntry
prefix_entry line number = (
  line.0.name,
  record {
    seq = number;
    permit = line.0.permit;
    prefix = line.1.prefix;
    least = line.1.lengths.least;
    most = line.1.lengths.most;
  },
)

unfoldable pub added_prefix_entry : List PrefixList → FrontValue × Matched → Result (List ℕ × PrefixEntry) LineRefusal
added_prefix_entry lists line =
    then_answer (new_number line.0.seq (prefix_numbers line.0.name lists)) (λ number. Ok (prefix_entry line number))

-- the row `ip prefix-list`: what stands behind its head adds an entry to the list of the name
unfoldable pub prefix_list_row : List (List ℕ) → List PrefixList → Result (List ℕ × PrefixEntry) LineRefusal
prefix_list_row rest lists = then_answer (or_bad_value (prefix_line rest)) (added_prefix_entry lists)
