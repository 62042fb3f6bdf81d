-- What a book asks of a network: which prefixes, with how many failed links, and how many cases that are. All of this is the
-- project's own.
use Rattle.std.specs.Prelude.{ℕ, ◌&&◌, Bool, not, max, is_none, if◌then◌else◌, List as Seq, [], ◌∷◌, length, map, filter, sum_by}
use Rattle.std.specs.List.{list_any}
use Rattle.net_types.specs.NetValue.{NetValue}
use Rattle.net_types.specs.PrefixValue.{PrefixValue}
use Rattle.net_types.specs.Prefixes.{same_prefix}
use Rattle.failure_sets.specs.SetList.{failure_sets}
use Rattle.property_book.specs.declared.property.Property.{Property}
use Rattle.property_book.specs.Applicable.{barred}
use Rattle.case_walk.specs.Analysis.{Analysis}
use Rattle.case_walk.specs.Representatives.{solved_count}

-- the property applies
abbrev pub applies : NetValue → Property → Bool
applies net property = is_none (barred net property)

-- the property applies and is of the prefix
abbrev pub is_of : NetValue → PrefixValue → Property → Bool
is_of net prefix property = applies net property && same_prefix prefix property.prefix

-- the prefixes of the properties that apply
abbrev pub asked_prefixes : NetValue → Seq Property → Seq PrefixValue
asked_prefixes net book = map (λ property. property.prefix) (filter (applies net) book)

-- whether the prefix stands among these
abbrev pub stands : Seq PrefixValue → PrefixValue → Bool
stands prefixes prefix = list_any (same_prefix prefix) prefixes

-- prefixes, each once
abbrev pub distinct : Seq PrefixValue → Seq PrefixValue
distinct [] = []
distinct (prefix ∷ more) = if stands more prefix then distinct more else prefix ∷ distinct more

-- the greatest number of failures of a property that applies and is of the prefix
abbrev pub most_of : NetValue → PrefixValue → Seq Property → ℕ
most_of net prefix [] = 0
most_of net prefix (property ∷ more) = max (if is_of net prefix property then property.failures else 0) (most_of net prefix more)

-- the cases: for each prefix that is asked of, the sets of at most that number of links
unfoldable pub total_of : NetValue → Seq Property → ℕ
total_of net book = sum_by (λ prefix. length (failure_sets (length net.links) (most_of net prefix book))) (distinct (asked_prefixes net book))

-- those of the cases that are their own representative, of the prefixes that some properties of the book ask of
unfoldable pub solved_over : NetValue → Analysis → Seq Property → Seq Property → ℕ
solved_over net analysis book some =
    sum_by (λ prefix. solved_count (analysis.idle prefix) (length net.links) (most_of net prefix book)) (distinct (asked_prefixes net some))

-- and of all of them
unfoldable pub solved_of : NetValue → Analysis → Seq Property → ℕ
solved_of net analysis book = solved_over net analysis book book

-- the property applies, and no later one that applies is of its prefix: with it, the cases of the prefix are solved
abbrev pub is_lead : NetValue → Property → Seq Property → Bool
is_lead net property later = applies net property && not (stands (asked_prefixes net later) property.prefix)
