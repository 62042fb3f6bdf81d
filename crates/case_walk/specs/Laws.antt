-- What is true of representatives, of verdicts and of the numbers of cases.
use Rattle.std.specs.Prelude.{ℕ, ◌≡◌, ◌≤◌, ◌↔◌, ◌⊎◌, true, false, None, List as Seq, length, All, Contains, sum_by}
use Rattle.std.specs.List.{IsDistinct, list_any}
use Rattle.net_types.specs.FailSets.{holds, without}
use Rattle.net_types.specs.NetValue.{NetValue}
use Rattle.net_types.specs.PrefixValue.{PrefixValue}
use Rattle.net_types.specs.Prefixes.{same_prefix}
use Rattle.failure_sets.specs.SetOrder.{IsPermitted}
use Rattle.failure_sets.specs.SetList.{failure_sets}
use Rattle.property_book.specs.declared.property.Property.{Property}
use Rattle.property_book.specs.declared.verdict.Broken.{Broken}
use Rattle.property_book.specs.Applicable.{barred}
use Rattle.case_walk.specs.Analysis.{Analysis, AreApart, AreReusable, HasNoIdleLink, is_idle}
use Rattle.case_walk.specs.Book.{is_of, most_of, total_of, solved_of}
use Rattle.case_walk.specs.Representatives.{representative}
use Rattle.case_walk.specs.Verdicts.{IsFirstBroken}

-- ---- representatives

-- what a set and its representative share
pub record Agrees (links most : ℕ) (analysis : Analysis) (property : Property) (set : Seq ℕ) : Type 0 where
  pub permitted : IsPermitted links most (representative (analysis.idle property.prefix) set)
  pub implied : analysis.Implied property set ↔ analysis.Implied property (representative (analysis.idle property.prefix) set)
  pub idle : (link : ℕ) → holds set link ≡ false →
      is_idle (analysis.idle property.prefix) set link ≡ is_idle (analysis.idle property.prefix) (representative (analysis.idle property.prefix) set) link

-- a permitted set and its representative imply the same properties, and have the same idle links outside the set
abbrev pub RepresentativesAgree : Analysis → Type 0
RepresentativesAgree analysis =
    (links most : ℕ) (property : Property) (set : Seq ℕ) → AreReusable links analysis → most ≤ 3 → IsPermitted links most set → Agrees links most analysis property set

-- the first set in which a property is broken is its own representative: no reused set decides a verdict
abbrev pub FirstBrokenIsOwn : Analysis → Type 0
FirstBrokenIsOwn analysis =
    (links : ℕ) (property : Property) (set : Seq ℕ) (broken : Broken) → AreReusable links analysis → AreApart analysis → property.failures ≤ 3 →
    IsFirstBroken links analysis property set broken → representative (analysis.idle property.prefix) set ≡ set

-- a set is its own representative exactly where none of its links is idle without it
abbrev pub OwnHaveNoSpareLink : Type 0
OwnHaveNoSpareLink =
    (idle : Seq ℕ → ℕ) (set : Seq ℕ) → (representative idle set ≡ set) ↔ ((link : ℕ) → holds set link ≡ true → is_idle idle (without set link) link ≡ false)

-- the representative of a set is its own
abbrev pub RepresentativesAreOwn : Type 0
RepresentativesAreOwn = (idle : Seq ℕ → ℕ) (set : Seq ℕ) → representative idle (representative idle set) ≡ representative idle set

-- ---- no idle links

-- where no link is idle, cases may be reused, each set is its own representative, and all cases are solved
pub record IsUnreused (net : NetValue) (analysis : Analysis) : Type 0 where
  pub reusable : AreReusable (length net.links) analysis
  pub own : (prefix : PrefixValue) (set : Seq ℕ) → representative (analysis.idle prefix) set ≡ set
  pub solved : (book : Seq Property) → solved_of net analysis book ≡ total_of net book

abbrev pub NothingIsReused : Analysis → Type 0
NothingIsReused analysis = (net : NetValue) → HasNoIdleLink analysis → IsUnreused net analysis

-- ---- how many cases

-- these are the prefixes of the book's properties that apply, no two the same
pub record AreCases (net : NetValue) (book : Seq Property) (prefixes : Seq PrefixValue) : Type 0 where
  pub distinct : IsDistinct same_prefix prefixes
  pub each : (prefix : PrefixValue) → (list_any (same_prefix prefix) prefixes ≡ true) ↔
      ((property : Property) × Contains book property × (barred net property ≡ None) × (property.prefix ≡ prefix))

-- the cases of a book are those of its prefixes, each once, with the sets that the most permitting property permits
abbrev pub CasesAreAskedOnce : Type 0
CasesAreAskedOnce =
    (net : NetValue) (book : Seq Property) →
    (prefixes : Seq PrefixValue) × AreCases net book prefixes ×
    (total_of net book ≡ sum_by (λ prefix. length (failure_sets (length net.links) (most_of net prefix book))) prefixes)

-- no property of the prefix permits more failures, and one that does permits as many, if any permits some
pub record IsMost (net : NetValue) (prefix : PrefixValue) (book : Seq Property) (most : ℕ) : Type 0 where
  pub bound : (property : Property) → Contains book property → is_of net prefix property ≡ true → property.failures ≤ most
  pub reached : (most ≡ 0) ⊎ ((property : Property) × Contains book property × (is_of net prefix property ≡ true) × (property.failures ≡ most))

abbrev pub MostIsGreatest : Type 0
MostIsGreatest = (net : NetValue) (prefix : PrefixValue) (book : Seq Property) → IsMost net prefix book (most_of net prefix book)
