-- What an analysis says of each case of a network. A case is a prefix with a set of failed links. All of this is the
-- project's own.
use Rattle.std.specs.Prelude.{ℕ, ◌≡◌, ◌↔◌, Bool, true, false, List as Seq, Option, MatchOption}
use Rattle.net_types.specs.FailSets.{holds, without}
use Rattle.net_types.specs.PrefixValue.{PrefixValue}
use Rattle.net_types.specs.Sets.{has}
use Rattle.failure_sets.specs.SetOrder.{IsPermitted}
use Rattle.property_book.specs.declared.property.Property.{Property}
use Rattle.property_book.specs.declared.verdict.Broken.{Broken}

-- of each case: the set of idle links, as a word; whether its result implies a property that asks of its prefix; and
-- whether this is what is broken of the property
pub record Analysis : Type 1 where
  pub idle : PrefixValue → Seq ℕ → ℕ
  pub Implied : Property → Seq ℕ → Type 0
  pub IsBroken : Property → Seq ℕ → Broken → Type 0

-- none where the property is implied with these links failed, else what is broken
abbrev pub Answers : Analysis → Property → Seq ℕ → Option Broken → Type 0
Answers analysis property set found = MatchOption found (analysis.Implied property set) (analysis.IsBroken property set)

-- whether the link is idle in the case of the set, by the idle links of each set
abbrev pub is_idle : (Seq ℕ → ℕ) → Seq ℕ → ℕ → Bool
is_idle idle set link = has (idle set) link

-- a link of a set, idle in the case of the set without it, changes nothing of the links outside the set when it fails
-- too: as many of them are idle
abbrev pub IdleStays : ℕ → (Seq ℕ → ℕ) → Type 0
IdleStays links idle =
    (set : Seq ℕ) (link other : ℕ) → IsPermitted links 3 set → holds set link ≡ true → is_idle idle (without set link) link ≡ true →
    holds set other ≡ false → is_idle idle set other ≡ is_idle idle (without set link) other

-- and nothing of whether the property is implied
abbrev pub ImpliedStays : ℕ → Analysis → Property → Type 0
ImpliedStays links analysis property =
    (set : Seq ℕ) (link : ℕ) → IsPermitted links 3 set → holds set link ≡ true →
    is_idle (analysis.idle property.prefix) (without set link) link ≡ true → analysis.Implied property set ↔ analysis.Implied property (without set link)

-- so cases may be reused
pub record AreReusable (links : ℕ) (analysis : Analysis) : Type 0 where
  pub idle : (prefix : PrefixValue) → IdleStays links (analysis.idle prefix)
  pub implied : (property : Property) → ImpliedStays links analysis property

-- what is implied is not broken
abbrev pub AreApart : Analysis → Type 0
AreApart analysis = (property : Property) (set : Seq ℕ) (broken : Broken) → analysis.Implied property set → analysis.IsBroken property set broken → ⊥

-- no link is idle in any case
abbrev pub HasNoIdleLink : Analysis → Type 0
HasNoIdleLink analysis = (prefix : PrefixValue) (set : Seq ℕ) → analysis.idle prefix set ≡ 0
