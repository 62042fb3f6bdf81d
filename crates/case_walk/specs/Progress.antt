-- How far the walk over the properties of a book has come. These serve the code.
use Rattle.std.specs.Prelude.{◌≡◌, ◌≤◌, Bool, true, false, Option, Some, None, List as Seq}
use Rattle.net_types.specs.NetValue.{NetValue}
use Rattle.property_book.specs.declared.property.Property.{Property}
use Rattle.property_book.specs.declared.verdict.Barred.{Barred}
use Rattle.property_book.specs.declared.verdict.Verdict.{Verdict}
use Rattle.property_book.specs.declared.verdict.Verdict.TheVariants.{Certified, NotApplicable}
use Rattle.property_book.specs.Applicable.{barred}
use Rattle.case_walk.specs.Analysis.{Analysis}
use Rattle.case_walk.specs.Book.{applies, asked_prefixes, stands, most_of}
use Rattle.case_walk.specs.Marks.{AllTurn}
use Rattle.case_walk.specs.Verdicts.{IsVerdict}
use Rattle.case_walk.specs.Turns.{IsJudged}

-- the verdict of a property with this bar, if it has one, before any case is solved
abbrev pub opening_by : Option Barred → Verdict
opening_by None = Certified
opening_by (Some bar) = NotApplicable bar

abbrev pub opening : NetValue → Property → Verdict
opening net property = opening_by (barred net property)

-- a property's verdict where the prefixes of the properties that are left are still to come
pub record IsSoFar (net : NetValue) (analysis : Analysis) (book left : Seq Property) (property : Property) (verdict : Verdict) : Type 0 where
  pub other : (bar : Barred) → barred net property ≡ Some bar → verdict ≡ NotApplicable bar
  pub ahead : applies net property ≡ true → stands (asked_prefixes net left) property.prefix ≡ true → verdict ≡ Certified
  pub done : applies net property ≡ true → stands (asked_prefixes net left) property.prefix ≡ false → IsVerdict net analysis property verdict
  pub fits : applies net property ≡ true → property.failures ≤ most_of net property.prefix book

-- what one property brings: where it leads, the verdicts of its prefix
abbrev pub Brings : NetValue → Analysis → Seq Property → Property → Bool → Seq Verdict → Seq Verdict → Type 0
Brings net analysis book property true olds news = AllTurn (IsJudged net analysis property.prefix (most_of net property.prefix book)) book olds news
Brings net analysis book property false olds news = news ≡ olds
