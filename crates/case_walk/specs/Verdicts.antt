-- The verdict of a property over all failure sets that it permits. All of this is the project's own.
use Rattle.std.specs.Prelude.{ℕ, ◌≡◌, true, length, Some, None, List as Seq}
use Rattle.net_types.specs.NetValue.{NetValue}
use Rattle.failure_sets.specs.SetOrder.{IsPermitted, comes_before}
use Rattle.property_book.specs.declared.property.Property.{Property}
use Rattle.property_book.specs.declared.verdict.Broken.{Broken}
use Rattle.property_book.specs.declared.verdict.Verdict.{Verdict}
use Rattle.property_book.specs.declared.verdict.Verdict.TheVariants.{Certified, NotCertified, NotApplicable}
use Rattle.property_book.specs.Applicable.{barred}
use Rattle.case_walk.specs.Analysis.{Analysis}

-- the set is permitted, this is broken in it, and the property is implied in each permitted set that comes before it
pub record IsFirstBroken (links : ℕ) (analysis : Analysis) (property : Property) (set : Seq ℕ) (broken : Broken) : Type 0 where
  pub permitted : IsPermitted links property.failures set
  pub is_broken : analysis.IsBroken property set broken
  pub first : (other : Seq ℕ) → IsPermitted links property.failures other → comes_before other set ≡ true → analysis.Implied property other

-- the property applies, and is implied in every permitted set
pub record IsCertified (net : NetValue) (analysis : Analysis) (property : Property) : Type 0 where
  pub applies : barred net property ≡ None
  pub implied : (set : Seq ℕ) → IsPermitted (length net.links) property.failures set → analysis.Implied property set

-- the property applies, this is the first permitted set in which it is broken, and this is what is broken
pub record IsNotCertified (net : NetValue) (analysis : Analysis) (property : Property) (set : Seq ℕ) (broken : Broken) : Type 0 where
  pub applies : barred net property ≡ None
  pub first : IsFirstBroken (length net.links) analysis property set broken

-- the verdict of a property
abbrev pub IsVerdict : NetValue → Analysis → Property → Verdict → Type 0
IsVerdict net analysis property Certified = IsCertified net analysis property
IsVerdict net analysis property (NotCertified set broken) = IsNotCertified net analysis property set broken
IsVerdict net analysis property (NotApplicable bar) = barred net property ≡ Some bar
