-- What a property's verdict is in a network, over every set of failed links that it permits. This project's own.
use Rattle.std.specs.Prelude.{ℕ, ◌≡◌, ◌≤◌, ◌<◌, ◌+◌, true, List as Seq, length, Some, None, Result, Ok, Err}
use Rattle.std.specs.List.{AllZip}
use Rattle.net_types.specs.NetValue.{NetValue}
use Rattle.failure_sets.specs.SetOrder.{IsPermitted, comes_before}
use Rattle.property_book.specs.declared.property.Property.{Property}
use Rattle.property_book.specs.declared.verdict.Broken.{Broken}
use Rattle.property_book.specs.declared.verdict.Verdict.{Verdict}
use Rattle.property_book.specs.declared.verdict.Verdict.TheVariants.{Certified, NotCertified, NotApplicable}
use Rattle.property_book.specs.declared.verdict.Outcome.{Outcome}
use Rattle.property_book.specs.Applicable.{barred}
use Rattle.property_book.specs.Meaning.{HoldsIfCertified}
use Rattle.certify.specs.Results.{IsBrokenWith, IsImpliedWith}
use Rattle.certify.specs.Counts.{solved_of, total_of}
use Rattle.case_walk.specs.declared.refusal.CertifyRefusal.{CertifyRefusal}
use Rattle.case_walk.specs.declared.refusal.CertifyRefusal.TheVariants.{CasesLimit, NoMemory}

-- certified: the property applies, and is implied with each set of links failed that it permits
pub record IsCertified (net : NetValue) (property : Property) : Type 0 where
  pub applies : barred net property ≡ None
  pub implied : (failed : Seq ℕ) → IsPermitted (length net.links) property.failures failed → IsImpliedWith net property failed

-- not certified: it applies, and this is the first such set, by size and then by link numbers, with which it is not implied,
-- and what is broken then
pub record IsNotCertified (net : NetValue) (property : Property) (failed : Seq ℕ) (broken : Broken) : Type 0 where
  pub applies : barred net property ≡ None
  pub permitted : IsPermitted (length net.links) property.failures failed
  pub breaks : IsBrokenWith net property failed broken
  pub first : (earlier : Seq ℕ) → IsPermitted (length net.links) property.failures earlier → comes_before earlier failed ≡ true → IsImpliedWith net property earlier

-- the verdict of a property
abbrev pub IsVerdict : NetValue → Property → Verdict → Type 0
IsVerdict net property Certified = IsCertified net property
IsVerdict net property (NotCertified failed broken) = IsNotCertified net property failed broken
IsVerdict net property (NotApplicable bar) = barred net property ≡ Some bar

-- what is found of a book: a verdict for each property, where each property with a certificate holds; how many cases there
-- are, and how many of them were solved
pub record IsOutcome (net : NetValue) (book : Seq Property) (outcome : Outcome) : Type 0 where
  pub verdicts : AllZip (IsVerdict net) book outcome.verdicts
  pub holds : AllZip (HoldsIfCertified net) book outcome.verdicts
  pub total : outcome.total ≡ total_of net book
  pub solved : outcome.solved ≡ solved_of net book

-- what is answered of a book: its outcome where it has at most 50,000 cases, else how many it has
abbrev pub Answers : NetValue → Seq Property → Result Outcome CertifyRefusal → Type 0
Answers net book (Ok outcome) = IsOutcome net book outcome × (total_of net book ≤ 50000)
Answers net book (Err (CasesLimit n)) = (n ≡ total_of net book) × (50000 < n)
Answers net book (Err NoMemory) = Unit {0}

-- the ticks before and after: one for each case that was solved, none where the book has too many cases
abbrev pub Ticks : ℕ → ℕ → Result Outcome CertifyRefusal → Type 0
Ticks before now (Ok outcome) = now ≡ before + outcome.solved
Ticks before now (Err (CasesLimit n)) = now ≡ before
Ticks before now (Err NoMemory) = Unit {0}
