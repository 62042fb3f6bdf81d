-- Which properties of a book are certified.
use Rattle.std.specs.Prelude.{ℕ, Bool, true, false, not, List as Seq, Option, is_none, position}
use Rattle.property_book.specs.declared.verdict.Verdict.{Verdict}
use Rattle.property_book.specs.declared.verdict.Verdict.TheVariants.{Certified, NotCertified, NotApplicable}

-- the verdict is a certificate
abbrev pub is_certified : Verdict → Bool
is_certified Certified = true
is_certified (NotCertified failed broken) = false
is_certified (NotApplicable bar) = false

-- the place of the first property that is not certified, from 0
abbrev pub first_missing : Seq Verdict → Option ℕ
first_missing verdicts = position (λ verdict. not (is_certified verdict)) verdicts

-- every property is certified
abbrev pub are_certified : Seq Verdict → Bool
are_certified verdicts = is_none (first_missing verdicts)
