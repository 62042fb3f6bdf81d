-- How a solved case changes the verdicts of a book. These serve the code.
use Rattle.std.specs.Prelude.{ℕ, ◌≡◌, ◌&&◌, Bool, true, false, nat_le, Option, Some, None, List as Seq, [], ◌∷◌, length}
use Rattle.net_types.specs.NetValue.{NetValue}
use Rattle.net_types.specs.PrefixValue.{PrefixValue}
use Rattle.property_book.specs.declared.property.Property.{Property}
use Rattle.property_book.specs.declared.verdict.Broken.{Broken}
use Rattle.property_book.specs.declared.verdict.Verdict.{Verdict}
use Rattle.property_book.specs.declared.verdict.Verdict.TheVariants.{Certified, NotCertified, NotApplicable}
use Rattle.case_walk.specs.Analysis.{Analysis, Answers}
use Rattle.case_walk.specs.Book.{is_of}

-- the verdict with one set more, which comes behind the others
abbrev pub verdict_with : Verdict → Seq ℕ → Option Broken → Verdict
verdict_with Certified set (Some broken) = NotCertified set broken
verdict_with Certified set None = Certified
verdict_with (NotCertified first broken) set answer = NotCertified first broken
verdict_with (NotApplicable bar) set answer = NotApplicable bar

-- whether the property asks of the case of prefix and set
abbrev pub is_asked : NetValue → PrefixValue → Seq ℕ → Property → Bool
is_asked net prefix set property = is_of net prefix property && nat_le (length set) property.failures

-- a property's verdict before and with the case of prefix and set: the answer counts, where the property asks of the case
pub record IsMarked (net : NetValue) (analysis : Analysis) (prefix : PrefixValue) (set : Seq ℕ) (property : Property) (old new : Verdict) : Type 0 where
  pub asked : is_asked net prefix set property ≡ true → (answer : Option Broken) × Answers analysis property set answer × (new ≡ verdict_with old set answer)
  pub other : is_asked net prefix set property ≡ false → new ≡ old

-- a relation holds of each property, its verdict before, and its verdict after
pub data AllTurn (R : Property → Verdict → Verdict → Type 0) : Seq Property → Seq Verdict → Seq Verdict → Type 0 where
  none : AllTurn R [] [] []
  one : {property : Property} {book : Seq Property} {a b : Verdict} {olds news : Seq Verdict} → R property a b → AllTurn R book olds news → AllTurn R (property ∷ book) (a ∷ olds) (b ∷ news)

-- the verdicts of a book before and with the case, if it was solved: else they stay
abbrev pub AreMarkedIf : NetValue → Analysis → PrefixValue → Seq ℕ → Bool → Seq Property → Seq Verdict → Seq Verdict → Type 0
AreMarkedIf net analysis prefix set true book olds news = AllTurn (IsMarked net analysis prefix set) book olds news
AreMarkedIf net analysis prefix set false book olds news = news ≡ olds
