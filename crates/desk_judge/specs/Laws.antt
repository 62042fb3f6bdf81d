-- What is true of verdicts as functions, and of what the judge means.
use Rattle.std.specs.Prelude.{ℕ, ◌≡◌, ◌↔◌, List as Seq, None, Ok, All}
use Rattle.net_types.specs.NetFacts.{IsNet}
use Rattle.net_types.specs.NetValue.{NetValue}
use Rattle.net_types.specs.declared.config.SourceFile.{SourceFile}
use Rattle.bundle_reader.specs.Bundle.{bundle_of}
use Rattle.property_book.specs.Book.{book_of}
use Rattle.property_book.specs.Meaning.{Holds}
use Rattle.property_book.specs.declared.property.Property.{Property}
use Rattle.property_book.specs.declared.verdict.Outcome.{Outcome}
use Rattle.property_book.specs.declared.verdict.Verdict.{Verdict}
use Rattle.certify.specs.Verdicts.{IsOutcome, IsVerdict}
use Rattle.review_rules.specs.declared.requests.JudgeAnswer.TheVariants.{Judged}
use Rattle.review_rules.specs.Judging.{IsJudging}
use Rattle.desk_judge.specs.Verdict.{outcome_of, verdict_of}
use Rattle.desk_judge.specs.Judged.{meant, run_answer}

-- a property has one verdict, which is this one
abbrev pub VerdictsAreOne : Type 0
VerdictsAreOne = (net : NetValue) (property : Property) (verdict : Verdict) → IsNet net → IsVerdict net property verdict ↔ (verdict ≡ verdict_of net property)

-- and a book has one outcome
abbrev pub OutcomesAreOne : Type 0
OutcomesAreOne = (net : NetValue) (book : Seq Property) (outcome : Outcome) → IsNet net → IsOutcome net book outcome ↔ (outcome ≡ outcome_of net book)

-- no answer names a property that there is not
abbrev pub MeansNoMore : Type 0
MeansNoMore = IsJudging meant

-- where a run says that no property lacks a certificate, the files after are a network, the text is a book, and each of
-- its properties holds in that network
abbrev pub JudgedRunsHold : Type 0
JudgedRunsHold =
    (base new : Seq SourceFile) (text report : Seq ℕ) → run_answer base new text ≡ Judged None report →
    (net : NetValue) × (book : Seq Property) × (bundle_of new ≡ Ok net) × (book_of text ≡ Ok book) × All (Holds net) book
