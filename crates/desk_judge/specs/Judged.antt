-- What the judge of the program means: each of its answers as a function of what it is asked. All of this is the project's
-- own.
use Rattle.std.specs.Prelude.{ℕ, List as Seq, Result, Ok, Err}
use Rattle.net_types.specs.declared.config.SourceFile.{SourceFile}
use Rattle.net_types.specs.declared.refusals.BundleSide.{BundleSide as ChangeSide}
use Rattle.net_types.specs.declared.refusals.BundleSide.TheVariants as Change
use Rattle.bundle_reader.specs.Bundle.{bundle_of}
use Rattle.property_book.specs.Book.{book_of}
use Rattle.property_book.specs.Outcomes.{first_missing}
use Rattle.report_text.specs.Report.{report_of}
use Rattle.judging.specs.declared.inputs.Inputs.{Inputs}
use Rattle.judging.specs.declared.refusals.JudgeRefusal.{JudgeRefusal}
use Rattle.judging.specs.declared.refusals.JudgeRefusal.TheVariants as Cause
use Rattle.judging.specs.declared.refusals.NotJudged.{NotJudged}
use Rattle.judging.specs.declared.refusals.NotJudged.TheVariants as Why
use Rattle.judging.specs.Inputs.{inputs_of, limited}
use Rattle.judging.specs.Steps.{and_then}
use Rattle.review_rules.specs.declared.requests.BundleSide.{BundleSide}
use Rattle.review_rules.specs.declared.requests.BundleSide.TheVariants.{Base, New}
use Rattle.review_rules.specs.declared.requests.JudgeAnswer.{JudgeAnswer}
use Rattle.review_rules.specs.declared.requests.JudgeAnswer.TheVariants.{Fine, Refused, BookRefused, Limit, Judged, NoMemory}
use Rattle.review_rules.specs.Judging.{Judging}
use Rattle.desk_judge.specs.Verdict.{outcome_of}

-- ---- one bundle, one book

-- there is nothing to refuse, or this is refused
abbrev pub fine_unless : {A E : Type 0} → (E → JudgeAnswer) → Result A E → JudgeAnswer
fine_unless refused (Ok value) = Fine
fine_unless refused (Err refusal) = refused refusal

-- whether files make a network
unfoldable pub bundle_answer : Seq SourceFile → JudgeAnswer
bundle_answer files = fine_unless (Refused New) (bundle_of files)

-- whether a text is a book
unfoldable pub book_answer : Seq ℕ → JudgeAnswer
book_answer text = fine_unless BookRefused (book_of text)

-- ---- a run

abbrev pub side_of : ChangeSide → BundleSide
side_of Change.Base = Base
side_of Change.New = New

-- how a refused change is answered
abbrev pub refused : JudgeRefusal → JudgeAnswer
refused (Cause.Bundle side refusal) = Refused (side_of side) refusal
refused (Cause.Book refusal) = BookRefused refusal
refused (Cause.CasesLimit side cases) = Limit cases

-- how a change is answered that is not judged
abbrev pub not_judged : NotJudged → JudgeAnswer
not_judged (Why.Refused refusal) = refused refusal
not_judged Why.NoMemory = NoMemory

-- how a judged change is answered: by the first property that is not certified in the network after it, and by the
-- report of what is found of the book in both
unfoldable pub found : Inputs → JudgeAnswer
found inputs =
    Judged (first_missing (outcome_of inputs.new inputs.book).verdicts)
    (report_of inputs.book inputs.base (outcome_of inputs.base inputs.book) inputs.new (outcome_of inputs.new inputs.book))

abbrev pub settled : Result Inputs JudgeRefusal → JudgeAnswer
settled (Ok inputs) = found inputs
settled (Err refusal) = refused refusal

-- a run over the files before, those after and the text of a book. The first of these that stands decides: the files before
-- are refused, those after, the text, too many cases before, too many after
unfoldable pub run_answer : Seq SourceFile → Seq SourceFile → Seq ℕ → JudgeAnswer
run_answer base new text = settled (and_then (inputs_of base new text) limited)

-- ---- all of it

abbrev pub meant : Judging
meant = record { bundle = bundle_answer; book = book_answer; run = run_answer }
