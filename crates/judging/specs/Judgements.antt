-- What is found of a change.
use Rattle.std.specs.Prelude.{ℕ, ◌≡◌, ◌+◌, Some, None, Result, Ok, Err}
use Rattle.property_book.specs.Outcomes.{first_missing}
use Rattle.certify.specs.Verdicts.{IsOutcome}
use Rattle.report_text.specs.Report.{report_of}
use Rattle.judging.specs.declared.inputs.Inputs.{Inputs}
use Rattle.judging.specs.declared.judgements.Judgement.{Judgement}
use Rattle.judging.specs.declared.refusals.NotJudged.{NotJudged}
use Rattle.judging.specs.declared.refusals.NotJudged.TheVariants.{Refused, NoMemory}
use Rattle.judging.specs.Inputs.{limit_of}

-- what is found of the book on each side, where each property with a certificate holds; the first property that is not
-- certified after the change; and the report of what is found
pub record IsJudgement (inputs : Inputs) (judgement : Judgement) : Type 0 where
  pub base : IsOutcome inputs.base inputs.book judgement.base
  pub new : IsOutcome inputs.new inputs.book judgement.new
  pub missing : judgement.missing ≡ first_missing judgement.new.verdicts
  pub report : judgement.report ≡ report_of inputs.book inputs.base judgement.base inputs.new judgement.new

-- inputs are judged where neither side has too many cases; else that is the refusal
abbrev pub Concludes : Inputs → Result Judgement NotJudged → Type 0
Concludes inputs (Ok judgement) = (limit_of inputs ≡ None) × IsJudgement inputs judgement
Concludes inputs (Err (Refused refusal)) = limit_of inputs ≡ Some refusal
Concludes inputs (Err NoMemory) = Unit {0}

-- the ticks before and after: one for each case that was solved on either side, none at a refusal
abbrev pub Counts : ℕ → ℕ → Result Judgement NotJudged → Type 0
Counts before now (Ok judgement) = now ≡ before + judgement.base.solved + judgement.new.solved
Counts before now (Err (Refused refusal)) = now ≡ before
Counts before now (Err NoMemory) = Unit {0}
