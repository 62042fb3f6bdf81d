-- How a check ends: the steps in their order, the first that refuses deciding, and the report.
use Rattle.std.specs.Prelude.{ℕ, ◌≡◌, ◌+◌, Bool, List as Seq, [], Result, Ok}
use Rattle.net_types.specs.declared.config.SourceFile.{SourceFile}
use Rattle.net_types.specs.declared.refusals.BundleSide.TheVariants.{Base, New}
use Rattle.outside.specs.Content.{Content}
use Rattle.property_book.specs.Outcomes.{are_certified}
use Rattle.ladder.specs.Book.{ladder_book}
use Rattle.ladder.specs.Files.{ladder_files}
use Rattle.certify.specs.Counts.{solved_of}
use Rattle.judging.specs.declared.inputs.Inputs.{Inputs}
use Rattle.judging.specs.declared.judgements.Judgement.{Judgement}
use Rattle.judging.specs.declared.refusals.JudgeRefusal.{JudgeRefusal}
use Rattle.judging.specs.declared.refusals.JudgeRefusal.TheVariants as Change
use Rattle.judging.specs.Inputs.{inputs_of, inputs_with, limited}
use Rattle.judging.specs.Judgements.{IsJudgement}
use Rattle.judging.specs.Steps.{and_then, or_refused}
use Rattle.commands.specs.declared.refusals.Bundle.TheVariants.{Of}
use Rattle.commands.specs.declared.refusals.Form.TheVariants.{Properties}
use Rattle.commands.specs.declared.refusals.Refusal.{Refusal}
use Rattle.commands.specs.declared.refusals.Refusal.TheVariants as Cause
use Rattle.commands.specs.Folder.{bytes_of, folder_of}

-- the refusal of a change, with the files that it is of
abbrev pub of_judging : Seq SourceFile → Seq SourceFile → JudgeRefusal → Refusal
of_judging base new (Change.Bundle Base refusal) = Cause.Bundle (Of Base) base refusal
of_judging base new (Change.Bundle New refusal) = Cause.Bundle (Of New) new refusal
of_judging base new (Change.Book refusal) = Cause.Form Properties refusal
of_judging base new (Change.CasesLimit side cases) = Cause.CasesLimit side cases

-- the inputs of files that were read
abbrev pub judged : Seq SourceFile → Seq SourceFile → Seq ℕ → Result Inputs Refusal
judged base new properties = or_refused (of_judging base new) (inputs_of base new properties)

-- the inputs, unless the book has too many cases on a side, the one before the change being first: no file is named then
unfoldable pub limited_inputs : Inputs → Result Inputs Refusal
limited_inputs inputs = or_refused (of_judging [] []) (limited inputs)

-- the inputs of a check of two folders and a property file, or the refusal of the first step that refuses: read base, unless
-- it has too many files; read new likewise; read the properties; base refused; new refused; properties refused
unfoldable pub check_inputs : Content → Seq ℕ → Seq ℕ → Seq ℕ → Result Inputs Refusal
check_inputs content base new properties =
    and_then (folder_of content (Of Base) base) (λ base_files.
    and_then (folder_of content (Of New) new) (λ new_files.
    and_then (bytes_of content properties) (λ text. judged base_files new_files text)))

-- and then the cases of base, and the cases of new
abbrev pub check_steps : Content → Seq ℕ → Seq ℕ → Seq ℕ → Result Inputs Refusal
check_steps content base new properties = and_then (check_inputs content base new properties) limited_inputs

-- the inputs of `gen`: the networks of no files and of a ladder, with its book; and then the cases likewise
unfoldable pub gen_inputs : ℕ → Result Inputs Refusal
gen_inputs columns = or_refused (of_judging [] (ladder_files columns)) (inputs_with [] (ladder_files columns) (Ok (ladder_book columns)))

abbrev pub gen_steps : ℕ → Result Inputs Refusal
gen_steps columns = and_then (gen_inputs columns) limited_inputs

-- how many cases are solved on both sides, each with a tick
abbrev pub solved_in : Inputs → ℕ
solved_in inputs = solved_of inputs.base inputs.book + solved_of inputs.new inputs.book

-- the report of inputs, where each property with a certificate holds; whether every verdict of the new side is a
-- certificate; and the two numbers of solved cases that the report prints are those that were solved
pub record IsReport (inputs : Inputs) (text : Seq ℕ) (certified : Bool) : Type 0 where
  pub judgement : Judgement
  pub is : IsJudgement inputs judgement
  pub report : text ≡ judgement.report
  pub status : certified ≡ are_certified judgement.new.verdicts
  pub solved : judgement.base.solved + judgement.new.solved ≡ solved_in inputs
