-- What a judged change comes to, as the ending of a command.
use Rattle.std.proofs.Common.{ℕ, ◌≡◌, ◌+◌, List, [], Option, Some, None, Result, Ok, Err, sym, subst, ap, ◌∙◌, refl, arith}
use Rattle.judging.specs.declared.inputs.Inputs.{Inputs}
use Rattle.judging.specs.declared.refusals.JudgeRefusal.{JudgeRefusal}
use Rattle.judging.specs.Inputs.{limit_of, unless_refused}
use Rattle.judging.specs.Steps.{and_then, or_refused}
use Rattle.commands.specs.declared.answer.Answer.{Answer}
use Rattle.commands.specs.declared.refusals.Refusal.{Refusal}
use Rattle.commands.specs.declared.stop.Stop.{Stop}
use Rattle.commands.specs.CheckEnding.{limited_inputs, of_judging}

-- the inputs are kept where neither side has too many cases
pub limited_none : (inputs : Inputs) → limit_of inputs ≡ None → limited_inputs inputs ≡ Ok inputs
unfolding limited_inputs
limited_none inputs none = ap (λ (o : Option JudgeRefusal). or_refused (of_judging [] []) (unless_refused o inputs)) none

pub limited_some : (inputs : Inputs) (refusal : JudgeRefusal) → limit_of inputs ≡ Some refusal → limited_inputs inputs ≡ Err (of_judging [] [] refusal)
unfolding limited_inputs
limited_some inputs refusal is = ap (λ (o : Option JudgeRefusal). or_refused (of_judging [] []) (unless_refused o inputs)) is

-- a step that follows
pub then_ok : {A B : Type 0} (first : Result A Refusal) (next : A → Result B Refusal) (a : A) → first ≡ Ok a → and_then first next ≡ next a
then_ok first next a is = ap (λ (r : Result _ Refusal). and_then r next) is

pub then_err : {A B : Type 0} (first : Result A Refusal) (next : A → Result B Refusal) (refusal : Refusal) → first ≡ Err refusal → and_then first next ≡ Err refusal
then_err first next refusal is = ap (λ (r : Result _ Refusal). and_then r next) is
