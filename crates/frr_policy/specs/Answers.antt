-- The answer of a reader of lines.
use Rattle.std.specs.Prelude.{◌≡◌, Option, Some, None, Result, Ok, Err}
use Rattle.frr_policy.specs.declared.refusals.LineRefusal.{LineRefusal}
use Rattle.frr_policy.specs.declared.refusals.LineRefusal.TheVariants.{BadValue, NoMemory}

-- the answer is the value or the refusal that is meant; memory may be wanting at any time
abbrev pub Answers : {A : Type 0} → Result A LineRefusal → Result A LineRefusal → Type 0
Answers meant (Ok a) = meant ≡ Ok a
Answers meant (Err NoMemory) = Unit {0}
Answers meant (Err refusal) = meant ≡ Err refusal

-- a line whose words do not fit its row is refused
abbrev pub or_bad_value : {A : Type 0} → Option A → Result A LineRefusal
or_bad_value None = Err BadValue
or_bad_value (Some a) = Ok a

-- what is answered behind a value, if there is one
abbrev pub then_answer : {A B : Type 0} → Result A LineRefusal → (A → Result B LineRefusal) → Result B LineRefusal
then_answer (Ok a) next = next a
then_answer (Err refusal) next = Err refusal
