-- What a step of a command answers: its value, or its refusal.
use Rattle.std.specs.Prelude.{ℕ, ◌≡◌, ◌≤◌, ◌+◌, Bool, List as Seq, Result, Ok, Err}
use Rattle.outside.specs.Faults.{Rose}
use Rattle.commands.specs.declared.answer.Answer.{Answer}
use Rattle.commands.specs.declared.refusals.Refusal.{Refusal}
use Rattle.commands.specs.declared.stop.Stop.{Stop}
use Rattle.commands.specs.declared.stop.Stop.TheVariants.{Refused, ReadFault, NoMemory}

-- the answer is the step's value or its refusal, unless the shelf failed or there was no memory
abbrev pub Gives : {A : Type 0} → Result A Refusal → Result A Stop → Type 0
Gives value (Ok found) = value ≡ Ok found
Gives value (Err (Refused refusal)) = value ≡ Err refusal
Gives value (Err ReadFault) = Unit {0}
Gives value (Err NoMemory) = Unit {0}

-- the count of the shelf's faults by the answer: it rose where the answer is that the shelf failed, and else stands,
-- so no call that failed is tried again or passed over
abbrev pub HasCause : {A : Type 0} → ℕ → ℕ → Result A Stop → Type 0
HasCause before now (Ok found) = now ≡ before
HasCause before now (Err (Refused refusal)) = now ≡ before
HasCause before now (Err ReadFault) = (before ≤ now) × Rose before now
HasCause before now (Err NoMemory) = now ≡ before

-- the answer is not that the shelf failed
abbrev pub IsCalm : {A : Type 0} → Result A Stop → Type 0
IsCalm (Ok found) = Unit {0}
IsCalm (Err (Refused refusal)) = Unit {0}
IsCalm (Err ReadFault) = ⊥
IsCalm (Err NoMemory) = Unit {0}

-- a stop at this refusal, unless there was no memory for it
abbrev pub StopsAt : Refusal → Stop → Type 0
StopsAt wanted (Refused refusal) = refusal ≡ wanted
StopsAt wanted ReadFault = ⊥
StopsAt wanted NoMemory = Unit {0}

-- what a command comes to: the answer on its inputs, or the refusal of the step that refuses
abbrev pub Comes : {A : Type 0} → (A → Seq ℕ → Bool → Type 0) → Result A Refusal → Result Answer Stop → Type 0
Comes {A} Is value (Ok answer) = (inputs : A) × (value ≡ Ok inputs) × Is inputs answer.text answer.good
Comes Is value (Err (Refused refusal)) = value ≡ Err refusal
Comes Is value (Err ReadFault) = Unit {0}
Comes Is value (Err NoMemory) = Unit {0}

-- the ticks before and after a command: as many as are counted of its inputs, none where a step refuses
abbrev pub CountsOf : {A : Type 0} → (A → ℕ) → Result A Refusal → ℕ → ℕ → Type 0
CountsOf count (Ok inputs) before now = now ≡ before + count inputs
CountsOf count (Err refusal) before now = now ≡ before

-- so by what the command comes to, unless there was no memory or the shelf failed
abbrev pub Counts : {A : Type 0} → (A → ℕ) → Result A Refusal → ℕ → ℕ → Result Answer Stop → Type 0
Counts count value before now (Ok answer) = CountsOf count value before now
Counts count value before now (Err (Refused refusal)) = CountsOf count value before now
Counts count value before now (Err ReadFault) = Unit {0}
Counts count value before now (Err NoMemory) = Unit {0}

-- a command that ends before its answer makes no tick, unless there was no memory
abbrev pub Unticked : {A : Type 0} → ℕ → ℕ → Result A Stop → Type 0
Unticked before now (Ok found) = Unit {0}
Unticked before now (Err (Refused refusal)) = now ≡ before
Unticked before now (Err ReadFault) = now ≡ before
Unticked before now (Err NoMemory) = Unit {0}
