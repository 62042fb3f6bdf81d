-- What a line is answered with: a value, or the first cause for which it is refused.
use Rattle.std.specs.Prelude.{ℕ, Bool, true, false, ◌≡◌, List, Option, Some, None, Result, Ok, Err, if◌then◌else◌}
use Rattle.frr_policy.specs.declared.refusals.LineRefusal.{LineRefusal as PolicyRefusal}
use Rattle.frr_policy.specs.declared.refusals.LineRefusal.TheVariants.{Unsupported as PolicyUnsupported, OutOfPlace as PolicyOutOfPlace, BadValue as PolicyBadValue, Repeated as PolicyRepeated, OutOfLimit as PolicyOutOfLimit, NoMemory as PolicyNoMemory}
use Rattle.frr_reader.specs.declared.causes.Cause.{Cause}
use Rattle.frr_reader.specs.declared.causes.Cause.TheVariants.{Unsupported, OutOfPlace, BadValue, Repeated, OutOfLimit}
use Rattle.frr_reader.specs.declared.causes.LineRefusal.{LineRefusal}
use Rattle.frr_reader.specs.declared.causes.LineRefusal.TheVariants.{Refused, NoMemory}
use Rattle.frr_reader.specs.Values.{is_nothing}

-- a value that the rest has to give
abbrev pub needs : {A B : Type 0} → Option A → (A → Result B Cause) → Result B Cause
needs None next = Err BadValue
needs (Some value) next = next value

-- what has to stand before the line
abbrev pub needs_before : {A B : Type 0} → Option A → (A → Result B Cause) → Result B Cause
needs_before None next = Err OutOfPlace
needs_before (Some value) next = next value

-- what may be set once
abbrev pub unless_set : {A : Type 0} → Bool → A → Result A Cause
unless_set true new = Err Repeated
unless_set false new = Ok new

-- a row with nothing behind its head
abbrev pub alone : {A : Type 0} → List (List ℕ) → A → Result A Cause
alone rest new = if is_nothing rest then Ok new else Err BadValue

-- what is done with a value, if there is one
abbrev pub and_then : {A B : Type 0} → Result A Cause → (A → Result B Cause) → Result B Cause
and_then (Ok value) next = next value
and_then (Err cause) next = Err cause

-- the cause by a refusal of a line of a list or a map; want of memory is never meant there, by
-- `law_of_refusals` of `frr_policy`
abbrev pub cause_of : PolicyRefusal → Cause
cause_of PolicyUnsupported = Unsupported
cause_of PolicyOutOfPlace = OutOfPlace
cause_of PolicyBadValue = BadValue
cause_of PolicyRepeated = Repeated
cause_of PolicyOutOfLimit = OutOfLimit
cause_of PolicyNoMemory = Unsupported

-- what a line of a list or a map gives
abbrev pub by_policy : {A : Type 0} → Result A PolicyRefusal → Result A Cause
by_policy (Ok value) = Ok value
by_policy (Err refusal) = Err (cause_of refusal)

-- a step as a call does it: it is refused for the step's cause, or the state is the step's; memory may
-- be wanting at any time
abbrev pub Takes : {S : Type 0} → Result S Cause → S → Result (Unit {0}) LineRefusal → Type 0
Takes value new (Ok _) = value ≡ Ok new
Takes value new (Err (Refused cause)) = value ≡ Err cause
Takes value new (Err NoMemory) = Unit {0}

-- the same of a call that answers with a value
abbrev pub Gives : {A : Type 0} → Result A Cause → Result A LineRefusal → Type 0
Gives value (Ok a) = value ≡ Ok a
Gives value (Err (Refused cause)) = value ≡ Err cause
Gives value (Err NoMemory) = Unit {0}
