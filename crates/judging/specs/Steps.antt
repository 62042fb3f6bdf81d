-- Steps of which each may be refused.
use Rattle.std.specs.Prelude.{Result, Ok, Err}

-- the next step, unless this one is refused
abbrev pub and_then : {A B E : Type 0} → Result A E → (A → Result B E) → Result B E
and_then (Ok value) next = next value
and_then (Err refusal) next = Err refusal

-- a step whose refusal is one of a larger whole
abbrev pub or_refused : {A E F : Type 0} → (E → F) → Result A E → Result A F
or_refused whole (Ok value) = Ok value
or_refused whole (Err refusal) = Err (whole refusal)
