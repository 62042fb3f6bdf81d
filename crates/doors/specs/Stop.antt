-- Why a reading ended.
use Rattle.std.specs.Prelude.{◌≡◌, ℕ, Result, Ok, Err}
use Rattle.outside.specs.Faults.{Rose}
use Rattle.doors.specs.declared.reading.Stop.{Stop}
use Rattle.doors.specs.declared.reading.Stop.TheVariants.{Failed, NoMemory}

-- the count of faults by the answer: it rose where the door failed, and else stands
abbrev pub HasReason : {A : Type 0} → ℕ → ℕ → Result A Stop → Type 0
HasReason before now (Ok a) = now ≡ before
HasReason before now (Err Failed) = Rose before now
HasReason before now (Err NoMemory) = now ≡ before
