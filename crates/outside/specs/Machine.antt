-- What the objects over the machine make of its answers. A shelf hands on a value; want of memory is no fault, and a
-- path that is not there is absent only where it was to be opened. A sink has no other refusal than a fault.
use Rattle.std.specs.Prelude.{◌≡◌, ◌≢◌, ℕ, Result, Ok, Err}
use Rattle.std.specs.IoError.{error_kind}
use Rattle.std.specs.declared.io.Error.{Error}
use Rattle.std.specs.declared.io.ErrorKind.TheVariants.{NotFound, OutOfMemory}
use Rattle.outside.specs.declared.shelf.ShelfError.{ShelfError}
use Rattle.outside.specs.declared.shelf.ShelfError.TheVariants.{Failed, Absent, NoMemory}
use Rattle.outside.specs.Faults.{risen}

-- the answer where a path was opened
abbrev pub Opens : {A : Type 0} → Result A Error → Result A ShelfError → Type 0
Opens (Ok a) (Ok b) = b ≡ a
Opens (Ok a) (Err refusal) = ⊥
Opens (Err e) (Ok b) = ⊥
Opens (Err e) (Err Failed) = (error_kind e ≢ NotFound) × (error_kind e ≢ OutOfMemory)
Opens (Err e) (Err Absent) = error_kind e ≡ NotFound
Opens (Err e) (Err NoMemory) = error_kind e ≡ OutOfMemory

-- the answer where what was opened is read
abbrev pub Gives : {A : Type 0} → Result A Error → Result A ShelfError → Type 0
Gives (Ok a) (Ok b) = b ≡ a
Gives (Ok a) (Err refusal) = ⊥
Gives (Err e) (Ok b) = ⊥
Gives (Err e) (Err Failed) = error_kind e ≢ OutOfMemory
Gives (Err e) (Err Absent) = ⊥
Gives (Err e) (Err NoMemory) = error_kind e ≡ OutOfMemory

-- the count of faults: one more where a call failed, and else as it was
abbrev pub CountsRefusal : ℕ → ℕ → ShelfError → Type 0
CountsRefusal before now Failed = now ≡ risen before
CountsRefusal before now Absent = now ≡ before
CountsRefusal before now NoMemory = now ≡ before

abbrev pub Counts : {A : Type 0} → ℕ → ℕ → Result A ShelfError → Type 0
Counts before now (Ok a) = now ≡ before
Counts before now (Err refusal) = CountsRefusal before now refusal

abbrev pub CountsGiven : {A E : Type 0} → ℕ → ℕ → Result A E → Type 0
CountsGiven before now (Ok a) = now ≡ before
CountsGiven before now (Err e) = now ≡ risen before
