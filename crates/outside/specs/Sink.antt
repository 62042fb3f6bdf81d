-- What the answers of a sink mean.
use Rattle.std.specs.Prelude.{◌≡◌, ℕ, ◌<◌, ◌≤◌, List, ◌++◌, Option, Some, Result, Ok, Err, length, take}
use Rattle.outside.specs.Faults.{Rose}

-- the count of faults by the answer of a call: it rose where the call failed, and else stands
abbrev pub HasCause : {A E : Type 0} → ℕ → ℕ → Result A E → Type 0
HasCause before now (Ok a) = now ≡ before
HasCause before now (Err e) = Rose before now

-- how many bytes of a piece may be taken: some where there are any
abbrev pub Takes : {E : Type 0} → List ℕ → Result ℕ E → Type 0
Takes piece (Ok k) = (k ≤ length piece) × (0 < length piece → 0 < k)
Takes piece (Err e) = Unit {0}

-- the bytes that are told after a piece was given: the first bytes of it are behind those before, or none where the call failed
abbrev pub Appends : {E : Type 0} → List ℕ → List ℕ → Result ℕ E → Option (List ℕ) → Type 0
Appends given piece (Ok k) now = now ≡ Some (given ++ take k piece)
Appends given piece (Err e) now = now ≡ Some given

-- the same after a whole piece was given: all of it, or where the call failed the beginning of it that was taken before
abbrev pub AppendsAll : {E : Type 0} → List ℕ → List ℕ → Result (Unit {0}) E → Option (List ℕ) → Type 0
AppendsAll given piece (Ok a) now = now ≡ Some (given ++ piece)
AppendsAll given piece (Err e) now = (k : ℕ) × (k < length piece) × (now ≡ Some (given ++ take k piece))
