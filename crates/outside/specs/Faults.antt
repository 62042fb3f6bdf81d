-- Counts of faults, which saturate at the greatest number of 64 bits.
use Rattle.std.specs.Prelude.{ℕ, ◌+◌, ◌-◌, ◌^◌, ◌≤◌, min}

-- the count after one more fault
abbrev pub risen : ℕ → ℕ
risen count = min (count + 1) (2 ^ 64 - 1)

-- the count rose in a call by one at least, or stands at the greatest number that it can hold
abbrev pub Rose : ℕ → ℕ → Type 0
Rose before now = risen before ≤ now
