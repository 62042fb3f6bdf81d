-- A function applied so many times, and the set of the numbers that pass a test.
use Rattle.std.specs.Prelude.{ℕ, zero, suc, ◌^◌, Bool, bit_or, if◌then◌else◌}

unfoldable pub turns : {X : Type 0} → (X → X) → ℕ → X → X
turns f zero x = x
turns f (suc k) x = f (turns f k x)

-- the set of those of the first numbers that pass a test
unfoldable pub set_of : (ℕ → Bool) → ℕ → ℕ
set_of test zero = 0
set_of test (suc k) = if test k then bit_or (set_of test k) (2 ^ k) else set_of test k
