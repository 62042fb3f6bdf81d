-- The calls of an object in memory, which are counted from 1, and those of them that fail.
use Rattle.std.specs.Prelude.{ℕ, ◌+◌, ◌^◌, ◌==◌, Bool, false, List, Option, None, Some, nat_lt, if◌then◌else◌, option_and_then}
use Rattle.std.specs.List.{list_any}
use Rattle.outside.specs.Faults.{risen}

-- the number of the next call, or none once it is past 64 bits; the numbers of the calls that fail; the count of faults
pub record CallsValue : Type 0 where
  pub next : Option ℕ
  pub failing : List ℕ
  pub faults : ℕ

-- the next call is one of those that fail
abbrev pub is_listed : List ℕ → Option ℕ → Bool
is_listed failing None = false
is_listed failing (Some n) = list_any (λ k. k == n) failing

abbrev pub fails : CallsValue → Bool
fails calls = is_listed calls.failing calls.next

-- the number that follows
abbrev pub following : ℕ → Option ℕ
following n = if nat_lt (n + 1) (2 ^ 64) then Some (n + 1) else None

-- after a call that began: it is counted, and the count of faults rose where it fails
abbrev pub begun : CallsValue → CallsValue
begun calls = record {
  next = option_and_then following calls.next;
  failing = calls.failing;
  faults = if fails calls then risen calls.faults else calls.faults;
}

-- the same with one more fault
abbrev pub with_fault : CallsValue → CallsValue
with_fault calls = record { next = calls.next; failing = calls.failing; faults = risen calls.faults }
