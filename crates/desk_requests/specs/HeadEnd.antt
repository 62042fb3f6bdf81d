-- Reading up to the end of the head.
use Rattle.std.specs.Prelude.{◌≡◌, ℕ, ◌≤◌, List, Option, None, Some, Result, Ok, Err, length, take}
use Rattle.doors.specs.Door.{Told, left_of, past}
use Rattle.doors.specs.Reading.{IsRead}
use Rattle.desk_requests.specs.Head.{end_of, most_bytes, framed}
use Rattle.desk_requests.specs.declared.refusals.HttpRefusal.{HttpRefusal}

-- bytes that were read until the head's end is in them, or the input has ended, or no more may be read
abbrev pub EndsHead : {E : Type 0} → Told → Result (Option ℕ) E → List ℕ → Option Told → Type 0
EndsHead t (Ok (Some n)) bytes now = IsRead t bytes now × (end_of (left_of t) ≡ Some n) × (n ≤ length bytes)
EndsHead t (Ok None) bytes now = IsRead t bytes now × (end_of (left_of t) ≡ None) × (bytes ≡ take most_bytes (left_of t))
EndsHead t (Err e) bytes now = (n : ℕ) × (now ≡ Some (past n t))

-- the length of the head is known, and it was read
abbrev pub Frames : {E : Type 0} → Told → Result (Result ℕ HttpRefusal) E → List ℕ → Option Told → Type 0
Frames t (Ok (Ok n)) bytes now = IsRead t bytes now × (framed (left_of t) ≡ Ok n) × (n ≤ length bytes)
Frames t (Ok (Err f)) bytes now = IsRead t bytes now × (framed (left_of t) ≡ Err f)
Frames t (Err e) bytes now = (n : ℕ) × (now ≡ Some (past n t))
