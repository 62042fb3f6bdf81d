use Rattle.std.proofs.Common.{◌≡◌, ◌-◌, ◌≤◌, ◌+◌, vec_len, option_map, drop}
use Rattle.desk_requests.specs.Head.{head_len}
use Rattle.doors.specs.Door.{Told}
use Rattle.doors.specs.Reading.{IsRead}
use Rattle.desk_requests.proofs.heads.end_of_head.Given as goal

abbrev pub invariant-loop-bytes : goal.invariant-loop-bytes
invariant-loop-bytes g l = record {
  few : vec_len l.bytes ≤ 16384;
  here : l.from ≤ vec_len l.bytes;
  start : head_len l.bytes.items ≡ option_map (λ n. l.from + n) (head_len (drop l.from l.bytes.items));
  still : g.D.Door.faults l.door ≡ g.D.Door.faults l.initial.door;
  opened : g.D.Door.is_open l.door ≡ g.D.Door.is_open l.initial.door;
  told : (t : Told) → IsRead t l.initial.bytes.items (g.D.Door.told l.initial.door) → IsRead t l.bytes.items (g.D.Door.told l.door);
}

abbrev pub decreases-loop-bytes : goal.decreases-loop-bytes
decreases-loop-bytes g l = 16384 - vec_len l.bytes
