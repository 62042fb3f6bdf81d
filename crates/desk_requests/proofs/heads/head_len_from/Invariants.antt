use Rattle.std.proofs.Common.{◌≡◌, ◌-◌, ◌+◌, ◌≤◌, length, drop, option_map}
use Rattle.desk_requests.specs.Head.{head_len}
use Rattle.desk_requests.proofs.heads.head_len_from.Given as goal

abbrev pub invariant-loop-at : goal.invariant-loop-at
invariant-loop-at l = record {
  within : l.at ≤ length l.bytes;
  behind : head_len l.bytes ≡ option_map (λ n. l.at + n) (head_len (drop l.at l.bytes));
}

abbrev pub decreases-loop-at : goal.decreases-loop-at
decreases-loop-at l = length l.bytes - l.at
