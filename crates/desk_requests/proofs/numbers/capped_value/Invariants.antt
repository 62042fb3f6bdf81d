use Rattle.std.proofs.Common.{◌≡◌, ◌^◌, min, take}
use Rattle.net_types.specs.Numerals.{value}
use Rattle.desk_requests.proofs.numbers.capped_value.Given as goal

abbrev pub invariant-loop-digit : goal.invariant-loop-digit
invariant-loop-digit l = l.number ≡ min (value (take l.digit-index l.digits)) (2 ^ 64)
