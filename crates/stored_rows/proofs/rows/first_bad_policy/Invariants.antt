use Rattle.std.proofs.Common.{◌≡◌, take, drop, []}
use Rattle.stored_rows.specs.Stored.{first_bad, bad_policy}
use Rattle.stored_rows.proofs.rows.first_bad_policy.Given as goal

abbrev pub invariant-loop-i : goal.invariant-loop-i
invariant-loop-i l = first_bad bad_policy (take l.i l.rows) (drop l.i l.rows) ≡ first_bad bad_policy [] l.rows
