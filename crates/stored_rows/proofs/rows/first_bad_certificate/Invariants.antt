use Rattle.std.proofs.Common.{◌≡◌, ◌+◌, drop, None}
use Rattle.std.specs.Option.{option_copied}
use Rattle.stored_rows.specs.Stored.{first_out, bad_certificate}
use Rattle.stored_rows.proofs.rows.first_bad_certificate.Given as goal

abbrev pub invariant-loop-i : goal.invariant-loop-i
invariant-loop-i l = first_out (bad_certificate l.reviews l.policies) (l.i + 1) (option_copied l.last) (drop l.i l.rows) ≡ first_out (bad_certificate l.reviews l.policies) 1 None l.rows
