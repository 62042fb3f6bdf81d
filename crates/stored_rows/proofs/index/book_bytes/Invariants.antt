use Rattle.std.proofs.Common.{◌≡◌, ◌-◌, ◌^◌, min, sum_by, take}
use Rattle.stored_rows.specs.Index.{book_size}
use Rattle.stored_rows.proofs.index.book_bytes.Given as goal

abbrev pub invariant-loop-policy : goal.invariant-loop-policy
invariant-loop-policy l = l.size ≡ min (sum_by book_size (take l.policy-index l.policies)) (2 ^ 128 - 1)
