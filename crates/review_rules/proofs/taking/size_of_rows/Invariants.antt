use Rattle.std.proofs.Common.{◌≡◌, ◌-◌, ◌^◌, min, sum_by, take}
use Rattle.review_rules.specs.Changes.{file_size}
use Rattle.review_rules.proofs.taking.size_of_rows.Given as goal

abbrev pub invariant-loop-file : goal.invariant-loop-file
invariant-loop-file l = l.size ≡ min (sum_by file_size (take l.file-index l.files)) (2 ^ 128 - 1)
