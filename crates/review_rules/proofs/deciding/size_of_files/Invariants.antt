use Rattle.std.proofs.Common.{◌≡◌, ◌-◌, ◌^◌, min, sum_by, take}
use Rattle.review_rules.specs.Rules.{size_of}
use Rattle.review_rules.proofs.deciding.size_of_files.Given as goal

abbrev pub invariant-loop-file : goal.invariant-loop-file
invariant-loop-file l = l.size ≡ min (sum_by size_of (take l.file-index l.files)) (2 ^ 128 - 1)
