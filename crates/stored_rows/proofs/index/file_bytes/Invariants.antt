use Rattle.std.proofs.Common.{◌≡◌, ◌-◌, ◌^◌, min, sum_by, take}
use Rattle.stored_rows.specs.Index.{file_size}
use Rattle.stored_rows.proofs.index.file_bytes.Given as goal

abbrev pub invariant-loop-file : goal.invariant-loop-file
invariant-loop-file l = l.size ≡ min (sum_by file_size (take l.file-index l.files)) (2 ^ 128 - 1)
