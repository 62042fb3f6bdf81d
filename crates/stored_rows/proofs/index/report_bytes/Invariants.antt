use Rattle.std.proofs.Common.{◌≡◌, ◌-◌, ◌^◌, min, sum_by, take}
use Rattle.stored_rows.specs.Index.{report_size}
use Rattle.stored_rows.proofs.index.report_bytes.Given as goal

abbrev pub invariant-loop-certificate : goal.invariant-loop-certificate
invariant-loop-certificate l = l.size ≡ min (sum_by report_size (take l.certificate-index l.certificates)) (2 ^ 128 - 1)
