use Rattle.std.proofs.Common.{◌≡◌, drop}
use Rattle.frr_reader.specs.Table.{first_given, found_in}
use Rattle.frr_reader.proofs.table.found_outwards.Given as goal

abbrev pub invariant-loop-outer : goal.invariant-loop-outer
invariant-loop-outer l = first_given (found_in l.line) l.outer-items ≡ first_given (found_in l.line) (drop l.outer-index l.outer-items)
