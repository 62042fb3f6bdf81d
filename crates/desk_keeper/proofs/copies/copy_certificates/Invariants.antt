use Rattle.std.proofs.Common.{◌≡◌, ◌++◌, drop}
use Rattle.desk_keeper.proofs.copies.copy_certificates.Given as goal

abbrev pub invariant-loop-row : goal.invariant-loop-row
invariant-loop-row l = l.all ++ drop l.row-index l.rows ≡ l.rows
