use Rattle.std.proofs.Common.{◌≡◌, drop}
use Rattle.std.specs.Prelude.{find}
use Rattle.outside.specs.Entries.{is_file_at}
use Rattle.outside.proofs.entries.file_at.Given as goal

abbrev pub invariant-loop-entry : goal.invariant-loop-entry
invariant-loop-entry l = find (is_file_at l.path) (drop l.entry-index l.entries) ≡ find (is_file_at l.path) l.entries
