use Rattle.std.proofs.Common.{◌≡◌, ◌++◌, drop}
use Rattle.std.specs.Prelude.{filter_map}
use Rattle.outside.specs.Entries.{entry_name}
use Rattle.outside.proofs.entries.entry_names.Given as goal

abbrev pub invariant-loop-entry : goal.invariant-loop-entry
invariant-loop-entry l = l.names ++ filter_map (entry_name l.folder) (drop l.entry-index l.entries) ≡ filter_map (entry_name l.folder) l.entries
