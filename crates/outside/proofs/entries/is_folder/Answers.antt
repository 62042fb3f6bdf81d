-- Whether a folder is there, entry by entry.
use Rattle.std.proofs.Common.{sym, ◌∙◌}
use Rattle.outside.proofs.EntryLemmas.{is_folder-entries}
use Rattle.outside.proofs.entries.is_folder.Goals as goal

pub returns : goal.returns
returns c = c.some_makes_folder.ensures ∙ sym (is_folder-entries c.args.entries.now c.args.folder.now)
