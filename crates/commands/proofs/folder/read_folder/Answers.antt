use Rattle.std.proofs.Common.{◌∙◌}
use Rattle.commands.proofs.FolderLemmas.{folder_of-listed}
use Rattle.commands.proofs.folder.read_folder.Goals as goal

pub returns-in-Ok-clause-told : goal.returns-in-Ok-clause-told
returns-in-Ok-clause-told g c = λ content e.
    rw (folder_of-listed content c.args.bundle c.args.folder.now c.in-Ok.names (c.in-Ok.ensures.told content e)) (c.read_listed.ensures.told content (c.in-Ok.ensures.same ∙ e))
