-- Behind the folder, and then behind '/'.
use Rattle.std.proofs.Common.{sym}
use Rattle.outside.proofs.PathLemmas.{below-steps, below-no_folder}
use Rattle.outside.proofs.paths.below.Goals as goal

pub returns-in-Some : goal.returns-in-Some
returns-in-Some c = below-steps c.args.folder.now c.args.path.now c.in-Some.rest.now c.behind_slash.result c.in-Some.ensures c.behind_slash.ensures

pub returns-in-None : goal.returns-in-None
returns-in-None c = sym (below-no_folder c.args.folder.now c.args.path.now c.in-None.ensures)
