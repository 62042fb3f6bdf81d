use Rattle.std.proofs.Common.{length}
use Rattle.label_file.proofs.links.+ascends.Given as goal

abbrev pub decreases-ascends : goal.decreases-ascends
decreases-ascends l = length l.links.now
