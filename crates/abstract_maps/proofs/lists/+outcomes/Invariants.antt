use Rattle.std.proofs.Common.{length}
use Rattle.abstract_maps.proofs.lists.+outcomes.Given as goal

abbrev pub decreases-outcomes : goal.decreases-outcomes
decreases-outcomes l = length l.entries.now
