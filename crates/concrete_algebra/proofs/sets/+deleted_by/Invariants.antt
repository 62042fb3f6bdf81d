use Rattle.std.proofs.Common.{length}
use Rattle.concrete_algebra.proofs.sets.+deleted_by.Given as goal

abbrev pub decreases-deleted_by : goal.decreases-deleted_by
decreases-deleted_by l = length l.entries.now
