use Rattle.std.proofs.Common.{◌+◌, ◌*◌}
use Rattle.unit_tests.proofs.boards.«+fn-raise_from_threads-join+arg2+fn-raise_from_threads-join+arg3+raise_from_threads».Given as goal

abbrev pub decreases-join+arg2 : goal.decreases-join+arg2
decreases-join+arg2 g l = 2 * l.left + 1

abbrev pub decreases-join+arg3 : goal.decreases-join+arg3
decreases-join+arg3 g l = 2 * l.right + 1

abbrev pub decreases-raise_from_threads : goal.decreases-raise_from_threads
decreases-raise_from_threads g l = 2 * l.many
