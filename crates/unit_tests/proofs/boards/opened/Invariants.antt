use Rattle.std.proofs.Common.{length, replicate}
use Rattle.unit_tests.specs.Boards.{top}
use Rattle.unit_tests.proofs.boards.opened.Given as goal

abbrev pub ghosts-open : goal.ghosts-open
ghosts-open a = record { rows = replicate (length a.start.now) top }
