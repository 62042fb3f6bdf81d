use Rattle.unit_tests.specs.Boards.{IsFree}
use Rattle.unit_tests.proofs.boards.raise_many.Given as goal

abbrev pub invariant-loop-round : goal.invariant-loop-round
invariant-loop-round l = IsFree l.board l.seat
