use Rattle.unit_tests.proofs.BoardLemmas.{joined_free}
use Rattle.unit_tests.proofs.boards.together.Goals as goal

pub returns : goal.returns
returns c = joined_free c.args.board.now c.args.one c.args.other c.join.result c.requires.one c.join.ensures
