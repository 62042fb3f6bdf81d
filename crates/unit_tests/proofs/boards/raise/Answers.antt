use Rattle.unit_tests.proofs.BoardLemmas.{raised_free}
use Rattle.unit_tests.proofs.boards.raise.Goals as goal

pub raise-requires-clause-under : goal.raise-requires-clause-under
raise-requires-clause-under c = c.requires.seat.roof c.args.node c.args.row.now c.requires.node c.fits.ensures

pub returns : goal.returns
returns c = raised_free c.args.board.now c.args.seat c.raise.result.0 c.args.node c.args.row.now c.requires.seat c.raise.ensures.raised
