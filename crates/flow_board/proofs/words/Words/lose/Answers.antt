use Rattle.flow_board.specs.Order.{lose}
use Rattle.flow_board.proofs.RuleLemmas.{raises}
use Rattle.flow_board.proofs.words.Words.lose.Goals as goal

pub fetch_and-requires : goal.fetch_and-requires
fetch_and-requires c = (c.requires.mine, c.requires.within, raises _ _ c.args.word c.args.value c.args.seat.now.me.0 c.args.seat.now.me.1 lose c.requires.kind c.requires.fits)
