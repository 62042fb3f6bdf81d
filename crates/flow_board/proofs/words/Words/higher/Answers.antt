use Rattle.flow_board.specs.Order.{high}
use Rattle.flow_board.proofs.RuleLemmas.{raises}
use Rattle.flow_board.proofs.words.Words.higher.Goals as goal

pub fetch_max-requires : goal.fetch_max-requires
fetch_max-requires c = (c.requires.mine, c.requires.within, raises _ _ c.args.word c.args.value c.args.seat.now.me.0 c.args.seat.now.me.1 high c.requires.kind c.requires.fits)
