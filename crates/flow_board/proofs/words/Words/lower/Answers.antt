use Rattle.flow_board.specs.Order.{low}
use Rattle.flow_board.proofs.RuleLemmas.{raises}
use Rattle.flow_board.proofs.words.Words.lower.Goals as goal

pub fetch_min-requires : goal.fetch_min-requires
fetch_min-requires c = (c.requires.mine, c.requires.within, raises _ _ c.args.word c.args.value c.args.seat.now.me.0 c.args.seat.now.me.1 low c.requires.kind c.requires.fits)
