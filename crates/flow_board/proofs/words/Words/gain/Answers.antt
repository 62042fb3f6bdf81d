use Rattle.flow_board.specs.Order.{gain}
use Rattle.flow_board.proofs.RuleLemmas.{raises}
use Rattle.flow_board.proofs.words.Words.gain.Goals as goal

pub fetch_or-requires : goal.fetch_or-requires
fetch_or-requires c = (c.requires.mine, c.requires.within, raises _ _ c.args.word c.args.value c.args.seat.now.me.0 c.args.seat.now.me.1 gain c.requires.kind c.requires.fits)
