use Rattle.flow_board.proofs.RuleLemmas.{looks}
use Rattle.flow_board.proofs.words.Words.word.Goals as goal

pub load-requires : goal.load-requires
load-requires c = (c.requires.mine, c.requires.within, looks _ _ c.args.word c.args.seat.now.me.0 c.args.seat.now.me.1 c.requires.live)
