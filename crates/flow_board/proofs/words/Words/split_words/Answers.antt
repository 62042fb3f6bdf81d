use Rattle.std.proofs.Common.{arith}
use Rattle.flow_board.proofs.RuleLemmas.{splits_view}
use Rattle.flow_board.proofs.words.Words.split_words.Goals as goal

pub split_seat-requires : goal.split_seat-requires
split_seat-requires c = (c.requires.mine, omega (arith, c.args.self.now.whole, c.args.self.now.some), splits_view _ c.args.seat.now.me.0 c.requires.live)
