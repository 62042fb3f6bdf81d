use Rattle.std.proofs.Common.{arith}
use Rattle.flow_board.proofs.RuleLemmas.{joins_view}
use Rattle.flow_board.proofs.words.Words.join_words.Goals as goal

pub join_seat-requires : goal.join_seat-requires
join_seat-requires c = (c.requires.mine, c.requires.theirs, c.requires.none, omega (arith, c.args.self.now.whole, c.args.self.now.some), joins_view _ _ c.args.seat.now.me.0 c.args.other.me.0 c.requires.live)
