use Rattle.std.proofs.Common.{rules}
use Rattle.flow_board.proofs.PassLemmas.{joined_pass}
use Rattle.flow_board.proofs.ViewLemmas.{length-own_of}
use Rattle.flow_board.proofs.board.Board.join.Goals as goal

pub returns : goal.returns
returns c =
    joined_pass c.seat.inside.token.table_id c.other.inside.token.table_id c.join.new.seat.table_id c.self.inside.words.table.shared.table_id c.self.inside.words.count
    c.seat.inside.token.me.0 c.other.inside.token.me.0 c.join.new.seat.me.0 c.args.seat c.args.other c.args.self.now
    c.seat.view_is c.other.view_is c.self.view_is c.join.ensures.mine c.requires.mine c.requires.theirs c.self.inside.words.whole (length-own_of c.self.inside.words.count c.seat.inside.token.me.0 (search rules)) c.join.ensures.joined
