use Rattle.flow_board.proofs.PassLemmas.{opened_pass}
use Rattle.flow_board.proofs.board.Board.open.Goals as goal

pub returns : goal.returns
returns g c = record {
  count = c.in_ok-words.ensures.count;
  seat = opened_pass c.in_ok-words.token.table_id c.in_ok-words.words.table.shared.table_id c.in_ok-words.words.count c.args.start.now g.K.Roof.rows c.in_ok-words.token.me.0
      c.in_ok-words.ensures.mine.0 c.in_ok-words.words.whole c.in_ok-words.ensures.count c.in_ok-words.ensures.view;
}
