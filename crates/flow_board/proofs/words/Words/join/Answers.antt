use Rattle.std.proofs.Common.{sym, subst}
use Rattle.flow_board.specs.RowWords.{IsJoined}
use Rattle.flow_board.specs.declared.view.View.{View}
use Rattle.flow_board.proofs.ViewLemmas.{ready_joins, joined_both}
use Rattle.flow_board.proofs.words.Words.join.Goals as goal

pub join_words-requires-clause-live : goal.join_words-requires-clause-live
join_words-requires-clause-live c = ready_joins c.args.self.now.count c.args.seat.now.me.0 c.args.other.me.0 c.requires.ready.0 c.requires.ready.1

pub returns-clause-joined : goal.returns-clause-joined
returns-clause-joined c =
    let n = c.args.self.now.count in let v = c.args.seat.now.me.0 in let w = c.args.other.me.0 in
    subst (λ (x : View). IsJoined n v w x) (sym c.join_words.ensures.both) (joined_both n v w c.requires.ready.0 c.requires.ready.1)
