use Rattle.std.proofs.Common.{sym, subst}
use Rattle.abstract_route.specs.declared.rows.Row.{Row}
use Rattle.flow_board.specs.RowWords.{IsMet}
use Rattle.flow_board.proofs.ViewLemmas.{ready_looks, looked_met, looked_same}
use Rattle.flow_board.proofs.words.Words.read.Goals as goal

pub read_words-words-requires-clause-live : goal.read_words-words-requires-clause-live
read_words-words-requires-clause-live c = ready_looks c.args.self.now.count c.args.router c.args.seat.now.me.0 c.requires.within c.requires.ready

pub returns-clause-same : goal.returns-clause-same
returns-clause-same c =
    let same = looked_same c.args.self.now.count c.args.router c.args.seat.now.me.0 c.read_words-words.result c.read_words-words.new.seat.me.0 c.requires.ready c.read_words-words.ensures.told in
    λ i. (same i, c.read_words-words.ensures.held i)

pub returns-clause-met : goal.returns-clause-met
returns-clause-met c =
    subst (λ (r : Row). IsMet c.args.self.now.count c.args.router c.args.seat.now.me.0 r) (sym c.row_in.ensures.row)
    (looked_met c.args.self.now.count c.args.router c.args.seat.now.me.0 c.read_words-words.result c.read_words-words.new.seat.me.0 c.requires.within c.requires.ready c.read_words-words.ensures.told)
