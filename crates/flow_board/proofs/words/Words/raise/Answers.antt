use Rattle.std.proofs.Common.{sym, subst, ◌*◌, ℕ, List}
use Rattle.abstract_route.specs.declared.rows.Row.{Row}
use Rattle.flow_board.specs.WordSteps.{FitsRow, ToldRow}
use Rattle.flow_board.specs.RowWords.{IsMet}
use Rattle.flow_board.proofs.ViewLemmas.{fits_row, told_met, told_raised}
use Rattle.flow_board.proofs.words.Words.raise.Goals as goal

pub raise_words-words-requires-clause-fits : goal.raise_words-words-requires-clause-fits
raise_words-words-requires-clause-fits c =
    subst (λ (ws : List ℕ). FitsRow (14 * c.args.router) ws c.args.seat.now.me.0) (sym c.to_words.ensures)
    (fits_row c.args.self.now.count c.args.router c.args.seat.now.me.0 c.args.row.now c.requires.within c.requires.ready c.requires.under)

pub returns-clause-met : goal.returns-clause-met
returns-clause-met c =
    let told = subst (λ (ws : List ℕ). ToldRow (14 * c.args.router) ws c.args.seat.now.me.0 c.raise_words-words.result c.raise_words-words.new.seat.me.0) c.to_words.ensures c.raise_words-words.ensures.told in
    subst (λ (r : Row). IsMet c.args.self.now.count c.args.router c.args.seat.now.me.0 r) (sym c.row_in.ensures.row)
    (told_met c.args.self.now.count c.args.router c.args.seat.now.me.0 c.args.row.now c.raise_words-words.result c.raise_words-words.new.seat.me.0 c.requires.within c.requires.ready told)

pub returns-clause-raised : goal.returns-clause-raised
returns-clause-raised c =
    let told = subst (λ (ws : List ℕ). ToldRow (14 * c.args.router) ws c.args.seat.now.me.0 c.raise_words-words.result c.raise_words-words.new.seat.me.0) c.to_words.ensures c.raise_words-words.ensures.told in
    told_raised c.args.self.now.count c.args.router c.args.seat.now.me.0 c.args.row.now c.raise_words-words.result c.raise_words-words.new.seat.me.0 c.requires.within c.requires.ready told
