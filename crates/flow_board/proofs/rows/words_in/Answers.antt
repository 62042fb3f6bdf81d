use Rattle.std.proofs.Common.{◌∙◌, ap, List, ℕ, ◌++◌, ◌≡◌, drop, ◌+◌, rules}
use Rattle.flow_board.specs.RowWords.{row_words, words_of}
use Rattle.flow_board.proofs.ViewLemmas.{next_words}
use Rattle.flow_board.proofs.rows.words_in.Goals as goal

pub loop-row-preserved : goal.loop-row-preserved
loop-row-preserved c =
    let e : c.extend_from_slice.new.self.items ≡ c.loop-row.words.items ++ row_words c.row-item.result = c.in_ok-extend_from_slice.ensures.items ∙ ap (λ (xs : List ℕ). c.loop-row.words.items ++ xs) c.to_words.ensures in
    ap (λ (xs : List ℕ). xs ++ words_of (drop (c.loop-row.row-index + 1) c.args.rows.now)) e ∙ next_words c.args.rows.now c.loop-row.words.items c.loop-row.row-index c.row-item.result (search rules) c.row-item.is c.loop-row.invariant
