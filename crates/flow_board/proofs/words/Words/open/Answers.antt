use Rattle.std.proofs.Common.{arith, ◌∙◌, sym, subst, ap, List, ℕ, ◌*◌, ◌≡◌, length, IfOk, Result, Ok, Err}
use Rattle.flow_board.specs.Order.{AllBelow, blank}
use Rattle.flow_board.specs.RowWords.{words_of, IsOpened}
use Rattle.flow_board.proofs.RowWordLemmas.{length-words_of}
use Rattle.flow_board.proofs.ViewLemmas.{words_under, opened_words}
use Rattle.flow_board.specs.declared.view.View.TheVariants.{Live}
use Rattle.flow_board.proofs.words.Words.open.Goals as goal

pub open_words-requires-clause-whole : goal.open_words-requires-clause-whole
open_words-requires-clause-whole g c =
    let a : length c.in_ok-words.words.items ≡ 14 * length c.args.rows.now = ap (λ (xs : List ℕ). length xs) c.in_ok-words.ensures ∙ length-words_of c.args.rows.now in
    omega (arith, a, c.in_ok-words.words.ok.0)

pub open_words-requires-clause-long : goal.open_words-requires-clause-long
open_words-requires-clause-long g c =
    let a : length c.in_ok-words.words.items ≡ 14 * length c.args.rows.now = ap (λ (xs : List ℕ). length xs) c.in_ok-words.ensures ∙ length-words_of c.args.rows.now in
    let e = c.requires.under.long in
    let b : length (words_of g.K.Roof.rows) ≡ 14 * length c.args.rows.now = length-words_of g.K.Roof.rows ∙ omega arith in
    omega (arith, a, b, c.in_ok-words.words.ok.0)

pub open_words-requires-clause-under : goal.open_words-requires-clause-under
open_words-requires-clause-under g c = subst (λ (xs : List ℕ). AllBelow xs (words_of g.K.Roof.rows)) (sym c.in_ok-words.ensures) (words_under c.args.rows.now g.K.Roof.rows c.requires.under)

under_ok : {A E : Type 0} (r : Result A E) (P Q : A → Type 0) → ((x : A) → P x → Q x) → IfOk r P → IfOk r Q
under_ok (Ok x) P Q f h = f x h
under_ok (Err e) P Q f h = tt

pub returns-clause-view : goal.returns-clause-view
returns-clause-view g c =
    let top = g.K.Roof.rows in
    let ws = c.in_ok-words.words.items in
    under_ok c.open_words.result (λ p. p.1.me.0 ≡ Live ws (words_of top) (blank ws)) (λ p. IsOpened (length c.args.rows.now) c.args.rows.now top p.1.me.0)
    (λ p h. opened_words c.args.rows.now top ws p.1.me.0 (sym c.requires.under.long) c.in_ok-words.ensures h) c.open_words.ensures.view
