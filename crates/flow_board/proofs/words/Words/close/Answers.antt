use Rattle.std.proofs.Common.{arith, rules, ap, ◌≡◌, ◌<◌, ◌+◌, ◌++◌, ◌*◌, ◌∷◌, [], ℕ, List, length, length-append, sym, subst, ◌∙◌}
use Rattle.abstract_route.specs.declared.rows.Row.{Row}
use Rattle.abstract_route.specs.Rows.{IsRow, row_at}
use Rattle.flow_board.specs.RowWords.{row_from}
use Rattle.flow_board.proofs.ViewLemmas.{closed_rows, next_row}
use Rattle.flow_board.proofs.words.Words.close.Goals as goal

pub loop-router-preserved : goal.loop-router-preserved
loop-router-preserved c =
    let inv = c.loop-router.invariant in
    let ws = c.in_ok-words.words.items in
    let grown = next_row c.loop-router.router c.loop-router.rows ws c.row_in.result inv.0 inv.1 (c.row_in.ensures.row ∙ search rules) c.row_in.ensures.small in (
      (let l = length-append c.loop-router.rows (c.row_in.result ∷ []) in
          let e : length c.push.new.self ≡ length (c.loop-router.rows ++ c.row_in.result ∷ []) = ap (λ (xs : List Row). length xs) c.in_ok-push.ensures.ok in
          omega (arith, inv.0)),
      subst (λ (xs : List Row). (u : ℕ) → u < c.loop-router.router + 1 → (row_at xs u ≡ row_from ws (14 * u)) × IsRow (row_at xs u)) (sym c.in_ok-push.ensures.ok) grown,
    )

pub returns : goal.returns
returns c =
    let n : ℕ = c.args.self.count in
    let same : c.loop-router.router ≡ n = (let a = c.count-count.ensures in let b = c.loop-router.auto.router-end in let d = c.loop-router-test.false in omega arith) in
    let rows : List Row = c.loop-router.rows in
    let many : length rows ≡ n = omega (arith, same, c.loop-router.invariant.0) in
    let wide : length c.in_ok-words.words.items ≡ 14 * n = omega (arith, c.in_ok-words.ensures.long, c.in_ok-words.words.ok.0) in
    closed_rows n c.args.seat.me.0 c.in_ok-words.words.items rows c.requires.ready c.in_ok-words.ensures.closed wide many
    (subst (λ (m : ℕ). (u : ℕ) → u < m → (row_at rows u ≡ row_from c.in_ok-words.words.items (14 * u)) × IsRow (row_at rows u)) same c.loop-router.invariant.1)
