-- What a board's steps make of passes.
use Rattle.std.proofs.Common.{ℕ, ◌≡◌, ◌*◌, ◌/◌, ◌<◌, List, length, arith, ap, sym, subst, ◌∙◌}
use Rattle.std.proofs.lemmas.List.{length-replicate, get_or-replicate}
use Rattle.std.proofs.lemmas.List.FromFn.{length-map-range_with_len, get_or-map-range_with_len}
use Rattle.atomic_table.specs.Seated.{TableId}
use Rattle.abstract_route.specs.declared.rows.Row.{Row}
use Rattle.abstract_route.specs.Rows.{IsBelow, bottom, joined, row_at}
use Rattle.abstract_route.proofs.RowLemmas.{below_refl, below_trans, below_anti, join_left, join_right, join_least}
use Rattle.flow_board.specs.declared.view.View.{View}
use Rattle.flow_board.specs.RowWords.{start_of, roof_of, own_of, IsJoined, IsOpened}
use Rattle.flow_board.specs.Pass.{Pass, BoardName, no_raises, both_raises}
use Rattle.flow_board.specs.Laws.{RaiseIsSeen, MetIsBetween, BothIsJoin}
use Rattle.flow_board.proofs.RowWordLemmas.{same_rows}

pass_same : (p q : Pass) → p.board ≡ q.board → p.start ≡ q.start → p.roof ≡ q.roof → p.own ≡ q.own → p ≡ q
pass_same p q a b c d = λ i. record { board = a i; start = b i; roof = c i; own = d i }

-- a pass, from a token's table and view
abbrev pub pass_of : TableId → View → Pass
pass_of name v = record { board = name; start = start_of (name.words / 14) v; roof = roof_of (name.words / 14) v; own = own_of (name.words / 14) v }

fourteenth : (t n : ℕ) → t ≡ 14 * n → t / 14 ≡ n
fourteenth t n h = omega arith

pub length-both_raises : (xs ys : List Row) → length (both_raises xs ys) ≡ length xs
unfolding both_raises
length-both_raises xs ys = length-map-range_with_len (λ u. joined (row_at xs u) (row_at ys u)) 0 (length xs)

pub row_at-both_raises : (xs ys : List Row) (u : ℕ) → u < length xs → row_at (both_raises xs ys) u ≡ joined (row_at xs u) (row_at ys u)
unfolding both_raises
row_at-both_raises xs ys u h = get_or-map-range_with_len (λ u. joined (row_at xs u) (row_at ys u)) 0 (length xs) u u bottom h (omega arith)

pub length-no_raises : (n : ℕ) → length (no_raises n) ≡ n
unfolding no_raises
length-no_raises n = length-replicate n bottom

pub row_at-no_raises : (n u : ℕ) → u < n → row_at (no_raises n) u ≡ bottom
unfolding no_raises
row_at-no_raises n u h = get_or-replicate n u bottom bottom h

own_joined : (n : ℕ) (v w x : View) → length (own_of n v) ≡ n → IsJoined n v w x → own_of n x ≡ both_raises (own_of n v) (own_of n w)
own_joined n v w x wide j = same_rows (own_of n x) (both_raises (own_of n v) (own_of n w))
    (j.long ∙ sym (length-both_raises (own_of n v) (own_of n w) ∙ wide))
    (λ u h. j.own u (let l = j.long in omega arith) ∙ sym (row_at-both_raises (own_of n v) (own_of n w) u (let l = j.long in omega arith)))

own_opened : (n : ℕ) (rows top : List Row) (v : View) → IsOpened n rows top v → own_of n v ≡ no_raises n
own_opened n rows top v o = same_rows (own_of n v) (no_raises n) (o.long ∙ sym (length-no_raises n))
    (λ u h. let low : u < n = (let l = o.long in omega arith) in o.own u low ∙ sym (row_at-no_raises n u low))

pub joined_pass : (one two new board : TableId) (n : ℕ) (v w x : View) (p q : Pass) (b : BoardName) → pass_of one v ≡ p → pass_of two w ≡ q → record { name = board; count = n } ≡ b
    → new ≡ one → p.board ≡ b.name → q.board ≡ b.name → board.words ≡ 14 * n → length (own_of n v) ≡ n → IsJoined n v w x
    → pass_of new x ≡ record { board = p.board; start = p.start; roof = p.roof; own = both_raises p.own q.own }
joined_pass one two new board n v w x p q b e1 e2 e3 same mine theirs whole wide j =
    let size = fourteenth board.words n whole in
    let a : one ≡ board = ap (λ (r : Pass). r.board) e1 ∙ mine ∙ sym (ap (λ (r : BoardName). r.name) e3) in
    let d : two ≡ board = ap (λ (r : Pass). r.board) e2 ∙ theirs ∙ sym (ap (λ (r : BoardName). r.name) e3) in
    let n1 : one.words / 14 ≡ n = ap (λ (t : TableId). t.words / 14) a ∙ size in
    let n2 : two.words / 14 ≡ n = ap (λ (t : TableId). t.words / 14) d ∙ size in
    let n3 : new.words / 14 ≡ n = ap (λ (t : TableId). t.words / 14) same ∙ n1 in
    let pown : own_of n v ≡ p.own = ap (λ (m : ℕ). own_of m v) (sym n1) ∙ ap (λ (r : Pass). r.own) e1 in
    let qown : own_of n w ≡ q.own = ap (λ (m : ℕ). own_of m w) (sym n2) ∙ ap (λ (r : Pass). r.own) e2 in
    pass_same (pass_of new x) (record { board = p.board; start = p.start; roof = p.roof; own = both_raises p.own q.own })
    (same ∙ ap (λ (r : Pass). r.board) e1)
    (ap (λ (m : ℕ). start_of m x) n3 ∙ j.start ∙ ap (λ (m : ℕ). start_of m v) (sym n1) ∙ ap (λ (r : Pass). r.start) e1)
    (ap (λ (m : ℕ). roof_of m x) n3 ∙ j.roof ∙ ap (λ (m : ℕ). roof_of m v) (sym n1) ∙ ap (λ (r : Pass). r.roof) e1)
    (ap (λ (m : ℕ). own_of m x) n3 ∙ own_joined n v w x wide j ∙ ap (λ (xs : List Row). both_raises xs (own_of n w)) pown ∙ ap (λ (ys : List Row). both_raises p.own ys) qown)

pub opened_pass : (token board : TableId) (n : ℕ) (rows top : List Row) (v : View) → token ≡ board → board.words ≡ 14 * n → n ≡ length rows → IsOpened (length rows) rows top v
    → pass_of token v ≡ record { board = board; start = rows; roof = top; own = no_raises (length rows) }
opened_pass token board n rows top v same whole many o =
    let size : token.words / 14 ≡ length rows = ap (λ (t : TableId). t.words / 14) same ∙ fourteenth board.words n whole ∙ many in
    pass_same (pass_of token v) (record { board = board; start = rows; roof = top; own = no_raises (length rows) })
    same
    (ap (λ (m : ℕ). start_of m v) size ∙ o.start)
    (ap (λ (m : ℕ). roof_of m v) size ∙ o.roof)
    (ap (λ (m : ℕ). own_of m v) size ∙ own_opened (length rows) rows top v o)

pub raise_is_seen : RaiseIsSeen
raise_is_seen old row = (
  λ e. subst (λ (r : Row). IsBelow row r) e (join_right old row),
  λ b. below_anti (joined old row) old (join_least old row old (below_refl old) b) (join_left old row),
)

pub met_is_between : MetIsBetween
met_is_between p u row = (
  λ m. (join_least (row_at p.start u) (row_at p.own u) row m.above_start m.above_own, m.under_roof),
  λ b. record {
    above_start = below_trans (row_at p.start u) (joined (row_at p.start u) (row_at p.own u)) row (join_left (row_at p.start u) (row_at p.own u)) b.0;
    above_own = below_trans (row_at p.own u) (joined (row_at p.start u) (row_at p.own u)) row (join_right (row_at p.start u) (row_at p.own u)) b.0;
    under_roof = b.1;
  },
)

pub both_is_join : BothIsJoin
both_is_join n xs ys long = (length-both_raises xs ys ∙ long, λ u h. row_at-both_raises xs ys u (omega arith))
