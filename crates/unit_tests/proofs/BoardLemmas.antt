-- The row above all others, as a roof.
use Rattle.std.proofs.Common.{ℕ, ◌≡◌, ◌<◌, ◌≤◌, ◌^◌, ◌⊎◌, inl, inr, List, length, replicate, set, Result, Ok, Err, IfOk, ap, sym, ◌∙◌, arith}
use Rattle.std.proofs.lemmas.Bool.Decides.{nat_tests}
use Rattle.std.proofs.lemmas.List.{length-replicate, get_or-replicate}
use Rattle.std.proofs.lemmas.Nat.Bits.{bit_at_ones, bit_at_above}
use Rattle.net_types.specs.Sets.{IsPart}
use Rattle.net_types.proofs.SetLemmas.{bit_from}
use Rattle.abstract_route.specs.declared.rows.Row.{Row}
use Rattle.abstract_route.specs.Rows.{IsBelow, IsRow, bottom, joined, row_at}
use Rattle.abstract_route.proofs.HeightLemmas.{bottom_below, bottom_is_row}
use Rattle.flow_board.specs.Pass.{BoardName, Pass, both_raises, no_raises, raised}
use Rattle.flow_board.specs.RowLists.{AreBelow}
use Rattle.unit_tests.specs.Boards.{IsFree, top}

full_part : (s : ℕ) → s < 2 ^ 64 → IsPart s 18446744073709551615
full_part s h = record {
  members = λ x t. elim (below_or_not x) [
    | inl low ↦ let e = bit_at_ones 64 x low in grind (arith, nat_tests)
    | inr high ↦ absurd (let e = bit_from s x t in let f = bit_at_above s 64 x h high in omega arith)
  ];
} where
  below_or_not : (x : ℕ) → (x < 64) ⊎ (64 ≤ x)
  below_or_not x = grind arith

-- each row is below it
below_top : (r : Row) → IsRow r → IsBelow r top
below_top r h = record {
  weight = (omega arith, let e = h.high.0 in omega arith);
  preference = (omega arith, let e = h.high.1 in omega arith);
  length = (omega arith, let e = h.high.2 in omega arith);
  origin = (omega arith, let e = h.high.3 in omega arith);
  med = (omega arith, let e = h.high.4 in omega arith);
  has = full_part r.has h.sets.0;
  lacks = full_part r.lacks h.sets.1;
  may = full_part r.may h.sets.2;
  must = (bottom_below (record r { has = r.must }) (record { low = h.low; high = h.high; sets = (h.sets.3, h.sets.1, h.sets.2, h.sets.3) })).has;
}

-- rows of no route are below as many of it
pub bottoms_under : (rows : List Row) (n : ℕ) → rows ≡ replicate n bottom → AreBelow rows (replicate (length rows) top)
bottoms_under rows n is = record {
  long = sym (length-replicate (length rows) top);
  each = λ u h.
      let low : u < n = (let e : length rows ≡ n = ap (λ (xs : List Row). length xs) is ∙ length-replicate n bottom in omega arith) in
      let none : row_at rows u ≡ bottom = ap (λ (xs : List Row). row_at xs u) is ∙ get_or-replicate n u bottom bottom low in
      rw (none, get_or-replicate (length rows) u top bottom h) (below_top bottom bottom_is_row);
}

-- a seat of a board under it may raise every row
free_under : (n : ℕ) (board : BoardName) (start own : List Row) (pass : Pass) → board.count ≡ n
    → pass ≡ record { board = board.name; start = start; roof = replicate n top; own = own } → IsFree board pass
free_under n board start own pass count is = record {
  mine = ap (λ (p : Pass). p.board) is;
  roof = λ u row h small.
      let low : u < n = (let e = count in omega arith) in
      rw (ap (λ (p : Pass). p.roof) is, get_or-replicate n u top bottom low) (below_top row small);
}

pub opened_free : {E : Type 0} (r : Result (BoardName × Pass) E) (start : List Row) → IfOk r (λ p. p.0.count ≡ length start)
    → IfOk r (λ p. p.1 ≡ record { board = p.0.name; start = start; roof = replicate (length start) top; own = no_raises (length start) })
    → IfOk r (λ p. IsFree p.0 p.1)
opened_free (Ok p) start count is = free_under (length start) p.0 start (no_raises (length start)) p.1 count is
opened_free (Err e) start count is = tt

-- so may a seat that has raised more
free_again : (board : BoardName) (p q : Pass) (own : List Row) → IsFree board p
    → q ≡ record { board = p.board; start = p.start; roof = p.roof; own = own } → IsFree board q
free_again board p q own free is = record {
  mine = ap (λ (r : Pass). r.board) is ∙ free.mine;
  roof = λ u row h small. rw (ap (λ (r : Pass). r.roof) is) (free.roof u row h small);
}

pub raised_free : (board : BoardName) (p q : Pass) (u : ℕ) (row : Row) → IsFree board p → q ≡ raised p u row → IsFree board q
raised_free board p q u row free is = free_again board p q (set p.own u (joined (row_at p.own u) row)) free is

pub joined_free : (board : BoardName) (p other q : Pass) → IsFree board p → q ≡ record p { own = both_raises p.own other.own } → IsFree board q
joined_free board p other q free is = free_again board p q (both_raises p.own other.own) free is
