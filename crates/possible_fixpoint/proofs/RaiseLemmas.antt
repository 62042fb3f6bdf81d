-- A row that is below every solution is joined into that of a router.
use Rattle.std.proofs.Common.{ℕ, true, ◌≡◌, ◌≢◌, ◌<◌, ◌≤◌, ◌⊎◌, inl, inr, List, length, set, arith, ap, sym, subst, ◌∙◌, get_or-set_same, get_or-set_other}
use Rattle.std.proofs.lemmas.List.{length-set}
use Rattle.net_types.specs.declared.arcs.Arc.{Arc}
use Rattle.abstract_route.specs.declared.rows.Row.{Row}
use Rattle.abstract_route.specs.Rows.{IsBelow, IsRow, bottom, joined, row_at}
use Rattle.abstract_route.proofs.RowLemmas.{below_refl, below_trans, join_left, join_right, join_least}
use Rattle.abstract_route.proofs.HeightLemmas.{joined_is_row}
use Rattle.possible_fixpoint.specs.Flow.{Flow, Lawful}
use Rattle.possible_fixpoint.specs.Possible.{AreBelow, AreRows, Solves}
use Rattle.possible_fixpoint.specs.Standing.{Between, list_rank}
use Rattle.possible_fixpoint.proofs.BitLemmas.{number_or}
use Rattle.possible_fixpoint.proofs.RowLists.{list_rank_up, list_rank_even}

abbrev pub up_at : List Row → ℕ → Row → List Row
up_at xs at row = set xs at (joined (row_at xs at) row)

pub at_same : (xs : List Row) (at : ℕ) (r : Row) → at < length xs → row_at (set xs at r) at ≡ r
at_same xs at r h = get_or-set_same xs at r bottom h

pub at_other : (xs : List Row) (at u : ℕ) (r : Row) → u ≢ at → row_at (set xs at r) u ≡ row_at xs u
at_other xs at u r h = get_or-set_other xs at u r bottom h

pub raised_up : (xs : List Row) (at : ℕ) (row : Row) → at < length xs → AreBelow xs (up_at xs at row)
raised_up xs at row h = record {
  long = sym (length-set xs at (joined (row_at xs at) row));
  each = λ u low. elim (number_or u at) [
    | inl same ↦ rw (same, at_same xs at (joined (row_at xs at) row) h) (join_left (row_at xs at) row)
    | inr other ↦ rw (at_other xs at u (joined (row_at xs at) row) other) (below_refl (row_at xs u))
  ];
}

pub raised_rows : (xs : List Row) (at : ℕ) (row : Row) → at < length xs → AreRows xs → IsRow row → AreRows (up_at xs at row)
raised_rows xs at row h rows is = record {
  each = λ u low. elim (number_or u at) [
    | inl same ↦ rw (same, at_same xs at (joined (row_at xs at) row) h) (joined_is_row (row_at xs at) row (rows.each at h) is)
    | inr other ↦ rw (at_other xs at u (joined (row_at xs at) row) other) (rows.each u (let e = length-set xs at (joined (row_at xs at) row) in omega arith))
  ];
}

pub raised_between : (flow : Flow) (xs : List Row) (at : ℕ) (row : Row) → at < flow.routers → Between flow xs → IsRow row → ((ys : List Row) → AreRows ys → Solves flow ys → IsBelow row (row_at ys at)) → Between flow (up_at xs at row)
raised_between flow xs at row h b is low =
    let long : at < length xs = let e = b.long in omega arith in
    let up = raised_up xs at row long in
    record {
      long = sym up.long ∙ b.long;
      words = raised_rows xs at row long b.words is;
      local = λ u l. below_trans (flow.source u) (row_at xs u) (row_at (up_at xs at row) u) (b.local u l) (up.each u (let e = b.long in omega arith));
      low = λ ys rows solves. record {
        long = sym up.long ∙ (b.low ys rows solves).long;
        each = λ u l. elim (number_or u at) [
          | inl same ↦ rw (same, at_same xs at (joined (row_at xs at) row) long) (join_least (row_at xs at) row (row_at ys at) ((b.low ys rows solves).each at long) (low ys rows solves))
          | inr other ↦ rw (at_other xs at u (joined (row_at xs at) row) other) ((b.low ys rows solves).each u (let e = up.long in omega arith))
        ];
      };
    }

pub raised_rank : (xs : List Row) (at : ℕ) (row : Row) → at < length xs → AreRows xs → IsRow row → (IsBelow row (row_at xs at) → ⊥) → list_rank xs < list_rank (up_at xs at row)
raised_rank xs at row h rows is not =
    let up = list_rank_up xs (up_at xs at row) (raised_up xs at row h) in
    elim (same_or_less (list_rank xs) (list_rank (up_at xs at row)) up) [
      | inl same ↦ absurd (not (
          let equal : xs ≡ up_at xs at row = list_rank_even xs (up_at xs at row) rows (raised_rows xs at row h rows is) (raised_up xs at row h) (omega arith) in
          let e : row_at xs at ≡ joined (row_at xs at) row = ap (λ (ys : List Row). row_at ys at) equal ∙ at_same xs at (joined (row_at xs at) row) h in
          subst (λ (r : Row). IsBelow row r) (sym e) (join_right (row_at xs at) row)))
      | inr less ↦ less
    ] where
      same_or_less : (a b : ℕ) → a ≤ b → (a ≡ b) ⊎ (a < b)
      same_or_less a b h = grind arith

-- what an arc adds to rows on the way stays below each solution
pub gives_low : (flow : Flow) → Lawful flow → (xs : List Row) (arc : Arc) → flow.lives arc ≡ true → Between flow xs → (ys : List Row) → AreRows ys → Solves flow ys → IsBelow (flow.gives arc (row_at xs (flow.sender arc))) (row_at ys (flow.receiver arc))
gives_low flow laws xs arc lives b ys rows solves =
    below_trans (flow.gives arc (row_at xs (flow.sender arc))) (flow.gives arc (row_at ys (flow.sender arc))) (row_at ys (flow.receiver arc))
    (laws.grows arc (row_at xs (flow.sender arc)) (row_at ys (flow.sender arc)) (b.words.each (flow.sender arc) (let f = laws.sender arc lives in let g = b.long in omega arith)) (rows.each (flow.sender arc) (let f = laws.sender arc lives in let g = solves.long in omega arith)) ((b.low ys rows solves).each (flow.sender arc) (let f = laws.sender arc lives in let g = b.long in omega arith)))
    (solves.learned arc lives)
