-- How the solver stands after a row was joined that may be.
use Rattle.std.proofs.Common.{ℕ, ◌≡◌, ◌≢◌, ◌<◌, inl, inr, false, List, length, bit_or, ◌^◌, arith, subst, refl}
use Rattle.net_types.specs.declared.arcs.Arc.{Arc}
use Rattle.net_types.specs.Sets.{has}
use Rattle.abstract_route.specs.declared.rows.Row.{Row}
use Rattle.abstract_route.specs.Rows.{IsBelow, IsInhabited, IsRow, joined, row_at}
use Rattle.abstract_route.proofs.FitLemmas.{inhabited_up}
use Rattle.abstract_route.proofs.RowLemmas.{below_trans, join_right, part_refl, part_trans}
use Rattle.possible_fixpoint.specs.declared.marks.ArcSet.{ArcSet}
use Rattle.possible_fixpoint.specs.Flow.{Flow, Lawful}
use Rattle.possible_fixpoint.specs.Marks.{Improved}
use Rattle.possible_fixpoint.specs.Possible.{AreBelow, AreRows, Solves}
use Rattle.possible_fixpoint.specs.Standing.{Advanced, AreGiving, IsMet, Standing}
use Rattle.possible_fixpoint.proofs.BitLemmas.{lacks_more, old_or_new}
use Rattle.possible_fixpoint.proofs.RaiseLemmas.{at_other, at_same, raised_between, raised_rank, raised_up, up_at}

pub advanced_refl : (xs : List Row) (dirty : ℕ) → Advanced xs xs dirty dirty
advanced_refl xs dirty = record { up = omega arith; same = λ h. part_refl dirty }

pub advanced_trans : (xs ys zs : List Row) (a b c : ℕ) → Advanced xs ys a b → Advanced ys zs b c → Advanced xs zs a c
advanced_trans xs ys zs a b c p q = record {
  up = (let e = p.up in let f = q.up in omega arith);
  same = λ h. part_trans c b a (q.same (let e = p.up in let f = q.up in omega arith)) (p.same (let e = p.up in let f = q.up in omega arith));
}

-- rows only rise, so what gave once gives still
giving_up : (flow : Flow) (xs ys : List Row) (seen : ArcSet) → Lawful flow → length xs ≡ flow.routers → AreRows xs → AreRows ys → AreBelow xs ys → AreGiving flow xs seen → AreGiving flow ys seen
giving_up flow xs ys seen laws count x_rows y_rows below giving = record {
  lives = giving.lives;
  gives = λ arc h.
      let inside = laws.sender arc (giving.lives arc h) in let long = below.long in
      inhabited_up (flow.gives arc (row_at xs (flow.sender arc))) (flow.gives arc (row_at ys (flow.sender arc)))
      (laws.grows arc (row_at xs (flow.sender arc)) (row_at ys (flow.sender arc)) (x_rows.each (flow.sender arc) (omega arith)) (y_rows.each (flow.sender arc) (omega arith)) (below.each (flow.sender arc) (omega arith)))
      (giving.gives arc h);
}

-- where a row is joined into one, an arc from another router is met as before
met_kept : (flow : Flow) (xs : List Row) (seen : ArcSet) (at : ℕ) (arc : Arc) (row : Row) → at < length xs → flow.receiver arc < length xs → flow.sender arc ≢ at → IsMet flow xs seen arc → IsMet flow (up_at xs at row) seen arc
met_kept flow xs seen at arc row h to other m =
    let same : row_at (up_at xs at row) (flow.sender arc) ≡ row_at xs (flow.sender arc) = at_other xs at (flow.sender arc) (joined (row_at xs at) row) other in
    record {
      below = below_trans (flow.gives arc (row_at (up_at xs at row) (flow.sender arc))) (row_at xs (flow.receiver arc)) (row_at (up_at xs at row) (flow.receiver arc))
          (rw same m.below) ((raised_up xs at row h).each (flow.receiver arc) to);
      noted = λ i. m.noted (subst (λ (r : Row). IsInhabited (flow.gives arc r)) same i);
    }

-- what may be joined into the row of a router
pub record MayJoin (flow : Flow) (at : ℕ) (row : Row) : Type 0 where
  pub inside : at < flow.routers
  pub is_row : IsRow row
  pub low : (ys : List Row) → AreRows ys → Solves flow ys → IsBelow row (row_at ys at)

-- what holds after a row was joined
pub record Joined (flow : Flow) (u next at : ℕ) (row : Row) (xs ys : List Row) (seen : ArcSet) (dirty marks : ℕ) : Type 0 where
  pub standing : Standing flow u next ys seen marks
  pub advanced : Advanced xs ys dirty marks
  pub below : IsBelow row (row_at ys at)
  pub kept : (v : ℕ) → has marks v ≡ false → (row_at ys v ≡ row_at xs v) × (has dirty v ≡ false)

joined_more : (flow : Flow) (u next at : ℕ) (row : Row) (xs : List Row) (seen : ArcSet) (dirty : ℕ) → Lawful flow → MayJoin flow at row → Standing flow u next xs seen dirty → (IsBelow row (row_at xs at) → ⊥) → Joined flow u next at row xs (up_at xs at row) seen dirty (bit_or dirty (2 ^ at))
joined_more flow u next at row xs seen dirty laws may s not =
    let b = s.between in
    let inside : at < length xs = let e = b.long in let f = may.inside in omega arith in
    let up = raised_up xs at row inside in
    let now = raised_between flow xs at row may.inside b may.is_row may.low in
    let less = raised_rank xs at row inside b.words may.is_row not in
    record {
      standing = record {
        between = now;
        giving = giving_up flow xs (up_at xs at row) seen laws b.long b.words now.words up s.giving;
        members = λ v h. elim (old_or_new dirty at v h) [
          | inl old ↦ s.members v old
          | inr new ↦ rw new may.inside
        ];
        met = λ arc lives lacks asked.
            let k = lacks_more dirty at (flow.sender arc) lacks in
            met_kept flow xs seen at arc row inside (let t = laws.receiver arc lives in let f = b.long in omega arith) k.1 (s.met arc lives k.0 asked);
      };
      advanced = record { up = omega arith; same = λ h. absurd (omega arith) };
      below = rw (at_same xs at (joined (row_at xs at) row) inside) (join_right (row_at xs at) row);
      kept = λ v h. let k = lacks_more dirty at v h in (at_other xs at v (joined (row_at xs at) row) k.1, k.0);
    }

pub improved_joined : (flow : Flow) (u next at : ℕ) (row : Row) (xs ys : List Row) (seen : ArcSet) (dirty marks : ℕ) → Lawful flow → MayJoin flow at row → Standing flow u next xs seen dirty → Improved at row xs ys dirty marks → Joined flow u next at row xs ys seen dirty marks
improved_joined flow u next at row xs ys seen dirty marks laws may s (inl w) =
    rw (w.rows, w.marked) (record { standing = s; advanced = advanced_refl xs dirty; below = w.above; kept = λ v h. (refl, h) })
improved_joined flow u next at row xs ys seen dirty marks laws may s (inr j) =
    rw (j.rows, j.marked) (joined_more flow u next at row xs seen dirty laws may s j.not)
