-- The least solution of a flow: the equations from no routes on rise, stay below each solution, and settle.
use Rattle.std.proofs.Common.{ℕ, zero, suc, ◌≡◌, ◌<◌, List, [], ◌∷◌, length, arith, sym, subst, ◌∙◌, refl}
use Rattle.abstract_route.specs.declared.rows.Row.{Row}
use Rattle.abstract_route.proofs.HeightLemmas.{bottom_below, bottom_is_row}
use Rattle.abstract_route.proofs.RowLemmas.{below_anti}
use Rattle.net_types.proofs.TurnLemmas.{turns-zero, turns-suc, settles}
use Rattle.net_types.specs.Turns.{turns}
use Rattle.abstract_route.specs.Rows.{row_at}
use Rattle.possible_fixpoint.proofs.EquationLemmas.{equations_below, equations_grow, equations_rows, fixed_solves, length-bottoms, length-equations, row_at-bottoms}
use Rattle.possible_fixpoint.proofs.RowLists.{list_rank_up, list_rank_even, list_rank_small}
use Rattle.possible_fixpoint.specs.Standing.{list_rank}
use Rattle.possible_fixpoint.specs.Flow.{Flow, Lawful}
use Rattle.possible_fixpoint.specs.Possible.{AreBelow, AreRows, IsLeast, Solves, bottoms, enough, equations, possible}

-- the rows after so many turns
abbrev at : Flow → ℕ → List Row
at flow k = turns (equations flow) k (bottoms flow)

bottoms_below : (flow : Flow) (ys : List Row) → length ys ≡ flow.routers → AreRows ys → AreBelow (bottoms flow) ys
bottoms_below flow ys long rows = record {
  long = length-bottoms flow ∙ sym long;
  each = λ u h. let low : u < flow.routers = let e = length-bottoms flow in omega arith in
      rw (row_at-bottoms flow u low) (bottom_below (row_at ys u) (rows.each u (omega arith)));
}

bottoms_rows : (flow : Flow) → AreRows (bottoms flow)
bottoms_rows flow = record { each = λ u h. rw (row_at-bottoms flow u (let e = length-bottoms flow in omega arith)) bottom_is_row }

at_rows : (flow : Flow) → Lawful flow → (k : ℕ) → (length (at flow k) ≡ flow.routers) × AreRows (at flow k)
at_rows flow laws zero = rw (turns-zero (equations flow) (bottoms flow)) (length-bottoms flow, bottoms_rows flow)
at_rows flow laws (suc k) = rw (turns-suc (equations flow) k (bottoms flow)) (let r = at_rows flow laws k in (length-equations flow (at flow k), equations_rows flow laws (at flow k) r.1 r.0))

rising : (flow : Flow) → Lawful flow → (k : ℕ) → AreBelow (at flow k) (at flow (suc k))
rising flow laws zero = rw (turns-zero (equations flow) (bottoms flow)) (let r = at_rows flow laws 1 in bottoms_below flow (at flow 1) r.0 r.1)
rising flow laws (suc k) =
    let r = at_rows flow laws k in let s = at_rows flow laws (suc k) in
    rw (turns-suc (equations flow) (suc k) (bottoms flow)) (subst (λ (xs : List Row). AreBelow xs (equations flow (at flow (suc k)))) (sym (turns-suc (equations flow) k (bottoms flow)))
    (equations_grow flow laws (at flow k) (at flow (suc k)) r.0 r.1 s.1 (rising flow laws k)))

staying_below : (flow : Flow) → Lawful flow → (ys : List Row) → AreRows ys → Solves flow ys → (k : ℕ) → AreBelow (at flow k) ys
staying_below flow laws ys rows solves zero = rw (turns-zero (equations flow) (bottoms flow)) (bottoms_below flow ys solves.long rows)
staying_below flow laws ys rows solves (suc k) = rw (turns-suc (equations flow) k (bottoms flow)) (equations_below flow laws (at flow k) ys (at_rows flow laws k).1 rows solves (staying_below flow laws ys rows solves k))

small : (xs : List Row) (n : ℕ) → AreRows xs → length xs ≡ n → list_rank xs < enough n
unfolding enough
small xs n rows long = rw (← long) (let e = list_rank_small xs rows in omega arith)

settled : (flow : Flow) → Lawful flow → equations flow (at flow (enough flow.routers)) ≡ at flow (enough flow.routers)
settled flow laws = settles (equations flow) list_rank (bottoms flow) (enough flow.routers)
    (λ k. list_rank_up (at flow k) (at flow (suc k)) (rising flow laws k))
    (λ k same. let r = at_rows flow laws k in let s = at_rows flow laws (suc k) in list_rank_even (at flow k) (at flow (suc k)) r.1 s.1 (rising flow laws k) (omega arith))
    (let r = at_rows flow laws (enough flow.routers) in small (at flow (enough flow.routers)) flow.routers r.1 r.0)

pub possible_is_least : (flow : Flow) → Lawful flow → IsLeast flow (possible flow)
unfolding possible
possible_is_least flow laws = record {
  words = (at_rows flow laws (enough flow.routers)).1;
  solves = fixed_solves flow laws (at flow (enough flow.routers)) (settled flow laws);
  least = λ ys rows solves. staying_below flow laws ys rows solves (enough flow.routers);
}

-- ---- one flow has one least solution

pub below_both : (xs ys : List Row) → AreBelow xs ys → AreBelow ys xs → xs ≡ ys
below_both [] [] p q = refl
below_both [] (y ∷ ys) p q = absurd (let e = p.long in omega arith)
below_both (x ∷ xs) [] p q = absurd (let e = p.long in omega arith)
below_both (x ∷ xs) (y ∷ ys) p q =
    let same : x ≡ y = below_anti x y (p.each 0 (omega arith)) (q.each 0 (omega arith)) in
    let rest : xs ≡ ys = below_both xs ys
    (record { long = (let e = p.long in omega arith); each = λ u h. p.each (suc u) (omega arith) })
    (record { long = (let e = q.long in omega arith); each = λ u h. q.each (suc u) (omega arith) }) in
    λ i. same i ∷ rest i

pub least_is_one : (flow : Flow) (xs ys : List Row) → IsLeast flow xs → IsLeast flow ys → xs ≡ ys
least_is_one flow xs ys p q = below_both xs ys (p.least ys q.words q.solves) (q.least xs p.words p.solves)
