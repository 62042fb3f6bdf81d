-- The equations of a flow: what a router gathers is the least row above its source and above what arrives, they grow,
-- and stay below each solution.
use Rattle.std.proofs.Common.{ℕ, zero, suc, ◌≡◌, ◌<◌, Bool, true, false, List, length, ◌⊎◌, inl, inr, arith, ap, sym, subst, ◌∙◌}
use Rattle.std.proofs.lemmas.Bool.Decides.{nat_tests}
use Rattle.std.proofs.lemmas.List.FromFn.{length-map-range_with_len, get_or-map-range_with_len}
use Rattle.net_types.specs.declared.arcs.Arc.{Arc}
use Rattle.abstract_route.specs.declared.rows.Row.{Row}
use Rattle.abstract_route.specs.Rows.{IsBelow, IsRow, bottom, joined, row_at}
use Rattle.abstract_route.proofs.RowLemmas.{below_refl, below_trans, join_left, join_right, join_least}
use Rattle.abstract_route.proofs.HeightLemmas.{bottom_below, bottom_is_row, joined_is_row}
use Rattle.net_types.specs.Arcs.{up_of, down_of}
use Rattle.possible_fixpoint.specs.Flow.{Flow, Lawful}
use Rattle.possible_fixpoint.specs.Possible.{AreBelow, AreRows, Solves, arriving, arriving_over, bottoms, equations, gathered}

pub length-equations : (flow : Flow) (xs : List Row) → length (equations flow xs) ≡ flow.routers
unfolding equations
length-equations flow xs = length-map-range_with_len (λ u. gathered flow xs u flow.links) 0 flow.routers

pub row_at-equations : (flow : Flow) (xs : List Row) (u : ℕ) → u < flow.routers → row_at (equations flow xs) u ≡ gathered flow xs u flow.links
unfolding equations
row_at-equations flow xs u h = get_or-map-range_with_len (λ u. gathered flow xs u flow.links) 0 flow.routers u u bottom h (omega arith)

pub length-bottoms : (flow : Flow) → length (bottoms flow) ≡ flow.routers
unfolding bottoms
length-bottoms flow = length-map-range_with_len (λ u. bottom) 0 flow.routers

pub row_at-bottoms : (flow : Flow) (u : ℕ) → u < flow.routers → row_at (bottoms flow) u ≡ bottom
unfolding bottoms
row_at-bottoms flow u h = get_or-map-range_with_len (λ u. bottom) 0 flow.routers u u bottom h (omega arith)

-- ---- what one arc adds

-- the two ways of an arc
pub living : (flow : Flow) (xs : List Row) (u : ℕ) (arc : Arc) → (flow.lives arc ≡ true) × (flow.receiver arc ≡ u) × (arriving flow xs u arc ≡ flow.gives arc (row_at xs (flow.sender arc))) ⊎ (arriving flow xs u arc ≡ bottom)
living flow xs u arc = grind (arith, nat_tests)

-- the same of two lists of rows at once
living_twice : (flow : Flow) (xs ys : List Row) (u : ℕ) (arc : Arc) → (flow.lives arc ≡ true) × (arriving flow xs u arc ≡ flow.gives arc (row_at xs (flow.sender arc))) × (arriving flow ys u arc ≡ flow.gives arc (row_at ys (flow.sender arc))) ⊎ (arriving flow xs u arc ≡ bottom)
living_twice flow xs ys u arc = grind (arith, nat_tests)

-- a living arc adds to its receiver's row what it gives
arrives : (flow : Flow) (xs : List Row) (arc : Arc) → flow.lives arc ≡ true → arriving flow xs (flow.receiver arc) arc ≡ flow.gives arc (row_at xs (flow.sender arc))
arrives flow xs arc lives = grind (arith, nat_tests)

arriving_row : (flow : Flow) → Lawful flow → (xs : List Row) (u : ℕ) (arc : Arc) → AreRows xs → length xs ≡ flow.routers → IsRow (arriving flow xs u arc)
arriving_row flow laws xs u arc rows long = elim (living flow xs u arc) [
  | inl (lives, to, is) ↦ rw is (laws.gives arc (row_at xs (flow.sender arc)) (rows.each (flow.sender arc) (let f = laws.sender arc lives in omega arith)))
  | inr is ↦ rw is bottom_is_row
]

arriving_below : (flow : Flow) → Lawful flow → (xs ys : List Row) → AreRows xs → AreRows ys → Solves flow ys → AreBelow xs ys → (u : ℕ) → u < flow.routers → (arc : Arc) → IsBelow (arriving flow xs u arc) (row_at ys u)
arriving_below flow laws xs ys x_rows rows solves p u low arc = elim (living flow xs u arc) [
  | inl (lives, to, is) ↦
      let inside : flow.sender arc < length xs = let f = laws.sender arc lives in let q = p.long in let r = solves.long in omega arith in
      let within : flow.sender arc < length ys = let q = p.long in omega arith in
      rw is (below_trans (flow.gives arc (row_at xs (flow.sender arc))) (flow.gives arc (row_at ys (flow.sender arc))) (row_at ys u)
      (laws.grows arc (row_at xs (flow.sender arc)) (row_at ys (flow.sender arc)) (x_rows.each (flow.sender arc) inside) (rows.each (flow.sender arc) within) (p.each (flow.sender arc) inside))
      (subst (λ (v : ℕ). IsBelow (flow.gives arc (row_at ys (flow.sender arc))) (row_at ys v)) to (solves.learned arc lives)))
  | inr is ↦ rw is (bottom_below (row_at ys u) (rows.each u (let q = solves.long in omega arith)))
]

arriving_grows : (flow : Flow) → Lawful flow → (xs ys : List Row) → length xs ≡ flow.routers → AreRows xs → AreRows ys → AreBelow xs ys → (u : ℕ) (arc : Arc) → IsBelow (arriving flow xs u arc) (arriving flow ys u arc)
arriving_grows flow laws xs ys long x_rows rows p u arc = elim (living_twice flow xs ys u arc) [
  | inl (lives, a, b) ↦
      let inside : flow.sender arc < length xs = let f = laws.sender arc lives in omega arith in
      let within : flow.sender arc < length ys = let q = p.long in omega arith in
      rw (a, b) (laws.grows arc (row_at xs (flow.sender arc)) (row_at ys (flow.sender arc)) (x_rows.each (flow.sender arc) inside) (rows.each (flow.sender arc) within) (p.each (flow.sender arc) inside))
  | inr is ↦ rw is (bottom_below (arriving flow ys u arc) (arriving_row flow laws ys u arc rows (let q = p.long in omega arith)))
]

-- ---- what a router gathers

-- an arc is one of the two of its link
in_link : (flow : Flow) (xs : List Row) (u link : ℕ) (down : Bool) → IsBelow (arriving flow xs u (record { link = link; down = down })) (arriving_over flow xs u link)
in_link flow xs u link false = join_left (arriving flow xs u (up_of link)) (arriving flow xs u (down_of link))
in_link flow xs u link true = join_right (arriving flow xs u (up_of link)) (arriving flow xs u (down_of link))

gathered_source : (flow : Flow) (xs : List Row) (u k : ℕ) → IsBelow (flow.source u) (gathered flow xs u k)
unfolding gathered
gathered_source flow xs u zero = below_refl (flow.source u)
gathered_source flow xs u (suc k) = below_trans (flow.source u) (gathered flow xs u k) (joined (arriving_over flow xs u k) (gathered flow xs u k)) (gathered_source flow xs u k) (join_right (arriving_over flow xs u k) (gathered flow xs u k))

earlier : (link k : ℕ) → link < suc k → (link ≡ k) ⊎ (link < k)
earlier link k h = grind arith

gathered_link : (flow : Flow) (xs : List Row) (u k link : ℕ) → link < k → IsBelow (arriving_over flow xs u link) (gathered flow xs u k)
unfolding gathered
gathered_link flow xs u zero link h = absurd (omega arith)
gathered_link flow xs u (suc k) link h =
    elim (earlier link k h) [
      | inl same ↦ rw same (join_left (arriving_over flow xs u k) (gathered flow xs u k))
      | inr less ↦ below_trans (arriving_over flow xs u link) (gathered flow xs u k) (joined (arriving_over flow xs u k) (gathered flow xs u k)) (gathered_link flow xs u k link less) (join_right (arriving_over flow xs u k) (gathered flow xs u k))
    ]

gathered_arc : (flow : Flow) (xs : List Row) (u : ℕ) (arc : Arc) (k : ℕ) → arc.link < k → IsBelow (arriving flow xs u arc) (gathered flow xs u k)
gathered_arc flow xs u arc k h = below_trans (arriving flow xs u arc) (arriving_over flow xs u arc.link) (gathered flow xs u k) (in_link flow xs u arc.link arc.down) (gathered_link flow xs u k arc.link h)

gathered_least : (flow : Flow) (xs : List Row) (u k : ℕ) (r : Row) → IsBelow (flow.source u) r → ((arc : Arc) → arc.link < k → IsBelow (arriving flow xs u arc) r) → IsBelow (gathered flow xs u k) r
unfolding gathered
gathered_least flow xs u zero r s a = s
gathered_least flow xs u (suc k) r s a = join_least (arriving_over flow xs u k) (gathered flow xs u k) r
    (join_least (arriving flow xs u (up_of k)) (arriving flow xs u (down_of k)) r (a (up_of k) (omega arith)) (a (down_of k) (omega arith)))
    (gathered_least flow xs u k r s (λ arc h. a arc (omega arith)))

gathered_row : (flow : Flow) → Lawful flow → (xs : List Row) (u k : ℕ) → u < flow.routers → AreRows xs → length xs ≡ flow.routers → IsRow (gathered flow xs u k)
unfolding gathered
gathered_row flow laws xs u zero h rows long = laws.source u h
gathered_row flow laws xs u (suc k) h rows long = joined_is_row (arriving_over flow xs u k) (gathered flow xs u k)
    (joined_is_row (arriving flow xs u (up_of k)) (arriving flow xs u (down_of k)) (arriving_row flow laws xs u (up_of k) rows long) (arriving_row flow laws xs u (down_of k) rows long))
    (gathered_row flow laws xs u k h rows long)

-- ---- all routers at once

pub equations_rows : (flow : Flow) → Lawful flow → (xs : List Row) → AreRows xs → length xs ≡ flow.routers → AreRows (equations flow xs)
equations_rows flow laws xs rows long = record {
  each = λ u h.
      let low : u < flow.routers = let e = length-equations flow xs in omega arith in
      rw (row_at-equations flow xs u low) (gathered_row flow laws xs u flow.links low rows long);
}

-- below rows that solve the flow the equations stay below these
pub equations_below : (flow : Flow) → Lawful flow → (xs ys : List Row) → AreRows xs → AreRows ys → Solves flow ys → AreBelow xs ys → AreBelow (equations flow xs) ys
equations_below flow laws xs ys x_rows rows solves p = record {
  long = length-equations flow xs ∙ sym solves.long;
  each = λ u h.
      let low : u < flow.routers = let e = length-equations flow xs in omega arith in
      rw (row_at-equations flow xs u low)
      (gathered_least flow xs u flow.links (row_at ys u) (solves.local u low) (λ arc g. arriving_below flow laws xs ys x_rows rows solves p u low arc));
}

-- the equations grow
pub equations_grow : (flow : Flow) → Lawful flow → (xs ys : List Row) → length xs ≡ flow.routers → AreRows xs → AreRows ys → AreBelow xs ys → AreBelow (equations flow xs) (equations flow ys)
equations_grow flow laws xs ys long x_rows rows p = record {
  long = length-equations flow xs ∙ sym (length-equations flow ys);
  each = λ u h.
      let low : u < flow.routers = let e = length-equations flow xs in omega arith in
      rw (row_at-equations flow xs u low, row_at-equations flow ys u low)
      (gathered_least flow xs u flow.links (gathered flow ys u flow.links) (gathered_source flow ys u flow.links) (λ arc g.
      below_trans (arriving flow xs u arc) (arriving flow ys u arc) (gathered flow ys u flow.links)
      (arriving_grows flow laws xs ys long x_rows rows p u arc) (gathered_arc flow ys u arc flow.links g)));
}

-- what the equations keep as it is solves the flow
pub fixed_solves : (flow : Flow) → Lawful flow → (xs : List Row) → equations flow xs ≡ xs → Solves flow xs
fixed_solves flow laws xs same = record {
  long = sym (ap (λ ys. length {A = Row} ys) same) ∙ length-equations flow xs;
  local = λ u h. subst (λ (r : Row). IsBelow (flow.source u) r) (is u h) (gathered_source flow xs u flow.links);
  learned = λ arc lives.
      subst (λ (r : Row). IsBelow (flow.gives arc (row_at xs (flow.sender arc))) r) (is (flow.receiver arc) (laws.receiver arc lives))
      (subst (λ (r : Row). IsBelow r (gathered flow xs (flow.receiver arc) flow.links)) (arrives flow xs arc lives)
      (gathered_arc flow xs (flow.receiver arc) arc flow.links (laws.link arc lives)));
} where
  is : (u : ℕ) → u < flow.routers → gathered flow xs u flow.links ≡ row_at xs u
  is u h = sym (row_at-equations flow xs u h) ∙ ap (λ ys. row_at ys u) same
