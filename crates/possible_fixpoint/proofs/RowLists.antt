-- Lists of rows: their order, and how far they have grown.
use Rattle.std.proofs.Common.{suc, ◌≡◌, ◌*◌, ◌^◌, ◌≤◌, List, [], ◌∷◌, length, arith, ◌∙◌, refl}
use Rattle.abstract_route.specs.declared.rows.Row.{Row}
use Rattle.abstract_route.proofs.RowLemmas.{below_refl, below_trans}
use Rattle.abstract_route.proofs.HeightLemmas.{rank_up, rank_even, rank_small}
use Rattle.abstract_route.specs.Rows.{row_at}
use Rattle.possible_fixpoint.specs.Standing.{list_rank}
use Rattle.possible_fixpoint.specs.Possible.{AreBelow, AreRows}

pub are_below_refl : (xs : List Row) → AreBelow xs xs
are_below_refl xs = record { long = refl; each = λ u h. below_refl (row_at xs u) }

pub are_below_trans : (xs ys zs : List Row) → AreBelow xs ys → AreBelow ys zs → AreBelow xs zs
are_below_trans xs ys zs p q = record { long = p.long ∙ q.long; each = λ u h. below_trans (row_at xs u) (row_at ys u) (row_at zs u) (p.each u h) (q.each u (let e = p.long in omega arith)) }

below_tail : (x y : Row) (xs ys : List Row) → AreBelow (x ∷ xs) (y ∷ ys) → AreBelow xs ys
below_tail x y xs ys p = record { long = (let e = p.long in omega arith); each = λ u h. p.each (suc u) (omega arith) }

rows_tail : (x : Row) (xs : List Row) → AreRows (x ∷ xs) → AreRows xs
rows_tail x xs p = record { each = λ u h. p.each (suc u) (omega arith) }

pub list_rank_up : (xs ys : List Row) → AreBelow xs ys → list_rank xs ≤ list_rank ys
unfolding list_rank
list_rank_up [] [] p = omega arith
list_rank_up [] (y ∷ ys) p = absurd (let e = p.long in omega arith)
list_rank_up (x ∷ xs) [] p = absurd (let e = p.long in omega arith)
list_rank_up (x ∷ xs) (y ∷ ys) p = let e = list_rank_up xs ys (below_tail x y xs ys p) in let f = rank_up x y (p.each 0 (omega arith)) in omega arith

pub list_rank_even : (xs ys : List Row) → AreRows xs → AreRows ys → AreBelow xs ys → list_rank ys ≤ list_rank xs → xs ≡ ys
unfolding list_rank
list_rank_even [] [] a b p e = refl
list_rank_even [] (y ∷ ys) a b p e = absurd (let f = p.long in omega arith)
list_rank_even (x ∷ xs) [] a b p e = absurd (let f = p.long in omega arith)
list_rank_even (x ∷ xs) (y ∷ ys) a b p e =
    let below = p.each 0 (omega arith) in let t = below_tail x y xs ys p in
    let f = rank_up x y below in let g = list_rank_up xs ys t in
    let same : x ≡ y = rank_even x y (a.each 0 (omega arith)) (b.each 0 (omega arith)) below (omega arith) in
    let rest : xs ≡ ys = list_rank_even xs ys (rows_tail x xs a) (rows_tail y ys b) t (omega arith) in
    λ i. same i ∷ rest i

pub list_rank_small : (xs : List Row) → AreRows xs → list_rank xs ≤ length xs * (14 * 2 ^ 64)
unfolding list_rank
list_rank_small [] a = omega arith
list_rank_small (x ∷ xs) a = let e = list_rank_small xs (rows_tail x xs a) in let f = rank_small x (a.each 0 (omega arith)) in omega arith
