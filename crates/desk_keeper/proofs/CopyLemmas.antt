-- Rows that are copied one behind the other.
use Rattle.std.proofs.Common.{◌≡◌, ℕ, zero, suc, ◌+◌, ◌≤◌, List, [], ◌∷◌, ◌++◌, length, drop, get_or, slice_get, Some, None, refl, sym, ap, ◌∙◌, arith}
use Rattle.std.proofs.lemmas.Option.{get_or_from_slice_get, slice_get_within}
use Rattle.std.proofs.Math.Seq.{drop-cons}
use Rattle.std.proofs.Math.ListN.{drop_of_length-le}
use Rattle.desk_tables.specs.declared.rows.KeptRow.{KeptRow}

none_past : {X : Type 0} (xs : List X) (i : ℕ) → slice_get xs i ≡ None → length xs ≤ i
none_past [] i none = omega arith
none_past (x ∷ xs) zero none = absurd (cc)
none_past (x ∷ xs) (suc i) none = omega (arith, none_past xs i none)

push_append : {X : Type 0} (xs ys : List X) (x : X) → (xs ++ x ∷ []) ++ ys ≡ xs ++ x ∷ ys
push_append [] ys x = refl
push_append (z ∷ zs) ys x = ap (λ us. z ∷ us) (push_append zs ys x)

pub copied : (items all all' : List KeptRow) (i : ℕ) (x : KeptRow) → slice_get items i ≡ Some x → all' ≡ all ++ x ∷ [] → all' ++ drop (i + 1) items ≡ all ++ drop i items
copied items all all' i x there is =
    let next : i + 1 ≡ suc i = omega arith in
    let first : get_or items i x ≡ x = get_or_from_slice_get items i x x there in
    let rest : drop i items ≡ x ∷ drop (i + 1) items = drop-cons items i x (slice_get_within items i x there) ∙ ap (λ y. y ∷ drop (suc i) items) first ∙ ap (λ n. x ∷ drop n items) (sym next) in
    ap (λ us. us ++ drop (i + 1) items) is ∙ push_append all (drop (i + 1) items) x ∙ ap (λ us. all ++ us) (sym rest)

pub past : (items all : List KeptRow) (i : ℕ) → slice_get items i ≡ None → all ++ drop (i + 1) items ≡ all ++ drop i items
past items all i none =
    let low = none_past items i none in
    ap (λ us. all ++ us) (drop_of_length-le items (omega (arith, low)) ∙ sym (drop_of_length-le items low))
