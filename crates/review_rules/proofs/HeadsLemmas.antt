-- The index of heads of valid tables.
use Rattle.std.proofs.Common.{◌≡◌, ℕ, zero, suc, ◌+◌, ◌<◌, ◌≤◌, Bool, true, false, List, [], ◌∷◌, length, find, count_by, get_or, slice_get, nat_lt, if◌then◌else◌, Some, refl, sym, ap, ◌∙◌, subst, arith, ◌-◌, ◌^◌, min}
use Rattle.std.proofs.lemmas.Bool.Decides.{nat_tests}
use Rattle.std.proofs.lemmas.List.Sums.{sum_by-cons}
use Rattle.std.proofs.lemmas.Option.{slice_get_past}
use Rattle.desk_tables.specs.Tables.{has_head, head_of, merged_of, number_in, bytes_of}
use Rattle.desk_tables.specs.Valid.{IsValid, IsDesk}
use Rattle.desk_tables.specs.declared.rows.Rows.{Rows}
use Rattle.desk_tables.specs.declared.rows.ReviewRow.{ReviewRow}
use Rattle.stored_rows.specs.Index.{Indexes, or_zero}
use Rattle.review_rules.proofs.IndexLemmas.{find_past_head}

get_within : (xs : List ℕ) (at : ℕ) → at < length xs → slice_get xs at ≡ Some (get_or xs at 0)
get_within [] at low = absurd (omega arith)
get_within (x ∷ xs) zero low = refl
get_within (x ∷ xs) (suc at) low = get_within xs at (omega arith)

-- where one row passes, one is found
count_found : (p : ReviewRow → Bool) (xs : List ReviewRow) → count_by p xs ≡ 1 → (r : ReviewRow) × (find p xs ≡ Some r)
count_found p [] one = absurd (omega (arith, one))
count_found p (x ∷ xs) one = by_case (p x) (sum_by-cons (λ y. if p y then 1 else 0) x xs) (count_found p xs)
  where
    by_case : (b : Bool) → count_by p (x ∷ xs) ≡ (if b then 1 else 0) + count_by p xs → (count_by p xs ≡ 1 → (r : ReviewRow) × (find p xs ≡ Some r)) → (r : ReviewRow) × ((if b then Some x else find p xs) ≡ Some r)
    by_case true sum rest = (x, refl)
    by_case false sum rest = rest (omega (arith, sum, one))

pub heads_indexed : (t : Rows) (numbers : List ℕ) → IsValid t → length numbers ≡ head_of t → Indexes numbers t.reviews → (at : ℕ) → slice_get numbers at ≡ merged_of t (at + 1)
heads_indexed t numbers v long index at = by_place (nat_lt at (length numbers)) refl
  where
    by_place : (b : Bool) → nat_lt at (length numbers) ≡ b → slice_get numbers at ≡ merged_of t (at + 1)
    by_place true is =
        let low : at < length numbers = grind (arith, nat_tests) in
        let one = v.heads (at + 1) (omega arith, omega (arith, low, long)) in
        let found = count_found (has_head (at + 1)) t.reviews one in
        let number : get_or numbers at 0 ≡ found.0.id = index at low ∙ ap (λ o. or_zero (number_in o)) found.1 in
        get_within numbers at low ∙ ap Some number ∙ sym (ap number_in found.1)
    by_place false is =
        let high : length numbers ≤ at = grind (arith, nat_tests) in
        let none = find_past_head (head_of t) (at + 1) t.reviews v.reviews (omega (arith, high, long)) in
        slice_get_past numbers at high ∙ sym (ap number_in none)

-- what a desk knows of valid tables
pub desk_restored : (t u : Rows) (numbers : List ℕ) (bytes : ℕ) → IsValid t → length numbers ≡ head_of t → Indexes numbers t.reviews → bytes ≡ min (bytes_of t) (2 ^ 128 - 1) → u ≡ t → IsDesk u numbers bytes
desk_restored t u numbers bytes v long index sum same = subst (λ (w : Rows). IsDesk w numbers bytes) (sym same) (record { valid = v; count = long; heads = heads_indexed t numbers v long index; sum = sum })
