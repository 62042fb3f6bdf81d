-- Which review is merged as which head, before and after a change.
use Rattle.std.proofs.Common.{◌≡◌, ◌≢◌, ℕ, zero, suc, ◌<◌, Bool, true, false, List, [], ◌∷◌, ◌++◌, length, find, Option, Some, None, refl, sym, ap, ◌∙◌, arith, slice_get}
use Rattle.std.specs.List.{All}
use Rattle.std.specs.Option.{option_or}
use Rattle.std.proofs.lemmas.Bool.Decides.{nat_tests}
use Rattle.std.proofs.lemmas.List.Elements.{All-head, All-tail}
use Rattle.std.proofs.lemmas.List.Folds.{find-append}
use Rattle.desk_tables.specs.Tables.{has_head, number_in, merged_of, head_of, merged, withdrawn}
use Rattle.desk_tables.specs.Valid.{IsValid, IsReview}
use Rattle.desk_tables.specs.declared.rows.Rows.{Rows}
use Rattle.desk_tables.specs.declared.rows.ReviewRow.{ReviewRow}

-- no review has a head that is not given
find_no_head : (heads head : ℕ) (xs : List ReviewRow) → All (IsReview heads) xs → head ≡ 0 → find (has_head head) xs ≡ None
find_no_head heads head [] all low = refl
find_no_head heads head (x ∷ xs) all low =
    let here = All-head (IsReview heads) x xs all in
    let no : has_head head x ≡ false = grind (arith, nat_tests, here.merged_base) in
    rw no (find_no_head heads head xs (All-tail (IsReview heads) x xs all) low)

pub no_head : (t : Rows) (head : ℕ) → IsValid t → head ≡ 0 → merged_of t head ≡ None
no_head t head v low = ap number_in (find_no_head (head_of t) head t.reviews v.reviews low)

pub find_past_head : (heads head : ℕ) (xs : List ReviewRow) → All (IsReview heads) xs → heads < head → find (has_head head) xs ≡ None
find_past_head heads head [] all high = refl
find_past_head heads head (x ∷ xs) all high =
    let here = All-head (IsReview heads) x xs all in
    let no : has_head head x ≡ false = grind (arith, nat_tests, here.merged_head) in
    rw no (find_past_head heads head xs (All-tail (IsReview heads) x xs all) high)

-- the part before a row of a table without a row that passes has none
front_none : {X : Type 0} (p : X → Bool) (xs ys : List X) → find p (xs ++ ys) ≡ None → find p xs ≡ None
front_none {X = X} p xs ys none = by_case (find p xs) (sym (find-append p xs ys) ∙ none)
  where
    by_case : (o : Option X) → option_or o (find p ys) ≡ None → o ≡ None
    by_case None is = refl
    by_case (Some x) is = absurd (cc)

-- one number more
pub get_last : (xs : List ℕ) (x at : ℕ) → at ≡ length xs → slice_get (xs ++ x ∷ []) at ≡ Some x
get_last [] x zero is = refl
get_last [] x (suc at) is = absurd (omega arith)
get_last (y ∷ ys) x zero is = absurd (omega arith)
get_last (y ∷ ys) x (suc at) is = get_last ys x at (omega arith)

pub get_other : (xs : List ℕ) (x at : ℕ) → at ≢ length xs → slice_get (xs ++ x ∷ []) at ≡ slice_get xs at
get_other [] x zero apart = absurd (apart refl)
get_other [] x (suc at) apart = refl
get_other (y ∷ ys) x zero apart = refl
get_other (y ∷ ys) x (suc at) apart = get_other ys x at (λ same. apart (ap suc same))

-- where a row of a table is changed that passes neither before nor after, the same row is found
find_changed : (p : ReviewRow → Bool) (front back : List ReviewRow) (x y : ReviewRow) → p x ≡ false → p y ≡ false → find p (front ++ y ∷ back) ≡ find p (front ++ x ∷ back)
find_changed p front back x y old new = find-append p front (y ∷ back) ∙ rw (old, new) refl ∙ sym (find-append p front (x ∷ back))

-- where no row passes, and one is changed so that it does, that one is found
find_one : (p : ReviewRow → Bool) (front back : List ReviewRow) (x y : ReviewRow) → find p (front ++ x ∷ back) ≡ None → p y ≡ true → find p (front ++ y ∷ back) ≡ Some y
find_one p front back x y none new = find-append p front (y ∷ back) ∙ rw (front_none p front (x ∷ back) none, new) refl

-- an open review is merged as no head
open_head : (head : ℕ) (x : ReviewRow) → x.state ≡ 0 → has_head head x ≡ false
open_head head x is = grind (arith, nat_tests)

pub index_pushed : (xs : List ReviewRow) (x : ReviewRow) (head : ℕ) → x.state ≡ 0 → find (has_head head) (xs ++ x ∷ []) ≡ find (has_head head) xs
index_pushed xs x head is = find-append (has_head head) xs (x ∷ []) ∙ rw (open_head head x is) (or_none (find (has_head head) xs))
  where
    or_none : {X : Type 0} (o : Option X) → option_or o None ≡ o
    or_none None = refl
    or_none (Some x) = refl

pub index_withdrawn : (front back : List ReviewRow) (x : ReviewRow) (head : ℕ) → x.state ≡ 0 → find (has_head head) (front ++ withdrawn x ∷ back) ≡ find (has_head head) (front ++ x ∷ back)
index_withdrawn front back x head is = find_changed (has_head head) front back x (withdrawn x) (open_head head x is) refl

pub index_merged_other : (front back : List ReviewRow) (x : ReviewRow) (top head : ℕ) → x.state ≡ 0 → head ≢ top → find (has_head head) (front ++ merged top x ∷ back) ≡ find (has_head head) (front ++ x ∷ back)
index_merged_other front back x top head is apart = find_changed (has_head head) front back x (merged top x) (open_head head x is) (grind (arith, nat_tests))

pub index_merged_top : (heads : ℕ) (front back : List ReviewRow) (x : ReviewRow) (top head : ℕ) → All (IsReview heads) (front ++ x ∷ back) → heads < top → head ≡ top → find (has_head head) (front ++ merged top x ∷ back) ≡ Some (merged top x)
index_merged_top heads front back x top head all high is = find_one (has_head head) front back x (merged top x) (find_past_head heads head (front ++ x ∷ back) all (omega arith)) (grind (arith, nat_tests))
