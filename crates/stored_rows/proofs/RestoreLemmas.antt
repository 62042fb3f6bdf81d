-- A table of reviews, or of the policy, without a bad row is valid.
use Rattle.std.proofs.Common.{◌≡◌, ◌≢◌, ℕ, ◌+◌, ◌<◌, ◌≤◌, Bool, true, false, List, [], ◌∷◌, ◌++◌, count_by, length, ◌||◌, ◌==◌, nat_lt, nat_le, not, if◌then◌else◌, Some, None, refl, sym, ap, ◌∙◌, subst, arith, append_assoc, length-append}
use Rattle.std.specs.List.{All, list_any}
use Rattle.std.proofs.lemmas.Bool.Decides.{nat_tests}
use Rattle.std.proofs.lemmas.List.Elements.{All-cons, All-nil}
use Rattle.std.proofs.lemmas.List.Sums.{sum_by-cons, sum_by-append}
use Rattle.desk_tables.specs.Order.{Counts}
use Rattle.desk_tables.specs.Tables.{is_merged, has_head}
use Rattle.desk_tables.specs.Valid.{IsUpTo, IsReview}
use Rattle.stored_rows.specs.Stored.{first_bad, bad_review, bad_head, bad_merged, bad_open, bad_policy, is_up_to}
use Rattle.desk_tables.specs.declared.rows.ReviewRow.{ReviewRow}
use Rattle.desk_tables.specs.Valid.{IsPolicy}
use Rattle.desk_tables.specs.declared.rows.PolicyRow.{PolicyRow}
use Rattle.desk_tables.proofs.TableLemmas.{and_true}
use Rattle.stored_rows.proofs.HeadLemmas.{heads_are_each}

-- what the table of reviews is where no row is bad
pub record AreReviews (rows : List ReviewRow) : Type 0 where
  pub numbers : Counts (λ r. r.id) 1 rows
  pub few : length rows ≤ 10000
  pub reviews : All (IsReview (count_by is_merged rows)) rows
  pub heads : (head : ℕ) → IsUpTo (count_by is_merged rows) head → count_by (has_head head) rows ≡ 1

-- no row breaks the test of it and of the rows before it
abbrev pub AllGood : {X : Type 0} → (List X → X → Bool) → List X → List X → Type 0
AllGood test past [] = Unit {0}
AllGood test past (x ∷ xs) = (test past x ≡ false) × AllGood test (past ++ x ∷ []) xs

all_good : {X : Type 0} (test : List X → X → Bool) (past xs : List X) → first_bad test past xs ≡ None → AllGood test past xs
all_good test past [] none = tt
all_good {X = X} test past (x ∷ xs) none = by_case (test past x) refl none (all_good test (past ++ x ∷ []) xs)
  where
    by_case : (b : Bool) → test past x ≡ b → (if b then Some (length past + 1) else first_bad test (past ++ x ∷ []) xs) ≡ None → (first_bad test (past ++ x ∷ []) xs ≡ None → AllGood test (past ++ x ∷ []) xs) → (test past x ≡ false) × AllGood test (past ++ x ∷ []) xs
    by_case true is none rest = absurd (cc)
    by_case false is none rest = (is, rest none)

pub or_false : (a b : Bool) → (a || b) ≡ false → (a ≡ false) × (b ≡ false)
or_false true b h = absurd (cc)
or_false false b h = (refl, h)

pub not_false : (b : Bool) → not b ≡ false → b ≡ true
not_false true h = refl
not_false false h = absurd (cc)

-- what a review that is not bad has
record IsGood (heads : ℕ) (past : List ReviewRow) (r : ReviewRow) : Type 0 where
  number : r.id ≡ length past + 1
  few : r.id ≤ 10000
  review : IsReview heads r
  head : r.state ≡ 1 → IsUpTo heads r.head
  new : r.state ≡ 1 → list_any (has_head r.head) past ≡ false

good_review : (heads : ℕ) (past : List ReviewRow) (r : ReviewRow) → bad_review heads past r ≡ false → IsGood heads past r
unfolding bad_review
good_review heads past r good =
    let last = or_false (not (r.id == length past + 1) || nat_lt 10000 r.id || nat_lt 2 r.state) (bad_head heads past r) good in
    let state = or_false (not (r.id == length past + 1) || nat_lt 10000 r.id) (nat_lt 2 r.state) last.0 in
    let id = or_false (not (r.id == length past + 1)) (nat_lt 10000 r.id) state.0 in
    let number : r.id ≡ length past + 1 = grind (arith, nat_tests, not_false _ id.0) in
    let few : r.id ≤ 10000 = grind (arith, nat_tests, id.1) in
    let low : r.state ≤ 2 = grind (arith, nat_tests, state.1) in
    by_state (r.state == 1) refl last.1 number few low
  where
    by_state : (b : Bool) → (r.state == 1) ≡ b → (if b then bad_merged heads past r else bad_open heads r) ≡ false → r.id ≡ length past + 1 → r.id ≤ 10000 → r.state ≤ 2 → IsGood heads past r
    by_state true is good number few low =
        let merged : r.state ≡ 1 = grind (arith, nat_tests) in
        let a = or_false (r.head == 0 || nat_lt heads r.head || list_any (has_head r.head) past) (nat_le r.head r.base) good in
        let b = or_false (r.head == 0 || nat_lt heads r.head) (list_any (has_head r.head) past) a.0 in
        let c = or_false (r.head == 0) (nat_lt heads r.head) b.0 in
        let above : r.base < r.head = grind (arith, nat_tests, a.1) in
        let within : r.head ≤ heads = grind (arith, nat_tests, c.1) in
        record {
          number = number;
          few = few;
          review = record { state = low; open_head = λ other. absurd (other merged); open_base = λ other. absurd (other merged); merged_base = λ h. above; merged_head = λ h. within };
          head = λ h. (omega arith, within);
          new = λ h. b.1;
        }
    by_state false is good number few low =
        let apart : r.state ≢ 1 = grind (arith, nat_tests) in
        let a = or_false (not (r.head == 0)) (nat_lt heads r.base) good in
        let zero' : r.head ≡ 0 = grind (arith, nat_tests, not_false _ a.0) in
        let within : r.base ≤ heads = grind (arith, nat_tests, a.1) in
        record {
          number = number;
          few = few;
          review = record { state = low; open_head = λ h. zero'; open_base = λ h. within; merged_base = λ h. absurd (apart h); merged_head = λ h. absurd (apart h) };
          head = λ h. absurd (apart h);
          new = λ h. absurd (apart h);
        }

good_numbers : (heads n : ℕ) (past xs : List ReviewRow) → n ≡ length past + 1 → AllGood (bad_review heads) past xs → Counts (λ r. r.id) n xs
good_numbers heads n past [] is good = tt
good_numbers heads n past (x ∷ xs) is good = ((good_review heads past x good.0).number ∙ sym is, good_numbers heads (n + 1) (past ++ x ∷ []) xs (omega (arith, length-append past (x ∷ []))) good.1)

good_few : (heads : ℕ) (past xs : List ReviewRow) → length past ≤ 10000 → AllGood (bad_review heads) past xs → length past + length xs ≤ 10000
good_few heads past [] low good = omega arith
good_few heads past (x ∷ xs) low good =
    let here = good_review heads past x good.0 in
    let long = length-append past (x ∷ []) in
    let rest = good_few heads (past ++ x ∷ []) xs (omega (arith, here.number, here.few, long)) good.1 in
    omega (arith, rest, long)

good_rows : (heads : ℕ) (past xs : List ReviewRow) → AllGood (bad_review heads) past xs → All (IsReview heads) xs
good_rows heads past [] good = All-nil (IsReview heads)
good_rows heads past (x ∷ xs) good = All-cons (IsReview heads) x xs (good_review heads past x good.0).review (good_rows heads (past ++ x ∷ []) xs good.1)

good_heads : (heads : ℕ) (past xs : List ReviewRow) → AllGood (bad_review heads) past xs → All (λ (r : ReviewRow). r.state ≡ 1 → IsUpTo heads r.head) xs
good_heads heads past [] good = All-nil (λ (r : ReviewRow). r.state ≡ 1 → IsUpTo heads r.head)
good_heads heads past (x ∷ xs) good = All-cons (λ (r : ReviewRow). r.state ≡ 1 → IsUpTo heads r.head) x xs (good_review heads past x good.0).head (good_heads heads (past ++ x ∷ []) xs good.1)

-- no head twice
none_counted : {X : Type 0} (p : X → Bool) (xs : List X) → list_any p xs ≡ false → count_by p xs ≡ 0
none_counted p [] none = refl
none_counted p (x ∷ xs) none =
    let parts = or_false (p x) (list_any p xs) none in
    let rest = none_counted p xs parts.1 in
    sum_by-cons (λ y. if p y then 1 else 0) x xs ∙ rw parts.0 (omega arith)

pushed_once : (heads head : ℕ) (past : List ReviewRow) (x : ReviewRow) → count_by (has_head head) past ≤ 1 → IsGood heads past x → count_by (has_head head) (past ++ x ∷ []) ≤ 1
pushed_once heads head past x low good = by_case (x.state == 1) refl (x.head == head) refl
  where
    all : count_by (has_head head) (past ++ x ∷ []) ≡ count_by (has_head head) past + ((if has_head head x then 1 else 0) + 0)
    all = sum_by-append (λ y. if has_head head y then 1 else 0) past (x ∷ []) ∙ ap (λ n. count_by (has_head head) past + n) (sum_by-cons (λ y. if has_head head y then 1 else 0) x [])

    by_case : (a : Bool) → (x.state == 1) ≡ a → (b : Bool) → (x.head == head) ≡ b → count_by (has_head head) (past ++ x ∷ []) ≤ 1
    by_case true merged true same =
        let is : x.state ≡ 1 = grind (arith, nat_tests) in
        let here : x.head ≡ head = grind (arith, nat_tests) in
        let none = none_counted (has_head head) past (subst (λ h. list_any (has_head h) past ≡ false) here (good.new is)) in
        let has : has_head head x ≡ true = rw (merged, same) refl in
        let sum = rw has at all in
        omega (arith, sum, none)
    by_case true merged false same =
        let has : has_head head x ≡ false = rw (merged, same) refl in
        let sum = rw has at all in
        omega (arith, sum)
    by_case false unmerged b same =
        let has : has_head head x ≡ false = rw unmerged refl in
        let sum = rw has at all in
        omega (arith, sum)

good_once : (heads head : ℕ) (past xs : List ReviewRow) → count_by (has_head head) past ≤ 1 → AllGood (bad_review heads) past xs → count_by (has_head head) (past ++ xs) ≤ 1
good_once heads head past [] low good =
    let all : count_by (has_head head) (past ++ []) ≡ count_by (has_head head) past + 0 = sum_by-append (λ y. if has_head head y then 1 else 0) past [] in
    omega (arith, all)
good_once heads head past (x ∷ xs) low good =
    let rest = good_once heads head (past ++ x ∷ []) xs (pushed_once heads head past x low (good_review heads past x good.0)) good.1 in
    let same : (past ++ x ∷ []) ++ xs ≡ past ++ x ∷ xs = append_assoc past (x ∷ []) xs in
    subst (λ (ys : List ReviewRow). count_by (has_head head) ys ≤ 1) same rest

pub good_reviews : (rows : List ReviewRow) → first_bad (bad_review (count_by is_merged rows)) [] rows ≡ None → AreReviews rows
good_reviews rows none =
    let heads = count_by is_merged rows in
    let good = all_good (bad_review heads) [] rows none in
    record {
      numbers = good_numbers heads 1 [] rows refl good;
      few = omega (arith, good_few heads [] rows (omega arith) good);
      reviews = good_rows heads [] rows good;
      heads = heads_are_each rows (good_heads heads [] rows good) (λ head. good_once heads head [] rows (omega arith) good);
    }

-- a version of the policy that is not bad
good_policy : (past : List PolicyRow) (p : PolicyRow) → bad_policy past p ≡ false → (p.version ≡ length past + 1) × IsPolicy p
unfolding bad_policy
good_policy past p good =
    let parts = or_false (not (p.version == length past + 1)) (not (is_up_to 16 p.approvals)) good in
    let within = and_true (nat_le 1 p.approvals) (nat_le p.approvals 16) (not_false _ parts.1) in
    (grind (arith, nat_tests, not_false _ parts.0), (grind (arith, nat_tests, within.0), grind (arith, nat_tests, within.1)))

good_versions : (n : ℕ) (past xs : List PolicyRow) → n ≡ length past + 1 → AllGood bad_policy past xs → Counts (λ (p : PolicyRow). p.version) n xs
good_versions n past [] is good = tt
good_versions n past (x ∷ xs) is good = ((good_policy past x good.0).0 ∙ sym is, good_versions (n + 1) (past ++ x ∷ []) xs (omega (arith, length-append past (x ∷ []), is)) good.1)

good_asks : (past xs : List PolicyRow) → AllGood bad_policy past xs → All IsPolicy xs
good_asks past [] good = All-nil IsPolicy
good_asks past (x ∷ xs) good = All-cons IsPolicy x xs (good_policy past x good.0).1 (good_asks (past ++ x ∷ []) xs good.1)

pub good_policies : (rows : List PolicyRow) → first_bad bad_policy [] rows ≡ None → Counts (λ (p : PolicyRow). p.version) 1 rows × All IsPolicy rows
good_policies rows none =
    let good = all_good bad_policy [] rows none in
    (good_versions 1 [] rows refl good, good_asks [] rows good)
