-- Valid tables have no bad row.
use Rattle.std.proofs.Common.{◌≡◌, ◌≢◌, ℕ, ◌+◌, ◌≤◌, Bool, true, false, List, [], ◌∷◌, ◌++◌, count_by, length, ◌||◌, ◌&&◌, ◌==◌, nat_lt, nat_le, not, if◌then◌else◌, unwrap_or, Some, None, refl, ap, ◌∙◌, arith, append_assoc, length-append}
use Rattle.std.specs.List.{All, list_any, list_all}
use Rattle.std.specs.declared.cmp.Ordering.{Ordering}
use Rattle.std.specs.Ordering.{nat_cmp}
use Rattle.std.proofs.lemmas.Bool.Decides.{nat_tests}
use Rattle.std.proofs.lemmas.List.Elements.{All-head, All-tail}
use Rattle.std.proofs.lemmas.List.Sums.{sum_by-cons, sum_by-append}
use Rattle.net_types.specs.Names.{is_host}
use Rattle.desk_tables.specs.Order.{after, Ascends, Counts, texts_cmp, numbered_cmp}
use Rattle.desk_tables.specs.Tables.{has_head, head_of, file_key, approval_key, certificate_key, kept_key}
use Rattle.desk_tables.specs.Valid.{IsUpTo, IsPolicy, IsReview, IsFile, IsCertificate, IsKept, IsValid}
use Rattle.desk_tables.specs.declared.rows.Rows.{Rows}
use Rattle.desk_tables.specs.declared.rows.PolicyRow.{PolicyRow}
use Rattle.desk_tables.specs.declared.rows.ReviewRow.{ReviewRow}
use Rattle.desk_tables.specs.declared.rows.FileRow.{FileRow}
use Rattle.desk_tables.specs.declared.rows.ApprovalRow.{ApprovalRow}
use Rattle.desk_tables.specs.declared.rows.CertificateRow.{CertificateRow}
use Rattle.desk_tables.specs.declared.rows.KeptRow.{KeptRow}
use Rattle.desk_tables.proofs.TableLemmas.{and_true}
use Rattle.stored_rows.specs.Stored.{first_bad, first_out, out, is_up_to, bad_policy, bad_merged, bad_open, bad_review, good_file, bad_file, good_approval, bad_approval, good_certificate, bad_certificate, has_target, good_kept, bad_kept, bad_in_policies, bad_in_reviews, bad_in_files, bad_in_approvals, bad_in_certificates, bad_in_kept, first_bad_row}

both : (a b : Bool) → a ≡ true → b ≡ true → (a && b) ≡ true
both true b p q = q
both false b p q = absurd (cc)

within : (n id : ℕ) → IsUpTo n id → is_up_to n id ≡ true
within n id is = both (nat_le 1 id) (nat_le id n) (grind (arith, nat_tests, is.0)) (grind (arith, nat_tests, is.1))

-- ---- tables that ascend

-- rows behind a row, each greater than the one before it, and good
rest_in : {X K : Type 0} (cmp : K → K → Ordering) (key : X → K) (good : X → Bool) (P : X → Type 0) → ((x : X) → P x → good x ≡ true) → (n : ℕ) (last : X) (xs : List X) → list_all (after cmp key (key last)) xs ≡ true → Ascends cmp key xs → All P xs → first_out (out cmp key good) n (Some last) xs ≡ None
rest_in cmp key good P means n last [] behind sorted all = refl
rest_in cmp key good P means n last (x ∷ xs) behind sorted all =
    let parts = and_true (after cmp key (key last) x) (list_all (after cmp key (key last)) xs) behind in
    let here = means x (All-head P x xs all) in
    let next = rest_in cmp key good P means (n + 1) x xs sorted.0 sorted.1 (All-tail P x xs all) in
    rw (parts.0, here) next

none_out : {X K : Type 0} (cmp : K → K → Ordering) (key : X → K) (good : X → Bool) (P : X → Type 0) → ((x : X) → P x → good x ≡ true) → (xs : List X) → Ascends cmp key xs → All P xs → first_out (out cmp key good) 1 None xs ≡ None
none_out cmp key good P means [] sorted all = refl
none_out cmp key good P means (x ∷ xs) sorted all =
    let here = means x (All-head P x xs all) in
    let next = rest_in cmp key good P means (1 + 1) x xs sorted.0 sorted.1 (All-tail P x xs all) in
    rw here next

file_good : (reviews : ℕ) (f : FileRow) → IsFile reviews f → good_file reviews f ≡ true
file_good reviews f is = both (is_up_to reviews f.review) (is_host f.name) (within reviews f.review is.0) is.1

certificate_good : (reviews policies : ℕ) (c : CertificateRow) → IsCertificate reviews policies c → good_certificate reviews policies c ≡ true
certificate_good reviews policies c is =
    let version : nat_le c.policy policies ≡ true = grind (arith, nat_tests, is.policy) in
    let missing : nat_lt (unwrap_or c.missing 0) 64 ≡ true = grind (arith, nat_tests, is.missing) in
    both (is_up_to reviews c.review && nat_le c.policy policies) (nat_lt (unwrap_or c.missing 0) 64) (both (is_up_to reviews c.review) (nat_le c.policy policies) (within reviews c.review is.review) version) missing

kept_good : (reviews policies : ℕ) (k : KeptRow) → IsKept reviews policies k → good_kept reviews policies k ≡ true
kept_good reviews policies k is = both (is_up_to 6 k.kind) (has_target reviews policies k) (within 6 k.kind is.kind) (by_kind (k.kind == 1) refl)
  where
    by_kind : (b : Bool) → (k.kind == 1) ≡ b → is_up_to (if b then policies else reviews) k.target ≡ true
    by_kind true same =
        let one : k.kind ≡ 1 = grind (arith, nat_tests) in
        within policies k.target (is.policy one)
    by_kind false same =
        let apart : k.kind ≢ 1 = grind (arith, nat_tests) in
        within reviews k.target (is.review apart)

no_bad_file : (n : ℕ) (xs : List FileRow) → Ascends numbered_cmp file_key xs → All (IsFile n) xs → first_out (bad_file n) 1 None xs ≡ None
unfolding bad_file
no_bad_file n xs sorted all = none_out numbered_cmp file_key (good_file n) (IsFile n) (file_good n) xs sorted all

no_bad_approval : (n : ℕ) (xs : List ApprovalRow) → Ascends numbered_cmp approval_key xs → All (λ (a : ApprovalRow). IsUpTo n a.review) xs → first_out (bad_approval n) 1 None xs ≡ None
unfolding bad_approval
no_bad_approval n xs sorted all = none_out numbered_cmp approval_key (good_approval n) (λ (a : ApprovalRow). IsUpTo n a.review) (λ a is. within n a.review is) xs sorted all

no_bad_certificate : (n p : ℕ) (xs : List CertificateRow) → Ascends nat_cmp certificate_key xs → All (IsCertificate n p) xs → first_out (bad_certificate n p) 1 None xs ≡ None
unfolding bad_certificate
no_bad_certificate n p xs sorted all = none_out nat_cmp certificate_key (good_certificate n p) (IsCertificate n p) (certificate_good n p) xs sorted all

no_bad_kept : (n p : ℕ) (xs : List KeptRow) → Ascends texts_cmp kept_key xs → All (IsKept n p) xs → first_out (bad_kept n p) 1 None xs ≡ None
unfolding bad_kept
no_bad_kept n p xs sorted all = none_out texts_cmp kept_key (good_kept n p) (IsKept n p) (kept_good n p) xs sorted all

-- ---- tables that count

no_bad_policy : (n : ℕ) (past xs : List PolicyRow) → n ≡ length past + 1 → Counts (λ (p : PolicyRow). p.version) n xs → All IsPolicy xs → first_bad bad_policy past xs ≡ None
unfolding bad_policy
no_bad_policy n past [] is counts all = refl
no_bad_policy n past (x ∷ xs) is counts all =
    let number : (x.version == length past + 1) ≡ true = grind (arith, nat_tests, counts.0, is) in
    let asks = within 16 x.approvals (All-head IsPolicy x xs all) in
    let next = no_bad_policy (n + 1) (past ++ x ∷ []) xs (omega (arith, length-append past (x ∷ []), is)) counts.1 (All-tail IsPolicy x xs all) in
    rw (number, asks) next

count_one : {X : Type 0} (p : X → Bool) (x : X) (xs : List X) → p x ≡ true → count_by p (x ∷ xs) ≡ 1 + count_by p xs
count_one p x xs is = sum_by-cons (λ y. if p y then 1 else 0) x xs ∙ rw is refl

count_other : {X : Type 0} (p : X → Bool) (x : X) (xs : List X) → p x ≡ false → count_by p (x ∷ xs) ≡ 0 + count_by p xs
count_other p x xs is = sum_by-cons (λ y. if p y then 1 else 0) x xs ∙ rw is refl

-- none is among rows of which none is counted
uncounted : {X : Type 0} (p : X → Bool) (xs : List X) → count_by p xs ≡ 0 → list_any p xs ≡ false
uncounted p [] none = refl
uncounted {X = X} p (x ∷ xs) none = by_case (p x) refl (uncounted p xs)
  where
    by_case : (b : Bool) → p x ≡ b → (count_by p xs ≡ 0 → list_any p xs ≡ false) → (p x || list_any p xs) ≡ false
    by_case true is rest = absurd (omega (arith, none, count_one p x xs is))
    by_case false is rest = rw is (rest (omega (arith, none, count_other p x xs is)))

-- a merged review has its head
has_own : (x : ReviewRow) → x.state ≡ 1 → has_head x.head x ≡ true
has_own x is = both (x.state == 1) (x.head == x.head) (grind (arith, nat_tests, is)) (grind (arith, nat_tests))

-- where a head comes once, no row before the one that has it has it too
none_before : (head : ℕ) (past xs : List ReviewRow) (x : ReviewRow) → count_by (has_head head) (past ++ x ∷ xs) ≡ 1 → has_head head x ≡ true → list_any (has_head head) past ≡ false
none_before head past xs x once has =
    let all : count_by (has_head head) (past ++ x ∷ xs) ≡ count_by (has_head head) past + count_by (has_head head) (x ∷ xs) = sum_by-append (λ y. if has_head head y then 1 else 0) past (x ∷ xs) in
    let one = count_one (has_head head) x xs has in
    uncounted (has_head head) past (omega (arith, once, all, one))

review_in : (heads : ℕ) (past : List ReviewRow) (x : ReviewRow) → x.id ≡ length past + 1 → x.id ≤ 10000 → IsReview heads x → (x.state ≡ 1 → list_any (has_head x.head) past ≡ false) → bad_review heads past x ≡ false
unfolding bad_review
review_in heads past x number few is new = by_state (x.state == 1) refl
  where
    id : (x.id == length past + 1) ≡ true
    id = grind (arith, nat_tests, number)

    low : nat_lt 10000 x.id ≡ false
    low = grind (arith, nat_tests, few)

    state : nat_lt 2 x.state ≡ false
    state = grind (arith, nat_tests, is.state)

    by_state : (b : Bool) → (x.state == 1) ≡ b → (not (x.id == length past + 1) || nat_lt 10000 x.id || nat_lt 2 x.state || (if b then bad_merged heads past x else bad_open heads x)) ≡ false
    by_state true same =
        let merged : x.state ≡ 1 = grind (arith, nat_tests) in
        let above = is.merged_base merged in
        let high = is.merged_head merged in
        let some : (x.head == 0) ≡ false = grind (arith, nat_tests, above) in
        let there : nat_lt heads x.head ≡ false = grind (arith, nat_tests, high) in
        let fresh = new merged in
        let base : nat_le x.head x.base ≡ false = grind (arith, nat_tests, above) in
        rw (id, low, state, some, there, fresh, base) refl
    by_state false same =
        let apart : x.state ≢ 1 = grind (arith, nat_tests) in
        let zero' : (x.head == 0) ≡ true = grind (arith, nat_tests, is.open_head apart) in
        let base : nat_lt heads x.base ≡ false = grind (arith, nat_tests, is.open_base apart) in
        rw (id, low, state, zero', base) refl

no_bad_review : (heads n : ℕ) (past xs : List ReviewRow) → n ≡ length past + 1 → Counts (λ (r : ReviewRow). r.id) n xs → length past + length xs ≤ 10000 → All (IsReview heads) xs → ((head : ℕ) → IsUpTo heads head → count_by (has_head head) (past ++ xs) ≡ 1) → first_bad (bad_review heads) past xs ≡ None
no_bad_review heads n past [] is counts few all once = refl
no_bad_review heads n past (x ∷ xs) is counts few all once =
    let here = All-head (IsReview heads) x xs all in
    let number : x.id ≡ length past + 1 = counts.0 ∙ is in
    let low : x.id ≤ 10000 = omega (arith, number, few) in
    let good = review_in heads past x number low here (λ merged. none_before x.head past xs x (once x.head (omega (arith, here.merged_base merged), here.merged_head merged)) (has_own x merged)) in
    let long = length-append past (x ∷ []) in
    let next = no_bad_review heads (n + 1) (past ++ x ∷ []) xs (omega (arith, is, long)) counts.1 (omega (arith, few, long)) (All-tail (IsReview heads) x xs all) (λ head up. ap (λ ys. count_by (has_head head) ys) (append_assoc past (x ∷ []) xs) ∙ once head up) in
    rw good next

-- ---- all tables

pub valid_tables : (t : Rows) → IsValid t → first_bad_row t ≡ None
valid_tables t is =
    let a : bad_in_policies t ≡ None = no_bad_policy 1 [] t.policies refl is.versions is.policies in
    let b : bad_in_reviews t ≡ None = no_bad_review (head_of t) 1 [] t.reviews refl is.numbers (omega (arith, is.few)) is.reviews is.heads in
    let c : bad_in_files t ≡ None = no_bad_file (length t.reviews) t.files is.files_ascend is.files in
    let d : bad_in_approvals t ≡ None = no_bad_approval (length t.reviews) t.approvals is.approvals_ascend is.approvals in
    let e : bad_in_certificates t ≡ None = no_bad_certificate (length t.reviews) (length t.policies) t.certificates is.certificates_ascend is.certificates in
    let f : bad_in_kept t ≡ None = no_bad_kept (length t.reviews) (length t.policies) t.kept is.kept_ascend is.kept in
    rw (a, b, c, d, e, f) refl
