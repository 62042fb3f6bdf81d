-- A table whose rows are tested each with the one before it: without a bad row it ascends, and each row is good.
use Rattle.std.proofs.Common.{◌≡◌, ◌≢◌, ℕ, ◌+◌, Bool, true, false, List, [], ◌∷◌, ◌&&◌, ◌==◌, length, nat_lt, nat_le, not, if◌then◌else◌, unwrap_or, Option, Some, None, refl, arith}
use Rattle.std.specs.List.{All, list_all}
use Rattle.std.specs.declared.cmp.Ordering.{Ordering}
use Rattle.std.specs.Cmp.{IsTotalOrder}
use Rattle.std.specs.Ordering.{nat_cmp}
use Rattle.std.proofs.lemmas.Bool.Decides.{nat_tests}
use Rattle.std.proofs.lemmas.Cmp.{nat_cmp_total}
use Rattle.std.proofs.lemmas.List.Elements.{All-cons, All-nil}
use Rattle.net_types.specs.Names.{is_host}
use Rattle.desk_tables.specs.Order.{after, Ascends, texts_cmp, numbered_cmp}
use Rattle.desk_tables.specs.Tables.{file_key, approval_key, certificate_key, kept_key}
use Rattle.desk_tables.specs.Valid.{IsUpTo, IsFile, IsCertificate, IsKept, IsValid}
use Rattle.desk_tables.specs.declared.rows.Rows.{Rows}
use Rattle.desk_tables.specs.declared.rows.FileRow.{FileRow}
use Rattle.desk_tables.specs.declared.rows.ApprovalRow.{ApprovalRow}
use Rattle.desk_tables.specs.declared.rows.CertificateRow.{CertificateRow}
use Rattle.desk_tables.specs.declared.rows.KeptRow.{KeptRow}
use Rattle.desk_tables.proofs.TableLemmas.{and_true, lt_trans, texts_total, numbered_total}
use Rattle.desk_tables.proofs.PutLemmas.{all_then}
use Rattle.stored_rows.specs.Stored.{first_out, follows, out, is_up_to, good_file, bad_file, good_approval, bad_approval, good_certificate, bad_certificate, has_target, good_kept, bad_kept, in_table, bad_in_policies, bad_in_reviews, bad_in_files, bad_in_approvals, bad_in_certificates, bad_in_kept, first_bad_row}
use Rattle.stored_rows.proofs.RestoreLemmas.{or_false, not_false, good_reviews, good_policies}

-- the first is good, and none behind it is bad
good_parts : {X : Type 0} (test : Option X → X → Bool) (n : ℕ) (last : Option X) (x : X) (xs : List X) → first_out test n last (x ∷ xs) ≡ None → (test last x ≡ false) × (first_out test (n + 1) (Some x) xs ≡ None)
good_parts {X = X} test n last x xs none = by_case (test last x) refl none
  where
    by_case : (b : Bool) → test last x ≡ b → (if b then Some n else first_out test (n + 1) (Some x) xs) ≡ None → (test last x ≡ false) × (first_out test (n + 1) (Some x) xs ≡ None)
    by_case true is none = absurd (cc)
    by_case false is none = (is, none)

-- a row that is not out follows the one before it, and is good
good_row : {X K : Type 0} (cmp : K → K → Ordering) (key : X → K) (good : X → Bool) (last : Option X) (x : X) → out cmp key good last x ≡ false → (follows cmp key last x ≡ true) × (good x ≡ true)
good_row cmp key good last x is =
    let parts = or_false (not (follows cmp key last x)) (not (good x)) is in
    (not_false _ parts.0, not_false _ parts.1)

-- all rows behind a row have greater keys
all_after : {X K : Type 0} (cmp : K → K → Ordering) (key : X → K) (good : X → Bool) → IsTotalOrder cmp → (n : ℕ) (last : X) (xs : List X) → first_out (out cmp key good) n (Some last) xs ≡ None → list_all (after cmp key (key last)) xs ≡ true
all_after cmp key good o n last [] none = refl
all_after cmp key good o n last (x ∷ xs) none =
    let parts = good_parts (out cmp key good) n (Some last) x xs none in
    let here = (good_row cmp key good (Some last) x parts.0).0 in
    let rest = all_then (after cmp key (key x)) (after cmp key (key last)) (λ y more. lt_trans o (key last) (key x) (key y) here more) xs (all_after cmp key good o (n + 1) x xs parts.1) in
    rw (here, rest) refl

good_order : {X K : Type 0} (cmp : K → K → Ordering) (key : X → K) (good : X → Bool) → IsTotalOrder cmp → (n : ℕ) (last : Option X) (xs : List X) → first_out (out cmp key good) n last xs ≡ None → Ascends cmp key xs
good_order cmp key good o n last [] none = tt
good_order cmp key good o n last (x ∷ xs) none =
    let parts = good_parts (out cmp key good) n last x xs none in
    (all_after cmp key good o (n + 1) x xs parts.1, good_order cmp key good o (n + 1) (Some x) xs parts.1)

good_rows : {X K : Type 0} (cmp : K → K → Ordering) (key : X → K) (good : X → Bool) (P : X → Type 0) → ((x : X) → good x ≡ true → P x) → (n : ℕ) (last : Option X) (xs : List X) → first_out (out cmp key good) n last xs ≡ None → All P xs
good_rows cmp key good P means n last [] none = All-nil P
good_rows cmp key good P means n last (x ∷ xs) none =
    let parts = good_parts (out cmp key good) n last x xs none in
    All-cons P x xs (means x (good_row cmp key good last x parts.0).1) (good_rows cmp key good P means (n + 1) (Some x) xs parts.1)

-- what the tests mean
up_to : (n id : ℕ) → is_up_to n id ≡ true → IsUpTo n id
up_to n id is =
    let parts = and_true (nat_le 1 id) (nat_le id n) is in
    (grind (arith, nat_tests, parts.0), grind (arith, nat_tests, parts.1))

file_is : (reviews : ℕ) (f : FileRow) → good_file reviews f ≡ true → IsFile reviews f
file_is reviews f is =
    let parts = and_true (is_up_to reviews f.review) (is_host f.name) is in
    (up_to reviews f.review parts.0, parts.1)

certificate_is : (reviews policies : ℕ) (c : CertificateRow) → good_certificate reviews policies c ≡ true → IsCertificate reviews policies c
certificate_is reviews policies c is =
    let a = and_true (is_up_to reviews c.review && nat_le c.policy policies) (nat_lt (unwrap_or c.missing 0) 64) is in
    let b = and_true (is_up_to reviews c.review) (nat_le c.policy policies) a.0 in
    record { review = up_to reviews c.review b.0; policy = grind (arith, nat_tests, b.1); missing = grind (arith, nat_tests, a.1) }

kept_is : (reviews policies : ℕ) (k : KeptRow) → good_kept reviews policies k ≡ true → IsKept reviews policies k
kept_is reviews policies k is =
    let parts = and_true (is_up_to 6 k.kind) (has_target reviews policies k) is in
    let kind = up_to 6 k.kind parts.0 in
    by_kind (k.kind == 1) refl parts.1 kind
  where
    by_kind : (b : Bool) → (k.kind == 1) ≡ b → is_up_to (if b then policies else reviews) k.target ≡ true → IsUpTo 6 k.kind → IsKept reviews policies k
    by_kind true same target kind =
        let one : k.kind ≡ 1 = grind (arith, nat_tests) in
        record { kind = kind; policy = λ h. up_to policies k.target target; review = λ other. absurd (other one) }
    by_kind false same target kind =
        let apart : k.kind ≢ 1 = grind (arith, nat_tests) in
        record { kind = kind; policy = λ h. absurd (apart h); review = λ other. up_to reviews k.target target }

-- ---- the tables

file_tests : (n : ℕ) (xs : List FileRow) → first_out (bad_file n) 1 None xs ≡ None → Ascends numbered_cmp file_key xs × All (IsFile n) xs
unfolding bad_file
file_tests n xs none = (good_order numbered_cmp file_key (good_file n) numbered_total 1 None xs none, good_rows numbered_cmp file_key (good_file n) (IsFile n) (file_is n) 1 None xs none)

approval_tests : (n : ℕ) (xs : List ApprovalRow) → first_out (bad_approval n) 1 None xs ≡ None → Ascends numbered_cmp approval_key xs × All (λ (a : ApprovalRow). IsUpTo n a.review) xs
unfolding bad_approval
approval_tests n xs none = (good_order numbered_cmp approval_key (good_approval n) numbered_total 1 None xs none, good_rows numbered_cmp approval_key (good_approval n) (λ (a : ApprovalRow). IsUpTo n a.review) (λ a is. up_to n a.review is) 1 None xs none)

certificate_tests : (n p : ℕ) (xs : List CertificateRow) → first_out (bad_certificate n p) 1 None xs ≡ None → Ascends nat_cmp certificate_key xs × All (IsCertificate n p) xs
unfolding bad_certificate
certificate_tests n p xs none = (good_order nat_cmp certificate_key (good_certificate n p) nat_cmp_total 1 None xs none, good_rows nat_cmp certificate_key (good_certificate n p) (IsCertificate n p) (certificate_is n p) 1 None xs none)

kept_tests : (n p : ℕ) (xs : List KeptRow) → first_out (bad_kept n p) 1 None xs ≡ None → Ascends texts_cmp kept_key xs × All (IsKept n p) xs
unfolding bad_kept
kept_tests n p xs none = (good_order texts_cmp kept_key (good_kept n p) texts_total 1 None xs none, good_rows texts_cmp kept_key (good_kept n p) (IsKept n p) (kept_is n p) 1 None xs none)

-- no table has a bad row
none_in : (table : ℕ) (row : Option ℕ) (later : Option (ℕ × ℕ)) → in_table table row later ≡ None → (row ≡ None) × (later ≡ None)
none_in table None later none = (refl, none)
none_in table (Some row) later none = absurd (cc)

pub good_tables : (t : Rows) → first_bad_row t ≡ None → IsValid t
good_tables t none =
    let a = none_in 1 (bad_in_policies t) _ none in
    let b = none_in 2 (bad_in_reviews t) _ a.1 in
    let c = none_in 3 (bad_in_files t) _ b.1 in
    let d = none_in 4 (bad_in_approvals t) _ c.1 in
    let e = none_in 5 (bad_in_certificates t) _ d.1 in
    let f = none_in 6 (bad_in_kept t) _ e.1 in
    let policies = good_policies t.policies a.0 in
    let reviews = good_reviews t.reviews b.0 in
    let files = file_tests (length t.reviews) t.files c.0 in
    let approvals = approval_tests (length t.reviews) t.approvals d.0 in
    let certificates = certificate_tests (length t.reviews) (length t.policies) t.certificates e.0 in
    let kept = kept_tests (length t.reviews) (length t.policies) t.kept f.0 in
    record {
      versions = policies.0;
      policies = policies.1;
      numbers = reviews.numbers;
      few = reviews.few;
      reviews = reviews.reviews;
      heads = reviews.heads;
      files_ascend = files.0;
      files = files.1;
      approvals_ascend = approvals.0;
      approvals = approvals.1;
      certificates_ascend = certificates.0;
      certificates = certificates.1;
      kept_ascend = kept.0;
      kept = kept.1;
    }
