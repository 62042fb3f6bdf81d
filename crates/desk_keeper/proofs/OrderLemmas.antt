-- Tables that are in key order stay so.
use Rattle.std.specs.Prelude.{Result, Ok, Err, OnOk, OnErr}
use Rattle.std.proofs.Common.{◌≡◌, ℕ, ◌+◌, ◌<◌, Bool, true, false, List, [], ◌∷◌, ◌==◌, map, if◌then◌else◌, refl, sym, ap, ◌∙◌, subst, arith}
use Rattle.std.specs.List.{list_all}
use Rattle.std.specs.Ordering.{nat_cmp, is_lt}
use Rattle.std.proofs.lemmas.Cmp.{nat_cmp_total}
use Rattle.desk_tables.specs.Order.{after, Ascends, Counts, put, numbered_cmp, texts_cmp}
use Rattle.desk_tables.specs.Valid.{IsValid}
use Rattle.desk_tables.specs.Tables.{policy_key, review_key, file_key, approval_key, certificate_key, kept_key, at_review, merged, withdrawn}
use Rattle.desk_tables.specs.declared.rows.Rows.{Rows}
use Rattle.desk_tables.specs.declared.rows.ReviewRow.{ReviewRow}
use Rattle.desk_tables.specs.declared.rows.FileRow.{FileRow}
use Rattle.desk_tables.proofs.TableLemmas.{and_true, numbered_total, texts_total}
use Rattle.desk_tables.proofs.PlaceLemmas.{is_below}
use Rattle.desk_tables.proofs.PutLemmas.{ascends_put}
use Rattle.review_rules.specs.Changes.{put_all, with_kind, made}
use Rattle.review_rules.specs.declared.changes.Change.{Change}
use Rattle.review_rules.specs.declared.changes.ChangeKind.{ChangeKind}
use Rattle.review_rules.specs.declared.changes.ChangeKind.TheVariants.{Policy, Review, Certificate, Approval, Merge, Withdraw}
use Rattle.net_types.specs.declared.no_memory.NoMemory.{NoMemory}
use Rattle.desk_keeper.specs.Memory.{AreInOrder}

pub ascends_put_all : (files rows : List FileRow) → Ascends numbered_cmp file_key rows → Ascends numbered_cmp file_key (put_all files rows)
ascends_put_all [] rows sorted = sorted
ascends_put_all (f ∷ fs) rows sorted = ascends_put_all fs (put numbered_cmp file_key f rows) (ascends_put numbered_cmp file_key f numbered_total rows sorted)

-- a change of a review that keeps the numbers keeps the order
same_number : (id : ℕ) (change : ReviewRow → ReviewRow) → ((r : ReviewRow) → (change r).id ≡ r.id) → (r : ReviewRow) → (at_review id change r).id ≡ r.id
same_number id change keeps r = by_case (r.id == id)
  where
    by_case : (b : Bool) → (if b then change r else r).id ≡ r.id
    by_case true = keeps r
    by_case false = refl

all_changed : (id n : ℕ) (change : ReviewRow → ReviewRow) → ((r : ReviewRow) → (change r).id ≡ r.id) → (xs : List ReviewRow) → list_all (after nat_cmp review_key n) xs ≡ true → list_all (after nat_cmp review_key n) (map (at_review id change) xs) ≡ true
all_changed id n change keeps [] all = refl
all_changed id n change keeps (x ∷ xs) all =
    let parts = and_true (after nat_cmp review_key n x) (list_all (after nat_cmp review_key n) xs) all in
    let here : after nat_cmp review_key n (at_review id change x) ≡ true = ap (λ m. is_lt (nat_cmp n m)) (same_number id change keeps x) ∙ parts.0 in
    rw (here, all_changed id n change keeps xs parts.1) refl

ascends_changed : (id : ℕ) (change : ReviewRow → ReviewRow) → ((r : ReviewRow) → (change r).id ≡ r.id) → (xs : List ReviewRow) → Ascends nat_cmp review_key xs → Ascends nat_cmp review_key (map (at_review id change) xs)
ascends_changed id change keeps [] sorted = tt
ascends_changed id change keeps (x ∷ xs) sorted =
    (ap (λ m. list_all (after nat_cmp review_key m) (map (at_review id change) xs)) (same_number id change keeps x) ∙ all_changed id x.id change keeps xs sorted.0, ascends_changed id change keeps xs sorted.1)

kind_in_order : (t : Rows) (kind : ChangeKind) → AreInOrder t → AreInOrder (with_kind kind t)
kind_in_order t (Policy row) o = record { policies = ascends_put nat_cmp policy_key row nat_cmp_total t.policies o.policies; reviews = o.reviews; files = o.files; approvals = o.approvals; certificates = o.certificates; kept = o.kept }
kind_in_order t (Review row files) o = record { policies = o.policies; reviews = ascends_put nat_cmp review_key row nat_cmp_total t.reviews o.reviews; files = ascends_put_all files t.files o.files; approvals = o.approvals; certificates = o.certificates; kept = o.kept }
kind_in_order t (Certificate row) o = record { policies = o.policies; reviews = o.reviews; files = o.files; approvals = o.approvals; certificates = ascends_put nat_cmp certificate_key row nat_cmp_total t.certificates o.certificates; kept = o.kept }
kind_in_order t (Approval row) o = record { policies = o.policies; reviews = o.reviews; files = o.files; approvals = ascends_put numbered_cmp approval_key row numbered_total t.approvals o.approvals; certificates = o.certificates; kept = o.kept }
kind_in_order t (Merge review head) o = record { policies = o.policies; reviews = ascends_changed review (merged head) (λ r. refl) t.reviews o.reviews; files = o.files; approvals = o.approvals; certificates = o.certificates; kept = o.kept }
kind_in_order t (Withdraw review) o = record { policies = o.policies; reviews = ascends_changed review withdrawn (λ r. refl) t.reviews o.reviews; files = o.files; approvals = o.approvals; certificates = o.certificates; kept = o.kept }

pub made_in_order : (t : Rows) (change : Change) → AreInOrder t → AreInOrder (made change t)
made_in_order t change o =
    let k = kind_in_order t change.kind o in
    record { policies = k.policies; reviews = k.reviews; files = k.files; approvals = k.approvals; certificates = k.certificates; kept = ascends_put texts_cmp kept_key change.kept texts_total (with_kind change.kind t).kept k.kept }

pub made_or_same : (t u : Rows) (change : Change) (r : Result (Unit {0}) NoMemory) → AreInOrder t → OnOk r (u ≡ made change t) → OnErr r (u ≡ t) → AreInOrder u
made_or_same t u change (Ok done) o is same = subst AreInOrder (sym is) (made_in_order t change o)
made_or_same t u change (Err e) o is same = subst AreInOrder (sym same) o

-- rows that are numbered one by one are in the order of their numbers
numbers_behind : {X : Type 0} (number : X → ℕ) (k n : ℕ) (xs : List X) → k < n → Counts number n xs → list_all (after nat_cmp number k) xs ≡ true
numbers_behind number k n [] low counts = refl
numbers_behind number k n (x ∷ xs) low counts =
    let less : is_lt (nat_cmp k (number x)) ≡ true = is_below k (number x) (omega (arith, counts.0)) in
    rw (less, numbers_behind number k (n + 1) xs (omega arith) counts.1) refl

counts_ascend : {X : Type 0} (number : X → ℕ) (n : ℕ) (xs : List X) → Counts number n xs → Ascends nat_cmp number xs
counts_ascend number n [] counts = tt
counts_ascend number n (x ∷ xs) counts = (numbers_behind number (number x) (n + 1) xs (omega (arith, counts.0)) counts.1, counts_ascend number (n + 1) xs counts.1)

pub valid_in_order : (t : Rows) → IsValid t → AreInOrder t
valid_in_order t is = record { policies = counts_ascend policy_key 1 t.policies is.versions; reviews = counts_ascend review_key 1 t.reviews is.numbers; files = is.files_ascend; approvals = is.approvals_ascend; certificates = is.certificates_ascend; kept = is.kept_ascend }
