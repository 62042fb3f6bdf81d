-- Accepted commands keep the tables valid.
use Rattle.std.proofs.Common.{◌≡◌, ◌≢◌, ℕ, ◌+◌, ◌<◌, ◌≤◌, Bool, true, false, List, [], ◌∷◌, ◌++◌, length, map, find, count_by, ◌==◌, if◌then◌else◌, Some, None, refl, sym, ap, ◌∙◌, subst, arith, length-append}
use Rattle.std.specs.List.{list_all, All}
use Rattle.std.specs.Ordering.{is_lt, nat_cmp, ordering_then, MatchOrdering}
use Rattle.std.specs.declared.cmp.Ordering.{Ordering}
use Rattle.std.specs.declared.cmp.Ordering.TheVariants.{Less, Equal, Greater}
use Rattle.std.proofs.lemmas.Bool.Decides.{nat_tests}
use Rattle.std.proofs.lemmas.Cmp.{nat_cmp_total, tied_itself, ranked}
use Rattle.std.proofs.lemmas.List.Elements.{All-append, All-cons, All-head, All-tail, All-nil, All-same, All-weaker, All-push}
use Rattle.std.proofs.lemmas.List.Sums.{sum_by-append, sum_by-cons}
use Rattle.net_types.specs.declared.config.SourceFile.{SourceFile}
use Rattle.desk_tables.specs.declared.rows.Rows.{Rows}
use Rattle.desk_tables.specs.declared.rows.PolicyRow.{PolicyRow}
use Rattle.desk_tables.specs.declared.rows.ReviewRow.{ReviewRow}
use Rattle.desk_tables.specs.declared.rows.FileRow.{FileRow}
use Rattle.desk_tables.specs.declared.rows.ApprovalRow.{ApprovalRow}
use Rattle.desk_tables.specs.declared.rows.CertificateRow.{CertificateRow}
use Rattle.desk_tables.specs.declared.rows.KeptRow.{KeptRow}
use Rattle.review_rules.specs.State.{State}
use Rattle.review_rules.specs.declared.requests.Request.{Request}
use Rattle.review_rules.specs.declared.requests.Command.{Command}
use Rattle.review_rules.specs.declared.requests.Command.TheVariants.{SetPolicy, Submit, Certify, Approve, Merge, Withdraw}
use Rattle.review_rules.specs.declared.requests.JudgeAnswer.{JudgeAnswer}
use Rattle.desk_tables.specs.Order.{after, Ascends, Counts, put, text_cmp, texts_cmp, numbered_cmp}
use Rattle.desk_tables.specs.Tables.{has_head, is_merged, kept_key, approval_key, file_key, certificate_key, review_of, head_of, file_row, at_review, merged, withdrawn}
use Rattle.desk_tables.specs.Valid.{IsValid, IsReview, IsPolicy, IsUpTo, IsFile, IsCertificate, IsKept}
use Rattle.desk_tables.proofs.TableLemmas.{and_true, numbered_total, texts_total}
use Rattle.desk_tables.proofs.PutLemmas.{ascends_put, ascends_append, All-put, counts_push, found_up_to}
use Rattle.desk_tables.proofs.PlaceLemmas.{changed_rest}
use Rattle.review_rules.specs.Rules.{policy_row, review_row, certificate_row, Outcome, Repeated, Refused, Accepted, step, accepted, asker, name_of, first_broken, own_rules, changed, kept_row, kind_of, target_of, reply_of}
use Rattle.review_rules.specs.Judging.{IsCommand, IsRequest, NamesAscend, HasHostName, NamesProperty}
use Rattle.review_rules.specs.Laws.{IsAccepted, tables_after}
use Rattle.review_rules.proofs.AcceptLemmas.{accepted_passes, passed_accepts, all_none, review_there, review_open, review_current, base_current, few_reviews, good_approvals}
use Rattle.review_rules.proofs.RuleLemmas.{length-map}

-- what the rules leave of each command
abbrev pub CanChange : Rows → JudgeAnswer → Command → Type 0
CanChange t a (SetPolicy approvals book) = IsUpTo 16 approvals
CanChange t a (Submit base title files) = (base ≡ head_of t) × (length t.reviews < 10000) × NamesAscend files × All HasHostName files
CanChange t a (Certify id) = IsUpTo (length t.reviews) id × NamesProperty a
CanChange t a (Approve id) = IsUpTo (length t.reviews) id
CanChange t a (Merge id) = (review : ReviewRow) × (review_of t id ≡ Some review) × (review.state ≡ 0) × (review.base ≡ head_of t)
CanChange t a (Withdraw id) = (review : ReviewRow) × (review_of t id ≡ Some review) × (review.state ≡ 0)

-- where a review stands, and what a change of it makes of the table
pub record StandsAt (id : ℕ) (change : ReviewRow → ReviewRow) (review : ReviewRow) (xs : List ReviewRow) : Type 0 where
  pub front : List ReviewRow
  pub back : List ReviewRow
  pub is : xs ≡ front ++ review ∷ back
  pub altered : map (at_review id change) xs ≡ front ++ change review ∷ back
  pub number : review.id ≡ id

pub stands_at : (id n : ℕ) (change : ReviewRow → ReviewRow) (review : ReviewRow) (xs : List ReviewRow) → Counts (λ r. r.id) n xs → find (λ r. r.id == id) xs ≡ Some review → StandsAt id change review xs
stands_at id n change review [] counts found = absurd (cc)
stands_at id n change review (x ∷ xs) counts found = by_case (x.id == id) refl found (λ there. stands_at id (n + 1) change review xs counts.1 there)
  where
    by_case : (b : Bool) → (x.id == id) ≡ b → (if b then Some x else find (λ r. r.id == id) xs) ≡ Some review → (find (λ r. r.id == id) xs ≡ Some review → StandsAt id change review xs) → StandsAt id change review (x ∷ xs)
    by_case true here found rest =
        let same : x ≡ review = cc in
        let low : id < n + 1 = grind (arith, nat_tests, counts.0) in
        let number : x.id ≡ id = grind (arith, nat_tests) in
        record { front = []; back = xs; is = ap (λ y. y ∷ xs) same; altered = rw here (rw (changed_rest id (n + 1) change xs counts.1 low) (ap (λ (y : ReviewRow). change y ∷ xs) same)); number = subst (λ (y : ReviewRow). y.id ≡ id) same number }
    by_case false here found rest =
        let there = rest found in
        record { front = x ∷ there.front; back = there.back; is = ap (λ ys. x ∷ ys) there.is; altered = rw here (ap (λ ys. x ∷ ys) there.altered); number = there.number }

-- a change keeps the numbers
changed_counts : (id n : ℕ) (change : ReviewRow → ReviewRow) (xs : List ReviewRow) → ((r : ReviewRow) → (change r).id ≡ r.id) → Counts (λ r. r.id) n xs → Counts (λ r. r.id) n (map (at_review id change) xs)
changed_counts id n change [] keeps counts = tt
changed_counts id n change (x ∷ xs) keeps counts = (by_case (x.id == id), changed_counts id (n + 1) change xs keeps counts.1)
  where
    by_case : (b : Bool) → (if b then change x else x).id ≡ n
    by_case true = keeps x ∙ counts.0
    by_case false = counts.0

-- one head more
wider : (heads : ℕ) (r : ReviewRow) → IsReview heads r → IsReview (heads + 1) r
wider heads r v = record { state = v.state; open_head = v.open_head; open_base = λ h. omega (arith, v.open_base h); merged_base = v.merged_base; merged_head = λ h. omega (arith, v.merged_head h) }

merged_one : (heads : ℕ) (r : ReviewRow) → r.base ≡ heads → IsReview (heads + 1) (merged (heads + 1) r)
merged_one heads r base = record { state = omega arith; open_head = λ h. absurd (h refl); open_base = λ h. absurd (h refl); merged_base = λ h. omega arith; merged_head = λ h. omega arith }

withdrawn_one : (heads : ℕ) (r : ReviewRow) → r.state ≡ 0 → IsReview heads r → IsReview heads (withdrawn r)
withdrawn_one heads r is v =
    let apart : r.state ≢ 1 = λ h. absurd (omega (arith, is, h)) in
    record { state = omega arith; open_head = λ h. v.open_head apart; open_base = λ h. v.open_base apart; merged_base = λ h. absurd (omega (arith, h)); merged_head = λ h. absurd (omega (arith, h)) }

-- what holds of each review, and of the one that is changed
changed_valid : (id n : ℕ) (change : ReviewRow → ReviewRow) (P Q : ReviewRow → Type 0) (review : ReviewRow) (xs : List ReviewRow) → ((r : ReviewRow) → P r → Q r) → Q (change review) → Counts (λ r. r.id) n xs → find (λ r. r.id == id) xs ≡ Some review → All P xs → All Q (map (at_review id change) xs)
changed_valid id n change P Q review [] weaker one counts found valid = absurd (cc)
changed_valid id n change P Q review (x ∷ xs) weaker one counts found valid = by_case (x.id == id) refl found (λ there. changed_valid id (n + 1) change P Q review xs weaker one counts.1 there (All-tail P x xs valid))
  where
    by_case : (b : Bool) → (x.id == id) ≡ b → (if b then Some x else find (λ r. r.id == id) xs) ≡ Some review → (find (λ r. r.id == id) xs ≡ Some review → All Q (map (at_review id change) xs)) → All Q (map (at_review id change) (x ∷ xs))
    by_case true here found rest =
        let same : x ≡ review = cc in
        let low : id < n + 1 = grind (arith, nat_tests, counts.0) in
        let first : Q (change x) = subst (λ (y : ReviewRow). Q (change y)) (sym same) one in
        let others : All Q xs = All-weaker P Q weaker xs (All-tail P x xs valid) in
        let is : map (at_review id change) (x ∷ xs) ≡ change x ∷ xs = rw here (ap (λ ys. change x ∷ ys) (changed_rest id (n + 1) change xs counts.1 low)) in
        All-same Q _ _ is (All-cons Q (change x) xs first others)
    by_case false here found rest =
        let is : map (at_review id change) (x ∷ xs) ≡ x ∷ map (at_review id change) xs = rw here refl in
        All-same Q _ _ is (All-cons Q x (map (at_review id change) xs) (weaker x (All-head P x xs valid)) (rest found))

-- how many there are of a kind, where one of them changes
count_parts : {X : Type 0} (p : X → Bool) (front back : List X) (x : X) → count_by p (front ++ x ∷ back) ≡ count_by p front + ((if p x then 1 else 0) + count_by p back)
count_parts p front back x = sum_by-append (λ y. if p y then 1 else 0) front (x ∷ back) ∙ ap (λ n. count_by p front + n) (sum_by-cons (λ y. if p y then 1 else 0) x back)

pub count_pushed : {X : Type 0} (p : X → Bool) (xs : List X) (x : X) → p x ≡ false → count_by p (xs ++ x ∷ []) ≡ count_by p xs
count_pushed p xs x differs =
    let all = count_parts p xs [] x in
    let less = rw differs at all in
    omega (arith, less)

-- no review has a head that is not given
pub none_has : (heads head : ℕ) (xs : List ReviewRow) → All (IsReview heads) xs → heads < head → count_by (has_head head) xs ≡ 0
none_has heads head [] valid high = refl
none_has heads head (x ∷ xs) valid high =
    let here = All-head (IsReview heads) x xs valid in
    let rest = none_has heads head xs (All-tail (IsReview heads) x xs valid) high in
    let first = sum_by-cons (λ y. if has_head head y then 1 else 0) x xs in
    let no : has_head head x ≡ false = grind (arith, nat_tests, here.merged_head) in
    first ∙ rw no (omega arith)

-- the head after a merge is one more
pub head_merged : (t : Rows) (id : ℕ) (review : ReviewRow) → IsValid t → review_of t id ≡ Some review → review.state ≡ 0 → count_by is_merged (map (at_review id (merged (head_of t + 1))) t.reviews) ≡ head_of t + 1
head_merged t id review v there unmerged =
    let at = stands_at id 1 (merged (head_of t + 1)) review t.reviews v.numbers there in
    let old = ap (count_by is_merged) at.is ∙ count_parts is_merged at.front at.back review in
    let new = ap (count_by is_merged) at.altered ∙ count_parts is_merged at.front at.back (merged (head_of t + 1) review) in
    let no : (review.state == 1) ≡ false = grind (arith, nat_tests) in
    let before' = rw no at old in
    omega (arith, before', new)

-- a withdrawal changes no count of merged reviews
pub count_withdrawn : (p : ReviewRow → Bool) (t : Rows) (id : ℕ) (review : ReviewRow) → IsValid t → review_of t id ≡ Some review → p review ≡ false → p (withdrawn review) ≡ false → count_by p (map (at_review id withdrawn) t.reviews) ≡ count_by p t.reviews
count_withdrawn p t id review v there was is =
    let at = stands_at id 1 withdrawn review t.reviews v.numbers there in
    let old = ap (count_by p) at.is ∙ count_parts p at.front at.back review in
    let new = ap (count_by p) at.altered ∙ count_parts p at.front at.back (withdrawn review) in
    let old' = rw was at old in
    let new' = rw is at new in
    omega (arith, old', new')

-- each head has one review, the new one too
heads_case : (b : Bool) (a d before' after' : ℕ) → before' ≡ a + (0 + d) → after' ≡ a + ((if b then 1 else 0) + d) → (b ≡ true → before' ≡ 0) → (b ≡ false → before' ≡ 1) → after' ≡ 1
heads_case true a d before' after' old new top low = omega (arith, top refl)
heads_case false a d before' after' old new top low = omega (arith, low refl)

heads_merged : (t : Rows) (id : ℕ) (review : ReviewRow) → IsValid t → review_of t id ≡ Some review → review.state ≡ 0 → (head : ℕ) → IsUpTo (head_of t + 1) head → count_by (has_head head) (map (at_review id (merged (head_of t + 1))) t.reviews) ≡ 1
heads_merged t id review v there unmerged head within =
    let top = head_of t + 1 in
    let at = stands_at id 1 (merged top) review t.reviews v.numbers there in
    let old = ap (count_by (has_head head)) at.is ∙ count_parts (has_head head) at.front at.back review in
    let new = ap (count_by (has_head head)) at.altered ∙ count_parts (has_head head) at.front at.back (merged top review) in
    let no : (review.state == 1) ≡ false = grind (arith, nat_tests) in
    let before' = rw no at old in
    heads_case (top == head) (count_by (has_head head) at.front) (count_by (has_head head) at.back) _ _ before' new
    (λ same. none_has (head_of t) head t.reviews v.reviews (grind (arith, nat_tests)))
    (λ other. v.heads head (within.0, grind (arith, nat_tests)))

-- the files of a new review are in order
all_numbered : (id : ℕ) (f : SourceFile) (fs : List SourceFile) → list_all (after text_cmp (λ (g : SourceFile). g.name) f.name) fs ≡ true → list_all (after numbered_cmp file_key (id, f.name)) (map (file_row id) fs) ≡ true
all_numbered id f [] all = refl
all_numbered id f (g ∷ gs) all =
    let parts = and_true _ _ all in
    let tie : nat_cmp id id ≡ Equal = tied_itself nat_cmp_total id in
    let here : is_lt (numbered_cmp (id, f.name) (id, g.name)) ≡ true = rw tie parts.0 in
    rw (here, all_numbered id f gs parts.1) refl

files_ascend : (id : ℕ) (fs : List SourceFile) → Ascends text_cmp (λ (f : SourceFile). f.name) fs → Ascends numbered_cmp file_key (map (file_row id) fs)
files_ascend id [] sorted = tt
files_ascend id (f ∷ fs) sorted = (all_numbered id f fs sorted.0, files_ascend id fs sorted.1)

-- files of lower reviews come before those of a higher one
number_first : (m n : ℕ) (a b : List ℕ) → m < n → is_lt (numbered_cmp (m, a) (n, b)) ≡ true
number_first m n a b low = by_case (nat_cmp m n) (text_cmp a b) (ranked m n (nat_cmp m n) refl)
  where
    by_case : (r t : Ordering) → MatchOrdering r (m < n) (m ≡ n) (n < m) → is_lt (ordering_then r t) ≡ true
    by_case Less t is = refl
    by_case Equal t is = absurd (omega arith)
    by_case Greater t is = absurd (omega arith)

all_higher : (f : FileRow) (id : ℕ) (fs : List SourceFile) → f.review < id → list_all (after numbered_cmp file_key (file_key f)) (map (file_row id) fs) ≡ true
all_higher f id [] low = refl
all_higher f id (g ∷ gs) low = rw (number_first f.review id f.name g.name low, all_higher f id gs low) refl

files_before : (n id : ℕ) (xs : List FileRow) (fs : List SourceFile) → n < id → All (IsFile n) xs → list_all (λ f. list_all (after numbered_cmp file_key (file_key f)) (map (file_row id) fs)) xs ≡ true
files_before n id [] fs low all = refl
files_before n id (x ∷ xs) fs low all =
    let here = (All-head (IsFile n) x xs all).0.1 in
    let rest = files_before n id xs fs low (All-tail (IsFile n) x xs all) in
    rw (all_higher x id fs (omega arith), rest) refl

all_of_review : (n id : ℕ) (fs : List SourceFile) → 1 ≤ id → id ≤ n → All HasHostName fs → All (IsFile n) (map (file_row id) fs)
all_of_review n id [] low high hosts = All-nil (IsFile n)
all_of_review n id (f ∷ fs) low high hosts = All-cons (IsFile n) (file_row id f) (map (file_row id) fs) ((low, high), All-head HasHostName f fs hosts) (all_of_review n id fs low high (All-tail HasHostName f fs hosts))

-- one review more
wider_certificate : (n policies : ℕ) (c : CertificateRow) → IsCertificate n policies c → IsCertificate (n + 1) policies c
wider_certificate n policies c v = record { review = (v.review.0, omega (arith, v.review.1)); policy = v.policy; missing = v.missing }

wider_kept : (n policies : ℕ) (k : KeptRow) → IsKept n policies k → IsKept (n + 1) policies k
wider_kept n policies k v = record { kind = v.kind; policy = v.policy; review = λ other. ((v.review other).0, omega (arith, (v.review other).1)) }

-- one version more
wider_policy : (n policies : ℕ) (c : CertificateRow) → IsCertificate n policies c → IsCertificate n (policies + 1) c
wider_policy n policies c v = record { review = v.review; policy = omega (arith, v.policy); missing = v.missing }

wider_version : (n policies : ℕ) (k : KeptRow) → IsKept n policies k → IsKept n (policies + 1) k
wider_version n policies k v = record { kind = v.kind; policy = λ is. ((v.policy is).0, omega (arith, (v.policy is).1)); review = v.review }

-- a row that is found is one of those there
found_valid : (P : ReviewRow → Type 0) (id : ℕ) (review : ReviewRow) (xs : List ReviewRow) → find (λ r. r.id == id) xs ≡ Some review → All P xs → P review
found_valid P id review [] found all = absurd (cc)
found_valid P id review (x ∷ xs) found all = by_case (x.id == id) found (λ there. found_valid P id review xs there (All-tail P x xs all))
  where
    by_case : (b : Bool) → (if b then Some x else find (λ r. r.id == id) xs) ≡ Some review → (find (λ r. r.id == id) xs ≡ Some review → P review) → P review
    by_case true found rest =
        let same : x ≡ review = cc in
        subst P same (All-head P x xs all)
    by_case false found rest = rest found

-- an accepted command, but for what is kept of it
pub valid_changed : (t : Rows) (user : List ℕ) (a : JudgeAnswer) (command : Command) → IsValid t → CanChange t a command → IsValid (changed t user a command)
valid_changed t user a (SetPolicy approvals book) v can =
    let n = length t.reviews in
    let p = length t.policies in
    let row = policy_row t approvals book in
    let long : length (t.policies ++ row ∷ []) ≡ p + 1 = length-append t.policies (row ∷ []) in
    record {
      versions = counts_push (λ (p : PolicyRow). p.version) 1 t.policies row v.versions (omega arith);
      policies = All-push IsPolicy t.policies row v.policies can;
      numbers = v.numbers;
      few = v.few;
      reviews = v.reviews;
      heads = v.heads;
      files_ascend = v.files_ascend;
      files = v.files;
      approvals_ascend = v.approvals_ascend;
      approvals = v.approvals;
      certificates_ascend = v.certificates_ascend;
      certificates = rw long (All-weaker (IsCertificate n p) (IsCertificate n (p + 1)) (wider_policy n p) t.certificates v.certificates);
      kept_ascend = v.kept_ascend;
      kept = rw long (All-weaker (IsKept n p) (IsKept n (p + 1)) (wider_version n p) t.kept v.kept);
    }
valid_changed t user a (Submit base title files) v can =
    let n = length t.reviews in
    let row = review_row t user base title in
    let long : length (t.reviews ++ row ∷ []) ≡ n + 1 = length-append t.reviews (row ∷ []) in
    let heads : count_by is_merged (t.reviews ++ row ∷ []) ≡ head_of t = count_pushed is_merged t.reviews row refl in
    let new : IsReview (head_of t) row = record { state = omega arith; open_head = λ h. refl; open_base = λ h. omega (arith, can.0); merged_base = λ h. absurd (cc); merged_head = λ h. omega arith } in
    record {
      versions = v.versions;
      policies = v.policies;
      numbers = counts_push (λ (r : ReviewRow). r.id) 1 t.reviews row v.numbers (omega arith);
      few = omega (arith, long, can.1);
      reviews = rw heads (All-push (IsReview (head_of t)) t.reviews row v.reviews new);
      heads = λ head within. count_pushed (has_head head) t.reviews row refl ∙ v.heads head (subst (λ h. IsUpTo h head) heads within);
      files_ascend = ascends_append numbered_cmp file_key t.files (map (file_row (n + 1)) files) v.files_ascend (files_ascend (n + 1) files can.2) (files_before n (n + 1) t.files files (omega arith) v.files);
      files = rw long (All-append (IsFile (n + 1)) t.files (map (file_row (n + 1)) files) (All-weaker (IsFile n) (IsFile (n + 1)) (λ f low. ((low.0.0, omega (arith, low.0.1)), low.1)) t.files v.files) (all_of_review (n + 1) (n + 1) files (omega arith) (omega arith) can.3));
      approvals_ascend = v.approvals_ascend;
      approvals = rw long (All-weaker (λ (a : ApprovalRow). IsUpTo n a.review) (λ (a : ApprovalRow). IsUpTo (n + 1) a.review) (λ a low. (low.0, omega (arith, low.1))) t.approvals v.approvals);
      certificates_ascend = v.certificates_ascend;
      certificates = rw long (All-weaker (IsCertificate n (length t.policies)) (IsCertificate (n + 1) (length t.policies)) (wider_certificate n (length t.policies)) t.certificates v.certificates);
      kept_ascend = v.kept_ascend;
      kept = rw long (All-weaker (IsKept n (length t.policies)) (IsKept (n + 1) (length t.policies)) (wider_kept n (length t.policies)) t.kept v.kept);
    }
valid_changed t user a (Certify id) v can = record {
  versions = v.versions;
  policies = v.policies;
  numbers = v.numbers;
  few = v.few;
  reviews = v.reviews;
  heads = v.heads;
  files_ascend = v.files_ascend;
  files = v.files;
  approvals_ascend = v.approvals_ascend;
  approvals = v.approvals;
  certificates_ascend = ascends_put nat_cmp certificate_key (certificate_row t id a) nat_cmp_total t.certificates v.certificates_ascend;
  certificates = All-put (IsCertificate (length t.reviews) (length t.policies)) nat_cmp certificate_key (certificate_row t id a) t.certificates (record { review = can.0; policy = omega arith; missing = can.1 }) v.certificates;
  kept_ascend = v.kept_ascend;
  kept = v.kept;
}
valid_changed t user a (Approve id) v can = record {
  versions = v.versions;
  policies = v.policies;
  numbers = v.numbers;
  few = v.few;
  reviews = v.reviews;
  heads = v.heads;
  files_ascend = v.files_ascend;
  files = v.files;
  approvals_ascend = ascends_put numbered_cmp approval_key (record { review = id; user = user }) numbered_total t.approvals v.approvals_ascend;
  approvals = All-put (λ (a : ApprovalRow). IsUpTo (length t.reviews) a.review) numbered_cmp approval_key (record { review = id; user = user }) t.approvals can v.approvals;
  certificates_ascend = v.certificates_ascend;
  certificates = v.certificates;
  kept_ascend = v.kept_ascend;
  kept = v.kept;
}
valid_changed t user a (Merge id) v can =
    let review = can.0 in
    let change = merged (head_of t + 1) in
    let long : length (map (at_review id change) t.reviews) ≡ length t.reviews = length-map (at_review id change) t.reviews in
    let heads = head_merged t id review v can.1 can.2 in
    record {
      versions = v.versions;
      policies = v.policies;
      numbers = changed_counts id 1 change t.reviews (λ r. refl) v.numbers;
      few = rw long v.few;
      reviews = rw heads (changed_valid id 1 change (IsReview (head_of t)) (IsReview (head_of t + 1)) review t.reviews (wider (head_of t)) (merged_one (head_of t) review can.3) v.numbers can.1 v.reviews);
      heads = λ head within. heads_merged t id review v can.1 can.2 head (subst (λ h. IsUpTo h head) heads within);
      files_ascend = v.files_ascend;
      files = rw long v.files;
      approvals_ascend = v.approvals_ascend;
      approvals = rw long v.approvals;
      certificates_ascend = v.certificates_ascend;
      certificates = rw long v.certificates;
      kept_ascend = v.kept_ascend;
      kept = rw long v.kept;
    }
valid_changed t user a (Withdraw id) v can =
    let review = can.0 in
    let long : length (map (at_review id withdrawn) t.reviews) ≡ length t.reviews = length-map (at_review id withdrawn) t.reviews in
    let no : (review.state == 1) ≡ false = grind (arith, nat_tests, can.2) in
    let heads = count_withdrawn is_merged t id review v can.1 no refl in
    let valid : All (IsReview (head_of t)) (map (at_review id withdrawn) t.reviews) = changed_valid id 1 withdrawn (IsReview (head_of t)) (IsReview (head_of t)) review t.reviews (λ r h. h) (withdrawn_one (head_of t) review can.2 (found_valid (IsReview (head_of t)) id review t.reviews can.1 v.reviews)) v.numbers can.1 v.reviews in
    record {
      versions = v.versions;
      policies = v.policies;
      numbers = changed_counts id 1 withdrawn t.reviews (λ r. refl) v.numbers;
      few = rw long v.few;
      reviews = rw heads valid;
      heads = λ head within. count_withdrawn (has_head head) t id review v can.1 (rw no refl) refl ∙ v.heads head (subst (λ h. IsUpTo h head) heads within);
      files_ascend = v.files_ascend;
      files = rw long v.files;
      approvals_ascend = v.approvals_ascend;
      approvals = rw long v.approvals;
      certificates_ascend = v.certificates_ascend;
      certificates = rw long v.certificates;
      kept_ascend = v.kept_ascend;
      kept = rw long v.kept;
    }

-- what is kept of a command is valid after it
kept_valid : (t : Rows) (user : List ℕ) (a : JudgeAnswer) (r : Request) (command : Command) → IsValid t → CanChange t a command → IsKept (length (changed t user a command).reviews) (length (changed t user a command).policies) (record { user = user; key = r.key; kind = kind_of command; target = target_of t command; reply = reply_of t a command })
kept_valid t user a r (SetPolicy approvals book) v can =
    let long = length-append t.policies (policy_row t approvals book ∷ []) in
    record { kind = (omega arith, omega arith); policy = λ h. (omega arith, omega (arith, long)); review = λ h. absurd (h refl) }
kept_valid t user a r (Submit base title files) v can =
    let long = length-append t.reviews (review_row t user base title ∷ []) in
    record { kind = (omega arith, omega arith); policy = λ h. absurd (omega (arith, h)); review = λ h. (omega arith, omega (arith, long)) }
kept_valid t user a r (Certify id) v can = record { kind = (omega arith, omega arith); policy = λ h. absurd (omega (arith, h)); review = λ h. can.0 }
kept_valid t user a r (Approve id) v can = record { kind = (omega arith, omega arith); policy = λ h. absurd (omega (arith, h)); review = λ h. can }
kept_valid t user a r (Merge id) v can =
    let within = found_up_to (λ (x : ReviewRow). x.id) t.reviews id can.0 v.numbers can.1 in
    let long = length-map (at_review id (merged (head_of t + 1))) t.reviews in
    record { kind = (omega arith, omega arith); policy = λ h. absurd (omega (arith, h)); review = λ h. (within.0, omega (arith, within.1, long)) }
kept_valid t user a r (Withdraw id) v can =
    let within = found_up_to (λ (x : ReviewRow). x.id) t.reviews id can.0 v.numbers can.1 in
    let long = length-map (at_review id withdrawn) t.reviews in
    record { kind = (omega arith, omega arith); policy = λ h. absurd (omega (arith, h)); review = λ h. (within.0, omega (arith, within.1, long)) }

-- a valid row more is kept
valid_kept : (t : Rows) (k : KeptRow) → IsValid t → IsKept (length t.reviews) (length t.policies) k → IsValid (record t { kept = put texts_cmp kept_key k t.kept })
valid_kept t k v new = record {
  versions = v.versions;
  policies = v.policies;
  numbers = v.numbers;
  few = v.few;
  reviews = v.reviews;
  heads = v.heads;
  files_ascend = v.files_ascend;
  files = v.files;
  approvals_ascend = v.approvals_ascend;
  approvals = v.approvals;
  certificates_ascend = v.certificates_ascend;
  certificates = v.certificates;
  kept_ascend = ascends_put texts_cmp kept_key k texts_total t.kept v.kept_ascend;
  kept = All-put (IsKept (length t.reviews) (length t.policies)) texts_cmp kept_key k t.kept new v.kept;
}

-- the tables of an accepted request
pub valid_accepted : (s : State) (r : Request) (a : JudgeAnswer) → IsValid s.tables → CanChange s.tables a r.command → IsValid (accepted s r a)
valid_accepted s r a v can =
    let user = name_of (asker s r) in
    valid_kept (changed s.tables user a r.command) (kept_row s.tables user r a) (valid_changed s.tables user a r.command v can) (kept_valid s.tables user a r r.command v can)

-- the rules leave what a command needs
pub passed_can : (s : State) (r : Request) (a : JudgeAnswer) (command : Command) → IsValid s.tables → IsCommand command → NamesProperty a → first_broken (own_rules a command) s r ≡ None → CanChange s.tables a command
passed_can s r a (SetPolicy approvals book) v names judge passed =
    let all = all_none (own_rules a (SetPolicy approvals book)) s r passed in
    good_approvals approvals all.1.0
passed_can s r a (Submit base title files) v names judge passed =
    let all = all_none (own_rules a (Submit base title files)) s r passed in
    (base_current base s.tables all.1.0, few_reviews s.tables all.1.1.1.0, names.1, names.2)
passed_can s r a (Certify id) v names judge passed =
    let all = all_none (own_rules a (Certify id)) s r passed in
    let review = review_there id s.tables all.1.0 in
    (found_up_to (λ (x : ReviewRow). x.id) s.tables.reviews id review.0 v.numbers review.1, judge)
passed_can s r a (Approve id) v names judge passed =
    let all = all_none (own_rules a (Approve id)) s r passed in
    let review = review_there id s.tables all.1.0 in
    found_up_to (λ (x : ReviewRow). x.id) s.tables.reviews id review.0 v.numbers review.1
passed_can s r a (Merge id) v names judge passed =
    let all = all_none (own_rules a (Merge id)) s r passed in
    let review = review_there id s.tables all.1.0 in
    (review.0, review.1, review_open id s.tables review.0 review.1 all.1.1.0, review_current id s.tables review.0 review.1 all.1.1.1.0)
passed_can s r a (Withdraw id) v names judge passed =
    let all = all_none (own_rules a (Withdraw id)) s r passed in
    let review = review_there id s.tables all.1.0 in
    (review.0, review.1, review_open id s.tables review.0 review.1 all.1.1.0)

pub accepted_same : {t u : Rows} {a b : List ℕ} → Accepted t a ≡ Accepted u b → t ≡ u
accepted_same h = cc

-- valid tables stay valid
pub tables_stay_valid : (s : State) (r : Request) (a : JudgeAnswer) → IsValid s.tables → IsRequest r → NamesProperty a → IsValid (tables_after s.tables (step s r a))
tables_stay_valid s r a v request judge = by_outcome (step s r a) refl
  where
    by_outcome : (o : Outcome) → step s r a ≡ o → IsValid (tables_after s.tables o)
    by_outcome (Repeated reply) is = v
    by_outcome (Refused rule) is = v
    by_outcome (Accepted t reply) is =
        let passed = accepted_passes s r a (subst IsAccepted (sym is) tt) in
        let same : accepted s r a ≡ t = accepted_same (sym (passed_accepts s r a passed) ∙ is) in
        subst IsValid same (valid_accepted s r a v (passed_can s r a r.command v request.command judge passed.passed))
