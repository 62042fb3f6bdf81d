-- What the rules and the definition of a step come to.
use Rattle.std.proofs.Common.{◌≡◌, ℕ, suc, ◌+◌, ◌*◌, ◌-◌, false, ◌&&◌, List, [], ◌∷◌, ◌++◌, length, map, filter, sum_by, ◌==◌, Option, Some, None, refl, ap, ◌∙◌, arith, length-append}
use Rattle.std.specs.Str.{bytes_eq}
use Rattle.std.specs.Option.{option_to_list}
use Rattle.std.specs.Ordering.{nat_cmp}
use Rattle.std.proofs.lemmas.Cmp.{nat_cmp_total}
use Rattle.std.proofs.lemmas.List.Sums.{sum_by-append, sum_by-cons}
use Rattle.net_types.specs.declared.config.SourceFile.{SourceFile}
use Rattle.desk_tables.specs.Order.{put, texts_cmp, numbered_cmp}
use Rattle.desk_tables.specs.Tables.{certificate_key, certificate_of, kept_of, kept_key, approval_key, bytes_of, has_approved, head_of, file_row, at_review, merged, withdrawn}
use Rattle.desk_tables.specs.Valid.{IsValid}
use Rattle.desk_tables.specs.declared.rows.User.{User}
use Rattle.desk_tables.specs.declared.rows.Rows.{Rows}
use Rattle.desk_tables.specs.declared.rows.PolicyRow.{PolicyRow}
use Rattle.desk_tables.specs.declared.rows.FileRow.{FileRow}
use Rattle.desk_tables.specs.declared.rows.CertificateRow.{CertificateRow}
use Rattle.desk_tables.specs.declared.rows.KeptRow.{KeptRow}
use Rattle.desk_tables.proofs.TableLemmas.{texts_total, numbered_total, texts_tie, numbered_tie, numbers_tie}
use Rattle.desk_tables.proofs.PutLemmas.{length-put, one_tied, sum_parts, sum_put, sum_ones}
use Rattle.desk_tables.proofs.PlaceLemmas.{none_found}
use Rattle.review_rules.specs.State.{State}
use Rattle.review_rules.specs.Rules.{asker, policy_row, review_row, accepted, changed, decision, decided, first_broken, own_rules, or_else, early, ask_of, question, asked, cost_of, freed_of, freed_by, certificate_row, size_of, kept_row, IsFirstApproval}
use Rattle.review_rules.specs.declared.requests.Request.{Request}
use Rattle.review_rules.specs.declared.requests.Command.{Command}
use Rattle.review_rules.specs.declared.requests.Command.TheVariants.{SetPolicy, Submit, Certify, Approve, Merge, Withdraw}
use Rattle.review_rules.specs.declared.requests.JudgeAnswer.{JudgeAnswer}
use Rattle.review_rules.specs.declared.requests.Rule.{Rule}
use Rattle.review_rules.specs.declared.changes.ChangeKind.{ChangeKind}
use Rattle.review_rules.specs.declared.changes.ChangeKind.TheVariants.{Policy, Review, Certificate, Approval, Merge as MergeKind, Withdraw as WithdrawKind}
use Rattle.review_rules.specs.Changes.{kind_cost, kind_freed}
use Rattle.desk_tables.specs.declared.rows.ApprovalRow.{ApprovalRow}

-- the rules tried before the judge is asked come before the others
pub broken_parts : (xs ys : List (State → Request → Option Rule)) (s : State) (r : Request) → first_broken (xs ++ ys) s r ≡ or_else (first_broken xs s r) (first_broken ys s r)
broken_parts [] ys s r = refl
broken_parts (x ∷ xs) ys s r = ap (or_else (x s r)) (broken_parts xs ys s r) ∙ by_case (x s r)
  where
    by_case : (o : Option Rule) → or_else o (or_else (first_broken xs s r) (first_broken ys s r)) ≡ or_else (or_else o (first_broken xs s r)) (first_broken ys s r)
    by_case None = refl
    by_case (Some rule) = refl

-- where the key is new, the command's own rules decide
pub fresh_decision : (s : State) (r : Request) (a : JudgeAnswer) (u : User) → asker s r ≡ Some u → kept_of s.tables u.name r.key ≡ None → decision s r a ≡ decided s.tables None (first_broken (own_rules a r.command) s r)
fresh_decision s r a u asks fresh = rw (asks, fresh) refl

pub fresh_ask : (s : State) (r : Request) (u : User) → asker s r ≡ Some u → kept_of s.tables u.name r.key ≡ None → ask_of s r ≡ asked None (first_broken (early r.command) s r) (question r.command)
fresh_ask s r u asks fresh = rw (asks, fresh) refl

-- the bytes of a bundle are those of its files
files_size : (id : ℕ) (files : List SourceFile) → sum_by (λ f. length f.name + length f.body) (map (file_row id) files) ≡ sum_by size_of files
files_size id [] = refl
files_size id (f ∷ fs) =
    let here = sum_by-cons (λ (g : FileRow). length g.name + length g.body) (file_row id f) (map (file_row id) fs) in
    let there = sum_by-cons size_of f fs in
    let rest = files_size id fs in
    omega (arith, here, there, rest)

-- a merge keeps the number of the reviews
pub length-map : {A B : Type 0} (f : A → B) (xs : List A) → length (map f xs) ≡ length xs
length-map f [] = refl
length-map f (x ∷ xs) = ap suc (length-map f xs)

-- the bytes of the certificate of a review
freed_parts : (cs : List CertificateRow) (o : Option CertificateRow) → cs ≡ option_to_list o → sum_by (λ (c : CertificateRow). length c.report) cs + 256 * sum_by (λ (c : CertificateRow). 1) cs ≡ freed_by o
freed_parts cs None is = rw is refl
freed_parts cs (Some c) is = rw is (omega arith)

-- the change of a kind, where its rows come behind all others
abbrev pub plain : ChangeKind → Rows → Rows
plain (Policy row) t = record t { policies = t.policies ++ row ∷ [] }
plain (Review row files) t = record t { reviews = t.reviews ++ row ∷ []; files = t.files ++ files }
plain (Certificate row) t = record t { certificates = put nat_cmp certificate_key row t.certificates }
plain (Approval row) t = record t { approvals = put numbered_cmp approval_key row t.approvals }
plain (MergeKind review head) t = record t { reviews = map (at_review review (merged head)) t.reviews }
plain (WithdrawKind review) t = record t { reviews = map (at_review review withdrawn) t.reviews }

abbrev pub IsFreshKind : ChangeKind → Rows → Type 0
IsFreshKind (Approval row) t = has_approved t row.review row.user ≡ false
IsFreshKind _ t = Unit {0}

-- it costs so much, and 256 less
pub bytes_plain : (t : Rows) (kind : ChangeKind) → IsValid t → IsFreshKind kind t → bytes_of (plain kind t) + 256 ≡ bytes_of t - kind_freed t kind + kind_cost kind
bytes_plain t (Policy row) v first =
    let all = sum_by-append (λ (p : PolicyRow). length p.book) t.policies (row ∷ []) in
    let one = sum_by-cons (λ (p : PolicyRow). length p.book) row [] in
    let more = length-append t.policies (row ∷ []) in
    omega (arith, all, one, more)
bytes_plain t (Review row files) v first =
    let all = sum_by-append (λ (f : FileRow). length f.name + length f.body) t.files files in
    let more = length-append t.reviews (row ∷ []) in
    omega (arith, all, more)
bytes_plain t (Certificate row) v first =
    let id = row.review in
    let same = λ (c : CertificateRow). c.review == id in
    let size : CertificateRow → ℕ = λ c. length c.report in
    let one : CertificateRow → ℕ = λ c. 1 in
    let reports = sum_parts nat_cmp certificate_key id same size nat_cmp_total (λ c. numbers_tie c.review id) t.certificates in
    let rows = sum_parts nat_cmp certificate_key id same one nat_cmp_total (λ c. numbers_tie c.review id) t.certificates in
    let new_reports = sum_put nat_cmp certificate_key row size t.certificates in
    let new_rows = sum_put nat_cmp certificate_key row one t.certificates in
    let freed = freed_parts (filter same t.certificates) (certificate_of t id) (one_tied nat_cmp certificate_key id same nat_cmp_total (λ c. numbers_tie c.review id) t.certificates v.certificates_ascend) in
    let count = sum_ones t.certificates in
    let new_count = sum_ones (put nat_cmp certificate_key row t.certificates) in
    omega (arith, reports, rows, new_reports, new_rows, freed, count, new_count)
bytes_plain t (Approval row) v first =
    let same = λ (a : ApprovalRow). a.review == row.review && bytes_eq a.user row.user in
    let none = none_found same t.approvals first in
    let more = length-put numbered_cmp approval_key row same numbered_total (λ a. numbered_tie (approval_key a) (approval_key row)) t.approvals none in
    omega (arith, more)
bytes_plain t (MergeKind review head) v first =
    let same = length-map (at_review review (merged head)) t.reviews in
    omega (arith, same)
bytes_plain t (WithdrawKind review) v first =
    let same = length-map (at_review review withdrawn) t.reviews in
    omega (arith, same)

-- what a command changes, but for what is kept of it, is so
pub bytes_changed : (t : Rows) (user : List ℕ) (a : JudgeAnswer) (command : Command) → IsValid t → IsFirstApproval t user command → bytes_of (changed t user a command) + 256 ≡ bytes_of t - freed_of t command + cost_of a command
bytes_changed t user a (SetPolicy approvals book) v first = bytes_plain t (Policy (policy_row t approvals book)) v tt
bytes_changed t user a (Submit base title files) v first =
    let id = length t.reviews + 1 in
    let all = bytes_plain t (Review (review_row t user base title) (map (file_row id) files)) v tt in
    let size = files_size id files in
    omega (arith, all, size)
bytes_changed t user a (Certify id) v first = bytes_plain t (Certificate (certificate_row t id a)) v tt
bytes_changed t user a (Approve id) v first = bytes_plain t (Approval (record { review = id; user = user })) v first
bytes_changed t user a (Merge id) v first = bytes_plain t (MergeKind id (head_of t + 1)) v tt
bytes_changed t user a (Withdraw id) v first = bytes_plain t (WithdrawKind id) v tt

-- a kept row of a new key costs 256
pub bytes_kept : (t : Rows) (k : KeptRow) → kept_of t k.user k.key ≡ None → bytes_of (record t { kept = put texts_cmp kept_key k t.kept }) ≡ bytes_of t + 256
bytes_kept t k fresh =
    let more = length-put texts_cmp kept_key k (λ x. bytes_eq x.user k.user && bytes_eq x.key k.key) texts_total (λ x. texts_tie (kept_key x) (kept_key k)) t.kept fresh in
    omega (arith, more)

-- the bytes kept after an accepted command
pub bytes_with_kept : (s : State) (r : Request) (a : JudgeAnswer) (u : User) → asker s r ≡ Some u → kept_of s.tables u.name r.key ≡ None → bytes_of (accepted s r a) ≡ bytes_of (changed s.tables u.name a r.command) + 256
bytes_with_kept s r a u asks fresh =
    let t = changed s.tables u.name a r.command in
    let kept = bytes_kept t (kept_row s.tables u.name r a) (kept_same r.command) in
    rw asks kept
  where
    kept_same : (command : Command) → kept_of (changed s.tables u.name a command) u.name r.key ≡ None
    kept_same (SetPolicy approvals book) = fresh
    kept_same (Submit base title files) = fresh
    kept_same (Certify id) = fresh
    kept_same (Approve id) = fresh
    kept_same (Merge id) = fresh
    kept_same (Withdraw id) = fresh

pub bytes_accepted : (s : State) (r : Request) (a : JudgeAnswer) (u : User) → IsValid s.tables → asker s r ≡ Some u → kept_of s.tables u.name r.key ≡ None → IsFirstApproval s.tables u.name r.command → bytes_of (accepted s r a) ≡ bytes_of s.tables - freed_of s.tables r.command + cost_of a r.command
bytes_accepted s r a u v asks fresh first = bytes_with_kept s r a u asks fresh ∙ bytes_changed s.tables u.name a r.command v first
