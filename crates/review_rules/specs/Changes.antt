-- What an accepted command changes in the tables, as one change.
use Rattle.std.specs.Prelude.{ℕ, ◌+◌, ◌≡◌, ◌≤◌, false, List, [], ◌∷◌, ◌++◌, length, map, sum_by, Some, None}
use Rattle.std.specs.Ordering.{nat_cmp}
use Rattle.desk_tables.specs.Order.{put, Ascends, texts_cmp, numbered_cmp}
use Rattle.desk_tables.specs.Tables.{kept_key, approval_key, certificate_key, file_key, review_key, policy_key, kept_of, review_of, has_approved, head_of, bytes_of, certificate_of, file_row, at_review, merged, withdrawn}
use Rattle.desk_tables.specs.Valid.{IsValid}
use Rattle.desk_tables.specs.declared.rows.Rows.{Rows}
use Rattle.desk_tables.specs.declared.rows.FileRow.{FileRow}
use Rattle.desk_tables.specs.declared.rows.ReviewRow.{ReviewRow}
use Rattle.review_rules.specs.State.{State}
use Rattle.review_rules.specs.Rules.{policy_row, review_row, certificate_row, kept_row, name_of, asker, freed_by}
use Rattle.review_rules.specs.declared.requests.Request.{Request}
use Rattle.review_rules.specs.declared.requests.Command.{Command}
use Rattle.review_rules.specs.declared.requests.Command.TheVariants.{SetPolicy, Submit, Certify, Approve, Merge, Withdraw}
use Rattle.review_rules.specs.declared.requests.JudgeAnswer.{JudgeAnswer}
use Rattle.review_rules.specs.declared.changes.Change.{Change}
use Rattle.review_rules.specs.declared.changes.ChangeKind.{ChangeKind}
use Rattle.review_rules.specs.declared.changes.ChangeKind.TheVariants.{Policy, Review, Certificate, Approval, Merge as MergeKind, Withdraw as WithdrawKind}

-- each file put in its place
abbrev pub put_all : List FileRow → List FileRow → List FileRow
put_all [] rows = rows
put_all (f ∷ fs) rows = put_all fs (put numbered_cmp file_key f rows)

-- each new row is put in its table, in place of one of the same key; a merge sets state and head of its review, a
-- withdrawal its state
abbrev pub with_kind : ChangeKind → Rows → Rows
with_kind (Policy row) t = record t { policies = put nat_cmp policy_key row t.policies }
with_kind (Review row files) t = record t { reviews = put nat_cmp review_key row t.reviews; files = put_all files t.files }
with_kind (Certificate row) t = record t { certificates = put nat_cmp certificate_key row t.certificates }
with_kind (Approval row) t = record t { approvals = put numbered_cmp approval_key row t.approvals }
with_kind (MergeKind review head) t = record t { reviews = map (at_review review (merged head)) t.reviews }
with_kind (WithdrawKind review) t = record t { reviews = map (at_review review withdrawn) t.reviews }

abbrev pub made : Change → Rows → Rows
made change t = record (with_kind change.kind t) { kept = put texts_cmp kept_key change.kept (with_kind change.kind t).kept }

-- the change of an accepted request
abbrev pub kind_for : Rows → List ℕ → JudgeAnswer → Command → ChangeKind
kind_for t user a (SetPolicy approvals book) = Policy (policy_row t approvals book)
kind_for t user a (Submit base title files) = Review (review_row t user base title) (map (file_row (length t.reviews + 1)) files)
kind_for t user a (Certify id) = Certificate (certificate_row t id a)
kind_for t user a (Approve id) = Approval (record { review = id; user = user })
kind_for t user a (Merge id) = MergeKind id (head_of t + 1)
kind_for t user a (Withdraw id) = WithdrawKind id

abbrev pub change_for : State → Request → JudgeAnswer → Change
change_for s r a =
    let user = name_of (asker s r) in
    record { kind = kind_for s.tables user a r.command; kept = kept_row s.tables user r a }

-- how many rows it adds to a table at most
abbrev pub rows_of : ChangeKind → ℕ
rows_of (Review row files) = length files + 1
rows_of _ = 1

-- the reviews that it merges
abbrev pub heads_of : ChangeKind → List ℕ
heads_of (MergeKind review head) = review ∷ []
heads_of _ = []

-- its rows are new: a version, a review and its files come behind all others, the approval is not there, and the
-- review that is merged as the next head, or withdrawn, is there and open
abbrev pub IsOpenAt : Rows → ℕ → Type 0
IsOpenAt t id = (review : ReviewRow) × (review_of t id ≡ Some review) × (review.state ≡ 0)

abbrev pub IsNewKind : ChangeKind → Rows → Type 0
IsNewKind (Policy row) t = row.version ≡ length t.policies + 1
IsNewKind (Review row files) t = (row.id ≡ length t.reviews + 1) × (row.state ≡ 0) × Ascends numbered_cmp file_key (t.files ++ files)
IsNewKind (Certificate row) t = Unit {0}
IsNewKind (Approval row) t = has_approved t row.review row.user ≡ false
IsNewKind (MergeKind review head) t = (head ≡ head_of t + 1) × IsOpenAt t review
IsNewKind (WithdrawKind review) t = IsOpenAt t review

-- the change can be made: its rows are new, and afterwards the tables are valid and within the limit of bytes
pub record CanBeMade (change : Change) (t : Rows) : Type 0 where
  pub rows : IsNewKind change.kind t
  pub key : kept_of t change.kept.user change.kept.key ≡ None
  pub after : IsValid (made change t)
  pub room : bytes_of (made change t) ≤ 268435456

-- the bytes that it adds, and those that it takes away
abbrev pub file_size : FileRow → ℕ
file_size f = length f.name + length f.body

abbrev pub kind_cost : ChangeKind → ℕ
kind_cost (Policy row) = length row.book + 512
kind_cost (Review row files) = sum_by file_size files + 512
kind_cost (Certificate row) = length row.report + 512
kind_cost (Approval row) = 512
kind_cost (MergeKind review head) = 256
kind_cost (WithdrawKind review) = 256

abbrev pub kind_freed : Rows → ChangeKind → ℕ
kind_freed t (Certificate row) = freed_by (certificate_of t row.review)
kind_freed t _ = 0
