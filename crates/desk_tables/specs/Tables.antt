-- The six tables of the desk, their keys, what is looked up in them, and the bytes that they keep.
use Rattle.std.specs.Prelude.{ℕ, zero, suc, slice_get, ◌+◌, ◌*◌, Bool, true, false, List, [], ◌∷◌, ◌&&◌, ◌==◌, Option, Some, None, length, filter, find, sum_by, count_by, if◌then◌else◌}
use Rattle.std.specs.Str.{bytes_eq}
use Rattle.std.specs.List.{list_any}
use Rattle.net_types.specs.declared.config.SourceFile.{SourceFile}
use Rattle.desk_tables.specs.Order.{texts_cmp, before}
use Rattle.desk_tables.specs.declared.rows.User.{User}
use Rattle.desk_tables.specs.declared.rows.Rows.{Rows}
use Rattle.desk_tables.specs.declared.rows.PolicyRow.{PolicyRow}
use Rattle.desk_tables.specs.declared.rows.ReviewRow.{ReviewRow}
use Rattle.desk_tables.specs.declared.rows.FileRow.{FileRow}
use Rattle.desk_tables.specs.declared.rows.ApprovalRow.{ApprovalRow}
use Rattle.desk_tables.specs.declared.rows.CertificateRow.{CertificateRow}
use Rattle.desk_tables.specs.declared.rows.KeptRow.{KeptRow}

-- ---- keys

abbrev pub policy_key : PolicyRow → ℕ
policy_key p = p.version

abbrev pub review_key : ReviewRow → ℕ
review_key r = r.id

abbrev pub file_key : FileRow → ℕ × List ℕ
file_key f = (f.review, f.name)

abbrev pub approval_key : ApprovalRow → ℕ × List ℕ
approval_key a = (a.review, a.user)

abbrev pub certificate_key : CertificateRow → ℕ
certificate_key c = c.review

abbrev pub kept_key : KeptRow → List ℕ × List ℕ
kept_key k = (k.user, k.key)

-- ---- what is looked up

-- the user with the token
abbrev pub user_of : List User → List ℕ → Option User
user_of users token = find (λ u. bytes_eq u.token token) users

-- the review of the number
abbrev pub review_of : Rows → ℕ → Option ReviewRow
review_of t id = find (λ r. r.id == id) t.reviews

-- the row of the policy's version
abbrev pub policy_of : Rows → ℕ → Option PolicyRow
policy_of t version = find (λ p. p.version == version) t.policies

-- the certificate of the review
abbrev pub certificate_of : Rows → ℕ → Option CertificateRow
certificate_of t id = find (λ c. c.review == id) t.certificates

-- what is kept for the user's key
abbrev pub kept_of : Rows → List ℕ → List ℕ → Option KeptRow
kept_of t user key = find (λ k. bytes_eq k.user user && bytes_eq k.key key) t.kept

-- the files of the review's bundle, in the order of their names
abbrev pub files_of : Rows → ℕ → List FileRow
files_of t id = filter (λ f. f.review == id) t.files

-- the approvals of the review, in the order of the users' names
abbrev pub approvals_to : Rows → ℕ → List ApprovalRow
approvals_to t id = filter (λ a. a.review == id) t.approvals

-- how many have approved the review
abbrev pub approvals_of : Rows → ℕ → ℕ
approvals_of t id = count_by (λ a. a.review == id) t.approvals

-- the user has approved the review
abbrev pub has_approved : Rows → ℕ → List ℕ → Bool
has_approved t id user = list_any (λ a. a.review == id && bytes_eq a.user user) t.approvals

-- the head: how many reviews are merged
abbrev pub is_merged : ReviewRow → Bool
is_merged r = r.state == 1

abbrev pub head_of : Rows → ℕ
head_of t = count_by is_merged t.reviews

-- the review is merged as this head
abbrev pub has_head : ℕ → ReviewRow → Bool
has_head head r = is_merged r && r.head == head

-- the number of the review that is merged as this head
abbrev pub number_in : Option ReviewRow → Option ℕ
number_in None = None
number_in (Some r) = Some r.id

abbrev pub merged_of : Rows → ℕ → Option ℕ
merged_of t head = number_in (find (has_head head) t.reviews)

-- the policy's version: how many there are
abbrev pub version_of : Rows → ℕ
version_of t = length t.policies

-- the approvals that the policy asks for, one where there is none yet
abbrev pub approvals_in : Option PolicyRow → ℕ
approvals_in None = 1
approvals_in (Some p) = p.approvals

abbrev pub needed : Rows → ℕ
needed t = approvals_in (policy_of t (version_of t))

-- the book of the policy, empty where there is none yet
abbrev pub book_in : Option PolicyRow → List ℕ
book_in None = []
book_in (Some p) = p.book

abbrev pub book_of : Rows → List ℕ
book_of t = book_in (policy_of t (version_of t))

-- the number of a kept row, from 1
abbrev pub number_of : Rows → KeptRow → ℕ
number_of t k = count_by (before texts_cmp kept_key (kept_key k)) t.kept + 1

-- the kept row of this number
abbrev pub kept_at : Rows → ℕ → Option KeptRow
kept_at t zero = None
kept_at t (suc at) = slice_get t.kept at

-- ---- files

-- a row of a file of the review, and back
abbrev pub file_row : ℕ → SourceFile → FileRow
file_row id f = record { review = id; name = f.name; body = f.text }

abbrev pub source_of : FileRow → SourceFile
source_of f = record { name = f.name; text = f.body }

-- the files of a bundle are those of a command, in order
abbrev pub same_files : List FileRow → List SourceFile → Bool
same_files [] [] = true
same_files [] (g ∷ gs) = false
same_files (f ∷ fs) [] = false
same_files (f ∷ fs) (g ∷ gs) = bytes_eq f.name g.name && bytes_eq f.body g.text && same_files fs gs

-- ---- the review of a number, merged or withdrawn

abbrev pub at_review : ℕ → (ReviewRow → ReviewRow) → ReviewRow → ReviewRow
at_review id change r = if r.id == id then change r else r

abbrev pub merged : ℕ → ReviewRow → ReviewRow
merged head r = record r { state = 1; head = head }

abbrev pub withdrawn : ReviewRow → ReviewRow
withdrawn r = record r { state = 2 }

-- ---- the bytes kept

-- of file names, file bodies, books and reports, and 256 for each row of the other tables than the files
abbrev pub bytes_of : Rows → ℕ
bytes_of t = sum_by (λ f. length f.name + length f.body) t.files
    + (sum_by (λ p. length p.book) t.policies
    + (sum_by (λ c. length c.report) t.certificates
    + 256 * (length t.policies + (length t.reviews + (length t.approvals + (length t.certificates + length t.kept))))))
