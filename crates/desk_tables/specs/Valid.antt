-- When the tables are valid.
use Rattle.std.specs.Prelude.{ℕ, ◌+◌, ◌-◌, ◌^◌, ◌≡◌, ◌≢◌, ◌≤◌, ◌<◌, true, List, length, count_by, min, unwrap_or, slice_get}
use Rattle.std.specs.List.{All}
use Rattle.std.specs.Ordering.{nat_cmp}
use Rattle.net_types.specs.Names.{is_host}
use Rattle.desk_tables.specs.Order.{texts_cmp, numbered_cmp, Ascends, Counts}
use Rattle.desk_tables.specs.Tables.{file_key, approval_key, certificate_key, kept_key, has_head, head_of, merged_of, bytes_of}
use Rattle.desk_tables.specs.declared.rows.Rows.{Rows}
use Rattle.desk_tables.specs.declared.rows.PolicyRow.{PolicyRow}
use Rattle.desk_tables.specs.declared.rows.ReviewRow.{ReviewRow}
use Rattle.desk_tables.specs.declared.rows.FileRow.{FileRow}
use Rattle.desk_tables.specs.declared.rows.CertificateRow.{CertificateRow}
use Rattle.desk_tables.specs.declared.rows.KeptRow.{KeptRow}

-- a number from 1 to n
abbrev pub IsUpTo : ℕ → ℕ → Type 0
IsUpTo n id = (1 ≤ id) × (id ≤ n)

-- the policy asks for 1 to 16 approvals
abbrev pub IsPolicy : PolicyRow → Type 0
IsPolicy p = IsUpTo 16 p.approvals

-- a merged review has a head above its base, and at most the number of merged reviews; any other has head 0
-- and a base of at most that number
pub record IsReview (heads : ℕ) (r : ReviewRow) : Type 0 where
  pub state : r.state ≤ 2
  pub open_head : r.state ≢ 1 → r.head ≡ 0
  pub open_base : r.state ≢ 1 → r.base ≤ heads
  pub merged_base : r.state ≡ 1 → r.base < r.head
  pub merged_head : r.state ≡ 1 → r.head ≤ heads

-- a file is of a review, and its name is that of a host
abbrev pub IsFile : ℕ → FileRow → Type 0
IsFile reviews f = IsUpTo reviews f.review × (is_host f.name ≡ true)

-- a certificate is of a review, made under a version of the policy; a missing property has a position below 64
pub record IsCertificate (reviews policies : ℕ) (c : CertificateRow) : Type 0 where
  pub review : IsUpTo reviews c.review
  pub policy : c.policy ≤ policies
  pub missing : unwrap_or c.missing 0 < 64

-- what is kept is of a kind, and its target is there: a policy's version for kind 1, a review for the others
pub record IsKept (reviews policies : ℕ) (k : KeptRow) : Type 0 where
  pub kind : IsUpTo 6 k.kind
  pub policy : k.kind ≡ 1 → IsUpTo policies k.target
  pub review : k.kind ≢ 1 → IsUpTo reviews k.target

-- the tables are valid
pub record IsValid (t : Rows) : Type 0 where
  pub versions : Counts (λ p. p.version) 1 t.policies
  pub policies : All IsPolicy t.policies
  pub numbers : Counts (λ r. r.id) 1 t.reviews
  pub few : length t.reviews ≤ 10000
  pub reviews : All (IsReview (head_of t)) t.reviews
  -- each head from 1 to their number is that of one merged review
  pub heads : (head : ℕ) → IsUpTo (head_of t) head → count_by (has_head head) t.reviews ≡ 1
  pub files_ascend : Ascends numbered_cmp file_key t.files
  pub files : All (IsFile (length t.reviews)) t.files
  pub approvals_ascend : Ascends numbered_cmp approval_key t.approvals
  pub approvals : All (λ a. IsUpTo (length t.reviews) a.review) t.approvals
  pub certificates_ascend : Ascends nat_cmp certificate_key t.certificates
  pub certificates : All (IsCertificate (length t.reviews) (length t.policies)) t.certificates
  pub kept_ascend : Ascends texts_cmp kept_key t.kept
  pub kept : All (IsKept (length t.reviews) (length t.policies)) t.kept

-- what a desk knows of its tables: they are valid; the numbers of the merged reviews, in the order of their heads;
-- and the bytes kept, which stop at the end of their type
pub record IsDesk (t : Rows) (merges : List ℕ) (bytes : ℕ) : Type 0 where
  pub valid : IsValid t
  pub count : length merges ≡ head_of t
  pub heads : (at : ℕ) → slice_get merges at ≡ merged_of t (at + 1)
  pub sum : bytes ≡ min (bytes_of t) (2 ^ 128 - 1)
