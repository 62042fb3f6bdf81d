-- Which stored row is the first that is not valid: in the first table that has one. Tables are numbered in their
-- order, rows from 1.
use Rattle.std.specs.Prelude.{ℕ, ◌+◌, ◌≡◌, ◌≤◌, ◌↔◌, Bool, true, false, List, [], ◌∷◌, ◌++◌, ◌||◌, ◌&&◌, ◌==◌, Option, Some, None, length, slice_index_or, nat_lt, nat_le, not, unwrap_or, if◌then◌else◌}
use Rattle.std.specs.List.{list_any}
use Rattle.std.specs.declared.cmp.Ordering.{Ordering}
use Rattle.std.specs.Ordering.{nat_cmp}
use Rattle.net_types.specs.Names.{is_host}
use Rattle.desk_tables.specs.Order.{before, texts_cmp, numbered_cmp}
use Rattle.desk_tables.specs.Tables.{has_head, head_of, file_key, approval_key, certificate_key, kept_key}
use Rattle.desk_tables.specs.Valid.{IsValid}
use Rattle.desk_tables.specs.declared.rows.Rows.{Rows}
use Rattle.desk_tables.specs.declared.rows.PolicyRow.{PolicyRow}
use Rattle.desk_tables.specs.declared.rows.ReviewRow.{ReviewRow}
use Rattle.desk_tables.specs.declared.rows.FileRow.{FileRow}
use Rattle.desk_tables.specs.declared.rows.ApprovalRow.{ApprovalRow}
use Rattle.desk_tables.specs.declared.rows.CertificateRow.{CertificateRow}
use Rattle.desk_tables.specs.declared.rows.KeptRow.{KeptRow}
use Rattle.stored_rows.specs.declared.rows.BadRow.{BadRow}

-- the number, from 1, of the first row that breaks a test of it and of the rows before it
abbrev pub first_bad : {X : Type 0} → (List X → X → Bool) → List X → List X → Option ℕ
first_bad test past [] = None
first_bad test past (x ∷ xs) = if test past x then Some (length past + 1) else first_bad test (past ++ x ∷ []) xs

-- the number, from n, of the first row that breaks a test of it and of the row before it
abbrev pub first_out : {X : Type 0} → (Option X → X → Bool) → ℕ → Option X → List X → Option ℕ
first_out test n last [] = None
first_out test n last (x ∷ xs) = if test last x then Some n else first_out test (n + 1) (Some x) xs

-- the key is greater than the one before it
abbrev pub follows : {X K : Type 0} → (K → K → Ordering) → (X → K) → Option X → X → Bool
follows cmp key None x = true
follows cmp key (Some l) x = before cmp key (key x) l

-- out of order, or not what a row has to be
abbrev pub out : {X K : Type 0} → (K → K → Ordering) → (X → K) → (X → Bool) → Option X → X → Bool
out cmp key good last x = not (follows cmp key last x) || not (good x)

-- a number from 1 to n
abbrev pub is_up_to : ℕ → ℕ → Bool
is_up_to n id = nat_le 1 id && nat_le id n

-- versions are 1, 2, 3 and so on, and ask for 1 to 16 approvals
unfoldable pub bad_policy : List PolicyRow → PolicyRow → Bool
bad_policy past p = not (p.version == length past + 1) || not (is_up_to 16 p.approvals)

-- the head of a merged review is from 1 to the number of merged reviews, no earlier one's, and above its base
abbrev pub bad_merged : ℕ → List ReviewRow → ReviewRow → Bool
bad_merged heads past r = r.head == 0 || nat_lt heads r.head || list_any (has_head r.head) past || nat_le r.head r.base

-- any other has head 0, and a base of at most that number
abbrev pub bad_open : ℕ → ReviewRow → Bool
bad_open heads r = not (r.head == 0) || nat_lt heads r.base

abbrev pub bad_head : ℕ → List ReviewRow → ReviewRow → Bool
bad_head heads past r = if r.state == 1 then bad_merged heads past r else bad_open heads r

-- numbers are 1, 2, 3 and so on, at most 10,000, and states at most 2
unfoldable pub bad_review : ℕ → List ReviewRow → ReviewRow → Bool
bad_review heads past r = not (r.id == length past + 1) || nat_lt 10000 r.id || nat_lt 2 r.state || bad_head heads past r

-- a file is of a review, and its name is that of a host
abbrev pub good_file : ℕ → FileRow → Bool
good_file reviews f = is_up_to reviews f.review && is_host f.name

unfoldable pub bad_file : ℕ → Option FileRow → FileRow → Bool
bad_file reviews = out numbered_cmp file_key (good_file reviews)

-- an approval is of a review
abbrev pub good_approval : ℕ → ApprovalRow → Bool
good_approval reviews a = is_up_to reviews a.review

unfoldable pub bad_approval : ℕ → Option ApprovalRow → ApprovalRow → Bool
bad_approval reviews = out numbered_cmp approval_key (good_approval reviews)

-- a certificate is of a review, under a version of the policy, and its missing property is below 64
abbrev pub good_certificate : ℕ → ℕ → CertificateRow → Bool
good_certificate reviews policies c = is_up_to reviews c.review && nat_le c.policy policies && nat_lt (unwrap_or c.missing 0) 64

unfoldable pub bad_certificate : ℕ → ℕ → Option CertificateRow → CertificateRow → Bool
bad_certificate reviews policies = out nat_cmp certificate_key (good_certificate reviews policies)

-- what is kept is of a kind, and its target is there for the kind
abbrev pub has_target : ℕ → ℕ → KeptRow → Bool
has_target reviews policies k = is_up_to (if k.kind == 1 then policies else reviews) k.target

abbrev pub good_kept : ℕ → ℕ → KeptRow → Bool
good_kept reviews policies k = is_up_to 6 k.kind && has_target reviews policies k

unfoldable pub bad_kept : ℕ → ℕ → Option KeptRow → KeptRow → Bool
bad_kept reviews policies = out texts_cmp kept_key (good_kept reviews policies)

-- the first bad row of each table
abbrev pub bad_in_policies : Rows → Option ℕ
bad_in_policies t = first_bad bad_policy [] t.policies

abbrev pub bad_in_reviews : Rows → Option ℕ
bad_in_reviews t = first_bad (bad_review (head_of t)) [] t.reviews

abbrev pub bad_in_files : Rows → Option ℕ
bad_in_files t = first_out (bad_file (length t.reviews)) 1 None t.files

abbrev pub bad_in_approvals : Rows → Option ℕ
bad_in_approvals t = first_out (bad_approval (length t.reviews)) 1 None t.approvals

abbrev pub bad_in_certificates : Rows → Option ℕ
bad_in_certificates t = first_out (bad_certificate (length t.reviews) (length t.policies)) 1 None t.certificates

abbrev pub bad_in_kept : Rows → Option ℕ
bad_in_kept t = first_out (bad_kept (length t.reviews) (length t.policies)) 1 None t.kept

-- the bad row of a table, else that of a later one
abbrev pub in_table : ℕ → Option ℕ → Option (ℕ × ℕ) → Option (ℕ × ℕ)
in_table table (Some row) later = Some (table, row)
in_table table None later = later

-- the table and the number of the first row that is not valid
abbrev pub bad_behind : Rows → Option (ℕ × ℕ)
bad_behind t =
    in_table 3 (bad_in_files t)
    (in_table 4 (bad_in_approvals t)
    (in_table 5 (bad_in_certificates t)
    (in_table 6 (bad_in_kept t) None)))

abbrev pub first_bad_row : Rows → Option (ℕ × ℕ)
first_bad_row t = in_table 1 (bad_in_policies t) (in_table 2 (bad_in_reviews t) (bad_behind t))

-- a bad row as the numbers of its table and of itself
abbrev pub pair_of : BadRow → ℕ × ℕ
pair_of b = (b.table, b.row)

-- a mark for each head that a review before has
pub record Marks (heads : ℕ) (past : List ReviewRow) (seen : List Bool) : Type 0 where
  pub long : length seen ≡ heads + 1
  pub each : (head : ℕ) → head ≤ heads → slice_index_or seen head false ≡ list_any (has_head head) past

-- tables are valid exactly where no row is bad
abbrev pub ValidWithoutBadRow : Type 0
ValidWithoutBadRow = (t : Rows) → first_bad_row t ≡ None ↔ IsValid t
