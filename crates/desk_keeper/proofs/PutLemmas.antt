-- Rows put at their place in a table that is in key order.
use Rattle.std.proofs.Common.{◌≡◌, ◌<◌, ◌&&◌, ◌==◌, ℕ, Bool, true, List, length, get_or, set, slice_get, None, ◌∙◌}
use Rattle.std.specs.List.{insert}
use Rattle.std.specs.Str.{bytes_eq}
use Rattle.std.specs.Ordering.{nat_cmp, is_eq}
use Rattle.std.specs.declared.cmp.Ordering.{Ordering}
use Rattle.std.specs.Cmp.{IsTotalOrder}
use Rattle.std.proofs.lemmas.Cmp.{nat_cmp_total}
use Rattle.desk_tables.specs.Order.{put, passing, before, Ascends, Splits, numbered_cmp}
use Rattle.desk_tables.specs.Tables.{policy_key, review_key, file_key, approval_key}
use Rattle.desk_tables.specs.declared.rows.PolicyRow.{PolicyRow}
use Rattle.desk_tables.specs.declared.rows.ReviewRow.{ReviewRow}
use Rattle.desk_tables.specs.declared.rows.FileRow.{FileRow}
use Rattle.desk_tables.specs.declared.rows.ApprovalRow.{ApprovalRow}
use Rattle.desk_tables.proofs.TableLemmas.{find_split, numbers_tie, numbered_tie, numbered_total}
use Rattle.desk_tables.proofs.PlaceLemmas.{put_at, put_over}

-- a new row, where the one at the place has another key
put_here : {X K : Type 0} (cmp : K → K → Ordering) (key : X → K) (row : X) (same : X → Bool) → IsTotalOrder cmp → ((x : X) → is_eq (cmp (key x) (key row)) ≡ same x) → (xs : List X) (i : ℕ) → Ascends cmp key xs → Splits (before cmp key (key row)) xs i → passing same (slice_get xs i) ≡ None → insert xs i row ≡ put cmp key row xs
put_here cmp key row same o eq xs i sorted split none = put_at cmp key row same o eq xs i split (find_split cmp key (key row) same o eq xs i sorted split.within split.parts ∙ none)

pub put_policy_at : (row : PolicyRow) (xs : List PolicyRow) (i : ℕ) → Ascends nat_cmp policy_key xs → Splits (before nat_cmp policy_key row.version) xs i → passing (λ (x : PolicyRow). x.version == row.version) (slice_get xs i) ≡ None → insert xs i row ≡ put nat_cmp policy_key row xs
put_policy_at row xs i sorted split none = put_here nat_cmp policy_key row (λ (x : PolicyRow). x.version == row.version) nat_cmp_total (λ x. numbers_tie (policy_key x) (policy_key row)) xs i sorted split none

pub put_policy_over : (row : PolicyRow) (xs : List PolicyRow) (i : ℕ) (d : PolicyRow) → Ascends nat_cmp policy_key xs → i < length xs → ((get_or xs i d).version == row.version) ≡ true → set xs i row ≡ put nat_cmp policy_key row xs
put_policy_over row xs i d sorted low same = put_over nat_cmp policy_key row nat_cmp_total xs i d sorted low (numbers_tie (policy_key (get_or xs i d)) (policy_key row) ∙ same)

pub put_review_at : (row : ReviewRow) (xs : List ReviewRow) (i : ℕ) → Ascends nat_cmp review_key xs → Splits (before nat_cmp review_key row.id) xs i → passing (λ (x : ReviewRow). x.id == row.id) (slice_get xs i) ≡ None → insert xs i row ≡ put nat_cmp review_key row xs
put_review_at row xs i sorted split none = put_here nat_cmp review_key row (λ (x : ReviewRow). x.id == row.id) nat_cmp_total (λ x. numbers_tie (review_key x) (review_key row)) xs i sorted split none

pub put_review_over : (row : ReviewRow) (xs : List ReviewRow) (i : ℕ) (d : ReviewRow) → Ascends nat_cmp review_key xs → i < length xs → ((get_or xs i d).id == row.id) ≡ true → set xs i row ≡ put nat_cmp review_key row xs
put_review_over row xs i d sorted low same = put_over nat_cmp review_key row nat_cmp_total xs i d sorted low (numbers_tie (review_key (get_or xs i d)) (review_key row) ∙ same)

pub put_file_at : (row : FileRow) (xs : List FileRow) (i : ℕ) → Ascends numbered_cmp file_key xs → Splits (before numbered_cmp file_key (row.review, row.name)) xs i → passing (λ (x : FileRow). x.review == row.review && bytes_eq x.name row.name) (slice_get xs i) ≡ None → insert xs i row ≡ put numbered_cmp file_key row xs
put_file_at row xs i sorted split none = put_here numbered_cmp file_key row (λ (x : FileRow). x.review == row.review && bytes_eq x.name row.name) numbered_total (λ x. numbered_tie (file_key x) (file_key row)) xs i sorted split none

pub put_file_over : (row : FileRow) (xs : List FileRow) (i : ℕ) (d : FileRow) → Ascends numbered_cmp file_key xs → i < length xs → ((get_or xs i d).review == row.review && bytes_eq (get_or xs i d).name row.name) ≡ true → set xs i row ≡ put numbered_cmp file_key row xs
put_file_over row xs i d sorted low same = put_over numbered_cmp file_key row numbered_total xs i d sorted low (numbered_tie (file_key (get_or xs i d)) (file_key row) ∙ same)

pub put_approval_at : (row : ApprovalRow) (xs : List ApprovalRow) (i : ℕ) → Ascends numbered_cmp approval_key xs → Splits (before numbered_cmp approval_key (row.review, row.user)) xs i → passing (λ (x : ApprovalRow). x.review == row.review && bytes_eq x.user row.user) (slice_get xs i) ≡ None → insert xs i row ≡ put numbered_cmp approval_key row xs
put_approval_at row xs i sorted split none = put_here numbered_cmp approval_key row (λ (x : ApprovalRow). x.review == row.review && bytes_eq x.user row.user) numbered_total (λ x. numbered_tie (approval_key x) (approval_key row)) xs i sorted split none

pub put_approval_over : (row : ApprovalRow) (xs : List ApprovalRow) (i : ℕ) (d : ApprovalRow) → Ascends numbered_cmp approval_key xs → i < length xs → ((get_or xs i d).review == row.review && bytes_eq (get_or xs i d).user row.user) ≡ true → set xs i row ≡ put numbered_cmp approval_key row xs
put_approval_over row xs i d sorted low same = put_over numbered_cmp approval_key row numbered_total xs i d sorted low (numbered_tie (approval_key (get_or xs i d)) (approval_key row) ∙ same)
