-- What the tables of a desk are where a change is made in them, row by row.
use Rattle.std.proofs.Common.{◌≡◌, ℕ, ◌+◌, ◌-◌, ◌^◌, ◌≤◌, List, [], ◌∷◌, ◌++◌, length, map, min, sym, subst, arith}
use Rattle.desk_tables.specs.declared.rows.Rows.{Rows}
use Rattle.desk_tables.specs.declared.rows.PolicyRow.{PolicyRow}
use Rattle.desk_tables.specs.declared.rows.ReviewRow.{ReviewRow}
use Rattle.desk_tables.specs.declared.rows.FileRow.{FileRow}
use Rattle.desk_tables.specs.declared.rows.KeptRow.{KeptRow}
use Rattle.desk_tables.specs.Order.{put, texts_cmp}
use Rattle.desk_tables.specs.Tables.{kept_key, at_review, merged, withdrawn, bytes_of}
use Rattle.desk_tables.specs.Valid.{IsValid, IsDesk}
use Rattle.desk_tables.specs.Valid.{IsUpTo}
use Rattle.desk_tables.proofs.PutLemmas.{found_up_to}
use Rattle.review_rules.specs.Changes.{IsOpenAt, made, heads_of, CanBeMade, kind_freed, kind_cost}
use Rattle.review_rules.specs.declared.changes.Change.{Change}
use Rattle.review_rules.specs.declared.changes.ChangeKind.TheVariants.{Policy, Review, Merge as MergeKind, Withdraw as WithdrawKind}
use Rattle.review_rules.proofs.ChangeLemmas.{made_is, desk_made, bytes_made}

pub take_policy_is : (t : Rows) (row : PolicyRow) (kept : KeptRow) (rows' : List PolicyRow) (kept' : List KeptRow) → IsValid t → CanBeMade (record { kind = Policy row; kept = kept }) t → rows' ≡ t.policies ++ row ∷ [] → kept' ≡ put texts_cmp kept_key kept t.kept → record t { policies = rows'; kept = kept' } ≡ made (record { kind = Policy row; kept = kept }) t
take_policy_is t row kept rows' kept' v can h0 h1 = rw (h0, h1) (sym (made_is t (record { kind = Policy row; kept = kept }) v can.rows))

pub take_review_is : (t : Rows) (row : ReviewRow) (files : List FileRow) (kept : KeptRow) (rows' : List ReviewRow) (files' : List FileRow) (kept' : List KeptRow) → IsValid t → CanBeMade (record { kind = Review row files; kept = kept }) t → rows' ≡ t.reviews ++ row ∷ [] → files' ≡ t.files ++ files → kept' ≡ put texts_cmp kept_key kept t.kept → record t { reviews = rows'; files = files'; kept = kept' } ≡ made (record { kind = Review row files; kept = kept }) t
take_review_is t row files kept rows' files' kept' v can h0 h1 h2 = rw (h0, h1, h2) (sym (made_is t (record { kind = Review row files; kept = kept }) v can.rows))

pub take_merge_is : (t : Rows) (id head : ℕ) (kept : KeptRow) (rows' : List ReviewRow) (kept' : List KeptRow) → IsValid t → CanBeMade (record { kind = MergeKind id head; kept = kept }) t → rows' ≡ map (at_review id (merged head)) t.reviews → kept' ≡ put texts_cmp kept_key kept t.kept → record t { reviews = rows'; kept = kept' } ≡ made (record { kind = MergeKind id head; kept = kept }) t
take_merge_is t id head kept rows' kept' v can h0 h1 = rw (h0, h1) (sym (made_is t (record { kind = MergeKind id head; kept = kept }) v can.rows))

pub take_withdrawal_is : (t : Rows) (id : ℕ) (kept : KeptRow) (rows' : List ReviewRow) (kept' : List KeptRow) → IsValid t → CanBeMade (record { kind = WithdrawKind id; kept = kept }) t → rows' ≡ map (at_review id withdrawn) t.reviews → kept' ≡ put texts_cmp kept_key kept t.kept → record t { reviews = rows'; kept = kept' } ≡ made (record { kind = WithdrawKind id; kept = kept }) t
take_withdrawal_is t id kept rows' kept' v can h0 h1 = rw (h0, h1) (sym (made_is t (record { kind = WithdrawKind id; kept = kept }) v can.rows))

-- and what the desk knows of them
pub desk_taken : (t : Rows) (change : Change) (merges merges' : List ℕ) (old new : ℕ) (u : Rows) → IsDesk t merges old → CanBeMade change t → new ≡ bytes_of (made change t) → u ≡ made change t → merges' ≡ merges ++ heads_of change.kind → IsDesk u merges' new
desk_taken t change merges merges' old new u d can sum is heads =
    subst (λ (w : Rows). IsDesk w merges' new) (sym is) (subst (λ (hs : List ℕ). IsDesk (made change t) hs new) (sym heads) (desk_made t change merges old new d can sum))

-- the bytes kept with a change are exact, since they are within the limit
pub bytes_exact : (t : Rows) (change : Change) (after : ℕ) → IsValid t → CanBeMade change t → min after (2 ^ 64 - 1) ≡ min (bytes_of t - kind_freed t change.kind + kind_cost change.kind) (2 ^ 64 - 1) → after ≡ bytes_of (made change t)
bytes_exact t change after v can capped = exact after (bytes_of t - kind_freed t change.kind + kind_cost change.kind) (bytes_of (made change t)) (bytes_made t change v can.rows can.key) can.room capped
  where
    exact : (after n b : ℕ) → b ≡ n → b ≤ 268435456 → min after (2 ^ 64 - 1) ≡ min n (2 ^ 64 - 1) → after ≡ b
    exact after n b is room capped = omega arith

-- a review that is open is one of those there
pub open_up_to : (t : Rows) (id : ℕ) → IsValid t → IsOpenAt t id → IsUpTo (length t.reviews) id
open_up_to t id v there = found_up_to (λ (r : ReviewRow). r.id) t.reviews id there.0 v.numbers there.1
