-- What is true of each reply.
use Rattle.std.specs.Prelude.{◌≡◌, ℕ, List, codes}
use Rattle.desk_tables.specs.Order.{Ascends, text_cmp}
use Rattle.desk_tables.specs.Tables.{approvals_to}
use Rattle.desk_tables.specs.Valid.{IsValid}
use Rattle.desk_tables.specs.declared.rows.ApprovalRow.{ApprovalRow}
use Rattle.desk_tables.specs.declared.rows.Rows.{Rows}
use Rattle.desk_replies.specs.Replies.{phrase}

-- the codes that the desk answers, and their phrases
abbrev pub HavePhrases : Type 0
HavePhrases =
    (phrase 200 ≡ codes "OK")
    × (phrase 400 ≡ codes "Bad Request")
    × (phrase 401 ≡ codes "Unauthorized")
    × (phrase 403 ≡ codes "Forbidden")
    × (phrase 404 ≡ codes "Not Found")
    × (phrase 405 ≡ codes "Method Not Allowed")
    × (phrase 409 ≡ codes "Conflict")
    × (phrase 411 ≡ codes "Length Required")
    × (phrase 413 ≡ codes "Payload Too Large")
    × (phrase 422 ≡ codes "Unprocessable Entity")
    × (phrase 431 ≡ codes "Request Header Fields Too Large")
    × (phrase 501 ≡ codes "Not Implemented")
    × (phrase 503 ≡ codes "Service Unavailable")
    × (phrase 507 ≡ codes "Insufficient Storage")

abbrev pub user_of : ApprovalRow → List ℕ
user_of approval = approval.user

-- of valid tables, the names of those who approved a review are in byte order, each once
abbrev pub NamesAreInOrder : Type 0
NamesAreInOrder = (t : Rows) (id : ℕ) → IsValid t → Ascends text_cmp user_of (approvals_to t id)
