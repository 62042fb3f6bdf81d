-- What is told of the desk as it is.
use Rattle.std.specs.Prelude.{ℕ, ◌==◌, List, codes, map, Option, None, Some, if◌then◌else◌}
use Rattle.serde_json.specs.Data.{Data, Items, array, object, member, no_members, string, number, unsigned}
use Rattle.serde_json.specs.View.{items_of}
use Rattle.serde_json.specs.Written.{compact_text}
use Rattle.desk_tables.specs.Tables.{approvals_to, certificate_of, head_of, version_of}
use Rattle.desk_tables.specs.declared.rows.Rows.{Rows}
use Rattle.desk_tables.specs.declared.rows.ApprovalRow.{ApprovalRow}
use Rattle.desk_tables.specs.declared.rows.CertificateRow.{CertificateRow}
use Rattle.desk_tables.specs.declared.rows.ReviewRow.{ReviewRow}

-- the head, and the version of the policy
unfoldable pub head_body : Rows → List ℕ
head_body t =
    compact_text (object (member (codes "head") (number (unsigned (head_of t))) (member (codes "policy") (number (unsigned (version_of t))) no_members)))

-- the names of those who approved the review, in byte order
abbrev pub name_value : ApprovalRow → Data
name_value approval = string approval.user

abbrev pub names_value : Rows → ℕ → Items
names_value t id = items_of (map name_value (approvals_to t id))

-- whether it has a certificate, and one of the present version of the policy
abbrev pub certificate_in : ℕ → Option CertificateRow → List ℕ
certificate_in version None = codes "none"
certificate_in version (Some c) = if c.policy == version then codes "current" else codes "old"

abbrev pub certificate_word : Rows → ℕ → List ℕ
certificate_word t id = certificate_in (version_of t) (certificate_of t id)

abbrev pub state_word : ℕ → List ℕ
state_word state = if state == 0 then codes "open" else if state == 1 then codes "merged" else codes "withdrawn"

-- a review
abbrev pub review_value : Rows → ReviewRow → Data
review_value t r =
    object (member (codes "approvals") (array (names_value t r.id))
    (member (codes "author") (string r.author)
    (member (codes "base") (number (unsigned r.base))
    (member (codes "certificate") (string (certificate_word t r.id))
    (member (codes "review") (number (unsigned r.id))
    (member (codes "state") (string (state_word r.state))
    (member (codes "title") (string r.title) no_members)))))))

unfoldable pub review_body : Rows → ReviewRow → List ℕ
review_body t r = compact_text (review_value t r)
