-- What the machine decides on a request: the rules of each command, in order, and the tables after an accepted one.
use Rattle.std.specs.Prelude.{ℕ, ◌+◌, ◌-◌, ◌^◌, ◌≡◌, Bool, true, false, List, [], ◌∷◌, ◌++◌, ◌&&◌, ◌||◌, ◌==◌, Option, Some, None, length, map, sum_by, nat_lt, nat_le, min, if◌then◌else◌, codes, not}
use Rattle.std.specs.Str.{bytes_eq}
use Rattle.std.specs.Fmt.{decimal}
use Rattle.std.specs.Ordering.{nat_cmp}
use Rattle.net_types.specs.declared.config.SourceFile.{SourceFile}
use Rattle.desk_tables.specs.Order.{put, texts_cmp, numbered_cmp}
use Rattle.desk_tables.specs.Tables.{user_of, review_of, policy_of, certificate_of, kept_of, files_of, approvals_of, has_approved, head_of, version_of, needed, bytes_of, kept_key, approval_key, certificate_key, number_of, file_row, same_files, at_review, merged, withdrawn}
use Rattle.desk_tables.specs.declared.rows.User.{User}
use Rattle.desk_tables.specs.declared.rows.Rows.{Rows}
use Rattle.desk_tables.specs.declared.rows.PolicyRow.{PolicyRow}
use Rattle.desk_tables.specs.declared.rows.ReviewRow.{ReviewRow}
use Rattle.desk_tables.specs.declared.rows.FileRow.{FileRow}
use Rattle.desk_tables.specs.declared.rows.CertificateRow.{CertificateRow}
use Rattle.desk_tables.specs.declared.rows.KeptRow.{KeptRow}
use Rattle.review_rules.specs.State.{State}
use Rattle.review_rules.specs.declared.requests.Request.{Request}
use Rattle.review_rules.specs.declared.requests.Command.{Command}
use Rattle.review_rules.specs.declared.requests.Command.TheVariants.{SetPolicy, Submit, Certify, Approve, Merge, Withdraw}
use Rattle.review_rules.specs.declared.requests.Ask.{Ask}
use Rattle.review_rules.specs.declared.requests.Ask.TheVariants.{Nothing, Bundle, Run, Book as AskBook}
use Rattle.review_rules.specs.declared.requests.JudgeAnswer.{JudgeAnswer}
use Rattle.review_rules.specs.declared.requests.JudgeAnswer.TheVariants.{Refused as AnswerRefused, BookRefused, Limit, Judged}
use Rattle.review_rules.specs.declared.requests.Lack.TheVariants.{NotRun, Property}
use Rattle.review_rules.specs.declared.requests.PolicyFault.TheVariants.{Approvals, Book}
use Rattle.review_rules.specs.declared.requests.Decision.{Decision}
use Rattle.review_rules.specs.declared.requests.Decision.TheVariants.{Repeated as DecisionRepeated, Accepted as DecisionAccepted, Refused as DecisionRefused}
use Rattle.review_rules.specs.declared.requests.Rule.{Rule}
use Rattle.review_rules.specs.declared.requests.Rule.TheVariants.{UnknownUser, KeyReused, WrongRole, NoSuchReview, Closed, Stale, BundleRefused, CasesLimit, PolicyRefused, TooManyReviews, NotCertified, OwnReview, AlreadyApproved, TooFewApprovals, DeskFull}

-- ---- what is kept

-- the version of the policy is what the command sets
abbrev pub set_as : ℕ → List ℕ → Option PolicyRow → Bool
set_as approvals book None = false
set_as approvals book (Some p) = p.approvals == approvals && bytes_eq p.book book

-- the review is what the command submits
abbrev pub submitted_as : List FileRow → ℕ → List ℕ → List SourceFile → Option ReviewRow → Bool
submitted_as have base title files None = false
submitted_as have base title files (Some r) = r.base == base && bytes_eq r.title title && same_files have files

-- the row is kept with this command
abbrev pub same_command : Rows → KeptRow → Command → Bool
same_command t k (SetPolicy approvals book) = k.kind == 1 && set_as approvals book (policy_of t k.target)
same_command t k (Submit base title files) = k.kind == 2 && submitted_as (files_of t k.target) base title files (review_of t k.target)
same_command t k (Certify id) = k.kind == 3 && k.target == id
same_command t k (Approve id) = k.kind == 4 && k.target == id
same_command t k (Merge id) = k.kind == 5 && k.target == id
same_command t k (Withdraw id) = k.kind == 6 && k.target == id

-- who asks
abbrev pub asker : State → Request → Option User
asker s r = user_of s.users r.token

-- what is kept under the request's key by its user
abbrev pub kept_for : Rows → List ℕ → Option User → Option KeptRow
kept_for t key None = None
kept_for t key (Some u) = kept_of t u.name key

abbrev pub kept_under : State → Request → Option KeptRow
kept_under s r = kept_for s.tables r.key (asker s r)

-- ---- the rules: what is broken of each, if it is

abbrev pub Test : Type 0
Test = State → Request → Option Rule

abbrev pub when : Bool → Rule → Option Rule
when true rule = Some rule
when false rule = None

-- no user has the token
abbrev pub unless_user : Option User → Option Rule
unless_user None = Some UnknownUser
unless_user (Some u) = None

abbrev pub unknown_user : Test
unknown_user s r = unless_user (asker s r)

-- the user's key is kept with another command
abbrev pub reused : Rows → Command → Option KeptRow → Option Rule
reused t command None = None
reused t command (Some k) = when (not (same_command t k command)) KeyReused

abbrev pub key_reused : Test
key_reused s r = reused s.tables r.command (kept_under s r)

-- the user lacks the role
abbrev pub no_admin : Option User → Option Rule
no_admin None = None
no_admin (Some u) = when (not u.admin) WrongRole

abbrev pub no_author : Option User → Option Rule
no_author None = None
no_author (Some u) = when (not u.author) WrongRole

abbrev pub no_approver : Option User → Option Rule
no_approver None = None
no_approver (Some u) = when (not u.approver) WrongRole

abbrev pub no_certifier : Option User → Option Rule
no_certifier None = None
no_certifier (Some u) = when (not (u.author || u.approver)) WrongRole

-- no review has the number
abbrev pub unless_review : Option ReviewRow → Option Rule
unless_review None = Some NoSuchReview
unless_review (Some r) = None

unfoldable pub no_such_review : ℕ → Rows → Option Rule
no_such_review id t = unless_review (review_of t id)

-- the review is merged or withdrawn
abbrev pub closed_in : Option ReviewRow → Option Rule
closed_in None = None
closed_in (Some r) = when (not (r.state == 0)) Closed

unfoldable pub closed : ℕ → Rows → Option Rule
closed id t = closed_in (review_of t id)

-- the base is not the head
unfoldable pub stale_base : ℕ → Rows → Option Rule
stale_base base t = when (not (base == head_of t)) (Stale (head_of t))

abbrev pub stale_in : ℕ → Option ReviewRow → Option Rule
stale_in head None = None
stale_in head (Some r) = when (not (r.base == head)) (Stale head)

unfoldable pub stale : ℕ → Rows → Option Rule
stale id t = stale_in (head_of t) (review_of t id)

-- the judge refuses the bundle
abbrev pub refused_bundle : JudgeAnswer → Option Rule
refused_bundle (AnswerRefused side refusal) = Some (BundleRefused side refusal)
refused_bundle _ = None

-- the judge came to its limit of cases
abbrev pub over_cases : JudgeAnswer → Option Rule
over_cases (Limit n) = Some (CasesLimit n)
over_cases _ = None

-- the approvals are not 1 to 16
unfoldable pub bad_approvals : ℕ → Option Rule
bad_approvals approvals = when (not (nat_le 1 approvals && nat_le approvals 16)) (PolicyRefused Approvals)

-- the judge refuses the book
abbrev pub refused_book : JudgeAnswer → Option Rule
refused_book (BookRefused refusal) = Some (PolicyRefused (Book refusal))
refused_book _ = None

-- there are so many reviews already
unfoldable pub too_many_reviews : Rows → Option Rule
too_many_reviews t = when (nat_le 10000 (length t.reviews)) TooManyReviews

-- no certificate of the policy's version, or one in which a property is missing
abbrev pub missing_in : Option ℕ → Option Rule
missing_in None = None
missing_in (Some i) = Some (NotCertified (Property i))

abbrev pub lacking : ℕ → Option CertificateRow → Option Rule
lacking version None = Some (NotCertified NotRun)
lacking version (Some c) = if c.policy == version then missing_in c.missing else Some (NotCertified NotRun)

unfoldable pub not_certified : ℕ → Rows → Option Rule
not_certified id t = lacking (version_of t) (certificate_of t id)

-- the approver is the author
abbrev pub own_in : Option User → Option ReviewRow → Option Rule
own_in None review = None
own_in (Some u) None = None
own_in (Some u) (Some r) = when (bytes_eq r.author u.name) OwnReview

unfoldable pub own_review : ℕ → Option User → Rows → Option Rule
own_review id user t = own_in user (review_of t id)

-- the user approved this review
unfoldable pub already_approved : ℕ → Option User → Rows → Option Rule
already_approved id None t = None
already_approved id (Some u) t = when (has_approved t id u.name) AlreadyApproved

-- fewer approvals than the policy needs
unfoldable pub too_few_approvals : ℕ → Rows → Option Rule
too_few_approvals id t = when (nat_lt (approvals_of t id) (needed t)) (TooFewApprovals (approvals_of t id) (needed t))

-- ---- what an accepted command changes

-- what the judge found: the first missing property, and the report
abbrev pub missing_of : JudgeAnswer → Option ℕ
missing_of (Judged missing report) = missing
missing_of _ = None

abbrev pub report_of : JudgeAnswer → List ℕ
report_of (Judged missing report) = report
report_of _ = []

-- the name of the user, if there is one
abbrev pub name_of : Option User → List ℕ
name_of None = []
name_of (Some u) = u.name

-- the next version of the policy
abbrev pub policy_row : Rows → ℕ → List ℕ → PolicyRow
policy_row t approvals book = record { version = version_of t + 1; approvals = approvals; book = book }

-- the next review, which is open
abbrev pub review_row : Rows → List ℕ → ℕ → List ℕ → ReviewRow
review_row t user base title = record { id = length t.reviews + 1; author = user; title = title; base = base; state = 0; head = 0 }

-- the certificate of what the judge found, under the present policy
abbrev pub certificate_row : Rows → ℕ → JudgeAnswer → CertificateRow
certificate_row t id a = record { review = id; policy = version_of t; missing = missing_of a; report = report_of a }

-- the tables where the command is done, but for what is kept of it
abbrev pub changed : Rows → List ℕ → JudgeAnswer → Command → Rows
changed t user a (SetPolicy approvals book) = record t { policies = t.policies ++ policy_row t approvals book ∷ [] }
changed t user a (Submit base title files) = record t { reviews = t.reviews ++ review_row t user base title ∷ []; files = t.files ++ map (file_row (length t.reviews + 1)) files }
changed t user a (Certify id) = record t { certificates = put nat_cmp certificate_key (certificate_row t id a) t.certificates }
changed t user a (Approve id) = record t { approvals = put numbered_cmp approval_key (record { review = id; user = user }) t.approvals }
changed t user a (Merge id) = record t { reviews = map (at_review id (merged (head_of t + 1))) t.reviews }
changed t user a (Withdraw id) = record t { reviews = map (at_review id withdrawn) t.reviews }

-- whether nothing is missing, as a text
abbrev pub certified_text : Option ℕ → List ℕ
certified_text None = codes "true"
certified_text (Some i) = codes "false"

-- the reply to the command: an object of JSON without blanks, its keys in byte order
abbrev pub reply_of : Rows → JudgeAnswer → Command → List ℕ
reply_of t a (SetPolicy approvals book) = codes "{\"policy\":" ++ (decimal (version_of t + 1) ++ codes "}")
reply_of t a (Submit base title files) = codes "{\"review\":" ++ (decimal (length t.reviews + 1) ++ codes "}")
reply_of t a (Certify id) = codes "{\"certified\":" ++ (certified_text (missing_of a) ++ (codes ",\"review\":" ++ (decimal id ++ codes "}")))
reply_of t a (Approve id) = codes "{\"approvals\":" ++ (decimal (approvals_of t id + 1) ++ (codes ",\"review\":" ++ (decimal id ++ codes "}")))
reply_of t a (Merge id) = codes "{\"head\":" ++ (decimal (head_of t + 1) ++ (codes ",\"review\":" ++ (decimal id ++ codes "}")))
reply_of t a (Withdraw id) = codes "{\"review\":" ++ (decimal id ++ codes ",\"state\":\"withdrawn\"}")

-- the number of the command's kind, and what it is about
abbrev pub kind_of : Command → ℕ
kind_of (SetPolicy approvals book) = 1
kind_of (Submit base title files) = 2
kind_of (Certify id) = 3
kind_of (Approve id) = 4
kind_of (Merge id) = 5
kind_of (Withdraw id) = 6

abbrev pub target_of : Rows → Command → ℕ
target_of t (SetPolicy approvals book) = version_of t + 1
target_of t (Submit base title files) = length t.reviews + 1
target_of t (Certify id) = id
target_of t (Approve id) = id
target_of t (Merge id) = id
target_of t (Withdraw id) = id

-- what is kept of the command
abbrev pub kept_row : Rows → List ℕ → Request → JudgeAnswer → KeptRow
kept_row t user r a = record { user = user; key = r.key; kind = kind_of r.command; target = target_of t r.command; reply = reply_of t a r.command }

-- the tables after the request is accepted
abbrev pub accepted : State → Request → JudgeAnswer → Rows
accepted s r a =
    let user = name_of (asker s r) in
    let after = changed s.tables user a r.command in
    record after { kept = put texts_cmp kept_key (kept_row s.tables user r a) after.kept }

-- the bytes kept afterwards would pass the limit; the number stops at the greatest of 64 bits
unfoldable pub over : ℕ → Option Rule
over bytes = when (nat_lt 268435456 bytes) (DeskFull (min bytes (2 ^ 64 - 1)))

abbrev pub desk_full : JudgeAnswer → Test
desk_full a s r = over (bytes_of (accepted s r a))

-- ---- the rules of each command, in order

-- those that are tried before the judge is asked
abbrev pub policy_early : ℕ → List Test
policy_early approvals =
    (λ s r. no_admin (asker s r))
    ∷ (λ s r. bad_approvals approvals)
    ∷ []

abbrev pub submit_early : ℕ → List Test
submit_early base =
    (λ s r. no_author (asker s r))
    ∷ (λ s r. stale_base base s.tables)
    ∷ []

abbrev pub certify_early : ℕ → List Test
certify_early id =
    (λ s r. no_certifier (asker s r))
    ∷ (λ s r. no_such_review id s.tables)
    ∷ (λ s r. closed id s.tables)
    ∷ (λ s r. stale id s.tables)
    ∷ []

abbrev pub approve_early : ℕ → List Test
approve_early id =
    (λ s r. no_approver (asker s r))
    ∷ (λ s r. no_such_review id s.tables)
    ∷ (λ s r. closed id s.tables)
    ∷ (λ s r. stale id s.tables)
    ∷ (λ s r. own_review id (asker s r) s.tables)
    ∷ (λ s r. already_approved id (asker s r) s.tables)
    ∷ []

abbrev pub merge_early : ℕ → List Test
merge_early id =
    (λ s r. no_author (asker s r))
    ∷ (λ s r. no_such_review id s.tables)
    ∷ (λ s r. closed id s.tables)
    ∷ (λ s r. stale id s.tables)
    ∷ (λ s r. not_certified id s.tables)
    ∷ (λ s r. too_few_approvals id s.tables)
    ∷ []

abbrev pub withdraw_early : ℕ → List Test
withdraw_early id =
    (λ s r. no_author (asker s r))
    ∷ (λ s r. no_such_review id s.tables)
    ∷ (λ s r. closed id s.tables)
    ∷ []

abbrev pub early : Command → List Test
early (SetPolicy approvals book) = policy_early approvals
early (Submit base title files) = submit_early base
early (Certify id) = certify_early id
early (Approve id) = approve_early id
early (Merge id) = merge_early id
early (Withdraw id) = withdraw_early id

-- and those that are tried behind it
abbrev pub policy_late : JudgeAnswer → List Test
policy_late a = (λ s r. refused_book a) ∷ desk_full a ∷ []

abbrev pub submit_late : JudgeAnswer → List Test
submit_late a = (λ s r. refused_bundle a) ∷ (λ s r. too_many_reviews s.tables) ∷ desk_full a ∷ []

abbrev pub certify_late : JudgeAnswer → List Test
certify_late a = (λ s r. refused_bundle a) ∷ (λ s r. over_cases a) ∷ (λ s r. refused_book a) ∷ desk_full a ∷ []

abbrev pub late : JudgeAnswer → Command → List Test
late a (SetPolicy approvals book) = policy_late a
late a (Submit base title files) = submit_late a
late a (Certify id) = certify_late a
late a (Approve id) = desk_full a ∷ []
late a (Merge id) = desk_full a ∷ []
late a (Withdraw id) = desk_full a ∷ []

abbrev pub own_rules : JudgeAnswer → Command → List Test
own_rules a command = early command ++ late a command

abbrev pub rules_of : JudgeAnswer → Command → List Test
rules_of a command = unknown_user ∷ key_reused ∷ own_rules a command

abbrev pub or_else : Option Rule → Option Rule → Option Rule
or_else None rest = rest
or_else (Some rule) rest = Some rule

-- the first rule that is broken
abbrev pub first_broken : List Test → State → Request → Option Rule
first_broken [] s r = None
first_broken (test ∷ tests) s r = or_else (test s r) (first_broken tests s r)

-- ---- the machine

-- the kept row of the same command, if there is one
abbrev pub if_same : Bool → KeptRow → Option KeptRow
if_same true k = Some k
if_same false k = None

abbrev pub repeated_in : Rows → Command → Option KeptRow → Option KeptRow
repeated_in t command None = None
repeated_in t command (Some k) = if_same (same_command t k command) k

abbrev pub repeated : State → Request → Option KeptRow
repeated s r = repeated_in s.tables r.command (kept_under s r)

-- what the machine answers: the kept reply, the first broken rule, or the next tables and a reply
pub data Outcome : Type 0 where
  Repeated : List ℕ → Outcome
  Refused : Rule → Outcome
  Accepted : Rows → List ℕ → Outcome

abbrev pub outcome : State → Request → JudgeAnswer → Option KeptRow → Option Rule → Outcome
outcome s r a (Some k) broken = Repeated k.reply
outcome s r a None (Some rule) = Refused rule
outcome s r a None None = Accepted (accepted s r a) (reply_of s.tables a r.command)

-- the step on a request, to which the judge gave this answer
abbrev pub step : State → Request → JudgeAnswer → Outcome
step s r a = outcome s r a (repeated s r) (first_broken (rules_of a r.command) s r)

-- the decision alone
abbrev pub decided : Rows → Option KeptRow → Option Rule → Decision
decided t (Some k) broken = DecisionRepeated (number_of t k)
decided t None (Some rule) = DecisionRefused rule
decided t None None = DecisionAccepted

abbrev pub decision : State → Request → JudgeAnswer → Decision
decision s r a = decided s.tables (repeated s r) (first_broken (rules_of a r.command) s r)

-- what the command asks of the judge
abbrev pub question : Command → Ask
question (SetPolicy approvals book) = AskBook
question (Submit base title files) = Bundle
question (Certify id) = Run
question (Approve id) = Nothing
question (Merge id) = Nothing
question (Withdraw id) = Nothing

-- it is asked where the command is not repeated, and no rule breaks that is tried before
abbrev pub asked : Option KeptRow → Option Rule → Ask → Ask
asked (Some k) broken ask = Nothing
asked None (Some rule) ask = Nothing
asked None None ask = ask

abbrev pub ask_of : State → Request → Ask
ask_of s r = asked (repeated s r) (first_broken (unknown_user ∷ key_reused ∷ early r.command) s r) (question r.command)

-- ---- the bytes that a command adds

abbrev pub size_of : SourceFile → ℕ
size_of f = length f.name + length f.text

abbrev pub cost_of : JudgeAnswer → Command → ℕ
cost_of a (SetPolicy approvals book) = length book + 512
cost_of a (Submit base title files) = sum_by size_of files + 512
cost_of a (Certify id) = length (report_of a) + 512
cost_of a (Approve id) = 512
cost_of a (Merge id) = 256
cost_of a (Withdraw id) = 256

-- and takes away: those of the certificate that is replaced
abbrev pub freed_by : Option CertificateRow → ℕ
freed_by None = 0
freed_by (Some c) = length c.report + 256

abbrev pub freed_of : Rows → Command → ℕ
freed_of t (Certify id) = freed_by (certificate_of t id)
freed_of t _ = 0

-- an approval is no second one
abbrev pub IsFirstApproval : Rows → List ℕ → Command → Type 0
IsFirstApproval t user (Approve id) = has_approved t id user ≡ false
IsFirstApproval t user _ = Unit {0}
