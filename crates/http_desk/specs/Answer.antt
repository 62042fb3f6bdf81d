-- The answer to a conversation: its reply, and the state of the desk afterwards.
use Rattle.std.specs.Prelude.{◌≡◌, ℕ, List, [], Option, Some, None, Result, Ok, Err}
use Rattle.net_types.specs.declared.config.SourceFile.{SourceFile}
use Rattle.desk_tables.specs.Tables.{user_of, review_of, certificate_of}
use Rattle.desk_tables.specs.declared.rows.Rows.{Rows}
use Rattle.desk_tables.specs.declared.rows.User.{User}
use Rattle.desk_tables.specs.declared.rows.ReviewRow.{ReviewRow}
use Rattle.desk_tables.specs.declared.rows.CertificateRow.{CertificateRow}
use Rattle.review_rules.specs.State.{State}
use Rattle.review_rules.specs.Rules.{Outcome, Repeated, Refused, Accepted}
use Rattle.review_rules.specs.Laws.{IsAccepted}
use Rattle.review_rules.specs.Judging.{Judging, judged, bundle_of, head_bundle}
use Rattle.review_rules.specs.declared.requests.BundleSide.{BundleSide}
use Rattle.review_rules.specs.declared.requests.BundleSide.TheVariants.{Base, New}
use Rattle.review_rules.specs.declared.requests.Lack.TheVariants.{NotRun}
use Rattle.review_rules.specs.declared.requests.Command.{Command}
use Rattle.review_rules.specs.declared.requests.Command.TheVariants.{Submit, Certify}
use Rattle.review_rules.specs.declared.requests.Rule.{Rule}
use Rattle.review_rules.specs.declared.requests.Rule.TheVariants.{UnknownUser, NoSuchReview, NotCertified, BundleRefused}
use Rattle.desk_requests.specs.Asks.{Asks}
use Rattle.desk_requests.specs.declared.refusals.HttpRefusal.{HttpRefusal}
use Rattle.desk_requests.specs.declared.requests.Asked.{Asked}
use Rattle.desk_requests.specs.declared.requests.Asked.TheVariants.{Query as AskedQuery, Command as AskedCommand}
use Rattle.desk_requests.specs.declared.requests.Query.{Query}
use Rattle.desk_requests.specs.declared.requests.Query.TheVariants.{Head, Review, Report}
use Rattle.desk_replies.specs.declared.giving.Media.{Media}
use Rattle.desk_replies.specs.declared.giving.Media.TheVariants.{Json, Plain}
use Rattle.desk_replies.specs.Replies.{http_code, http_body}
use Rattle.desk_replies.specs.RuleWords.{rule_code, rule_body}
use Rattle.desk_replies.specs.Views.{head_body, review_body}

-- a reply by its code, the kind of its body and the body, and the state afterwards
pub record Answered : Type 0 where
  pub code : ℕ
  pub media : Media
  pub body : List ℕ
  pub next : State

-- ---- a rule that breaks

-- the side of which the rule refuses the bundle, and its files, by which the reply names them
abbrev pub refused_side : Rule → Option BundleSide
refused_side (BundleRefused side refusal) = Some side
refused_side _ = None

abbrev pub new_files : Rows → Command → List SourceFile
new_files t (Submit base title files) = files
new_files t (Certify id) = bundle_of t id
new_files t _ = []

abbrev pub side_files : Rows → Command → Option BundleSide → List SourceFile
side_files t command None = []
side_files t command (Some Base) = head_bundle t
side_files t command (Some New) = new_files t command

abbrev pub broken : State → List SourceFile → Rule → Answered
broken s files rule = record { code = rule_code rule; media = Json; body = rule_body files rule; next = s }

-- ---- what is asked of the desk as it is: rule 1, rule 4, and for a report rule 10

abbrev pub told : State → Media → List ℕ → Answered
told s media body = record { code = 200; media = media; body = body; next = s }

abbrev pub report_of : State → Option CertificateRow → Answered
report_of s None = broken s [] (NotCertified NotRun)
report_of s (Some c) = told s Plain c.report

abbrev pub about_review : State → Option ReviewRow → Answered
about_review s None = broken s [] NoSuchReview
about_review s (Some r) = told s Json (review_body s.tables r)

abbrev pub about_report : State → ℕ → Option ReviewRow → Answered
about_report s id None = broken s [] NoSuchReview
about_report s id (Some r) = report_of s (certificate_of s.tables id)

abbrev pub shown : State → Query → Answered
shown s Head = told s Json (head_body s.tables)
shown s (Review id) = about_review s (review_of s.tables id)
shown s (Report id) = about_report s id (review_of s.tables id)

abbrev pub shown_to : State → Option User → Query → Answered
shown_to s None query = broken s [] UnknownUser
shown_to s (Some user) query = shown s query

-- ---- a command

abbrev pub performed : State → Command → Outcome → Answered
performed s command (Repeated reply) = told s Json reply
performed s command (Refused rule) = broken s (side_files s.tables command (refused_side rule)) rule
performed s command (Accepted tables reply) = record { code = 200; media = Json; body = reply; next = record { users = s.users; tables = tables } }

-- ---- the answer

-- the answer to what was asked, with a judge of this meaning
abbrev pub answered : Judging → State → Result Asked HttpRefusal → Answered
answered j s (Err refusal) = record { code = http_code refusal; media = Json; body = http_body refusal; next = s }
answered j s (Ok (AskedQuery token query)) = shown_to s (user_of s.users token) query
answered j s (Ok (AskedCommand request)) = performed s request.command (judged j s request)

-- the answer to the bytes of a conversation
abbrev pub Answer : Judging → State → List ℕ → Answered → Type 0
Answer j s input answer = (a : Result Asked HttpRefusal) × Asks input a × (answered j s a ≡ answer)

-- a new command is asked for and accepted
abbrev pub AsksNew : Judging → State → Result Asked HttpRefusal → Type 0
AsksNew j s (Err refusal) = ⊥
AsksNew j s (Ok (AskedQuery token query)) = ⊥
AsksNew j s (Ok (AskedCommand request)) = IsAccepted (judged j s request)

abbrev pub AnswersNew : Judging → State → List ℕ → Type 0
AnswersNew j s input = (a : Result Asked HttpRefusal) × Asks input a × AsksNew j s a
