-- What is true of the machine.
use Rattle.std.specs.Prelude.{ℕ, ◌≡◌, ◌≤◌, ◌+◌, ◌↔◌, ◌⊎◌, true, List, [], ◌∷◌, Some, None}
use Rattle.desk_tables.specs.Tables.{kept_of, review_of, certificate_of, approvals_of, head_of, version_of, needed, bytes_of}
use Rattle.desk_tables.specs.Valid.{IsValid}
use Rattle.desk_tables.specs.declared.rows.User.{User}
use Rattle.desk_tables.specs.declared.rows.Rows.{Rows}
use Rattle.desk_tables.specs.declared.rows.ReviewRow.{ReviewRow}
use Rattle.desk_tables.specs.declared.rows.CertificateRow.{CertificateRow}
use Rattle.review_rules.specs.State.{State}
use Rattle.review_rules.specs.Rules.{Outcome, Repeated, Refused, Accepted, step, asker, decision}
use Rattle.review_rules.specs.Judging.{IsRequest, NamesProperty, Judging, IsJudging, judged}
use Rattle.review_rules.specs.declared.requests.Request.{Request}
use Rattle.review_rules.specs.declared.requests.Command.TheVariants.{Merge}
use Rattle.review_rules.specs.declared.requests.JudgeAnswer.{JudgeAnswer}
use Rattle.review_rules.specs.declared.requests.Decision.{Decision}
use Rattle.review_rules.specs.declared.requests.Decision.TheVariants.{Repeated as DecisionRepeated, Accepted as DecisionAccepted, Refused as DecisionRefused}

-- the machine accepts
abbrev pub IsAccepted : Outcome → Type 0
IsAccepted (Accepted t reply) = Unit {0}
IsAccepted _ = ⊥

-- what a merge asks for
pub record MayMerge (s : State) (r : Request) (id : ℕ) : Type 0 where
  -- an author asks, under a key that is new
  pub user : User
  pub known : asker s r ≡ Some user
  pub author : user.author ≡ true
  pub fresh : kept_of s.tables user.name r.key ≡ None
  -- the review is open, and stands on the head
  pub review : ReviewRow
  pub there : review_of s.tables id ≡ Some review
  pub unmerged : review.state ≡ 0
  pub current : review.base ≡ head_of s.tables
  -- it has a certificate of the policy's version, in which nothing is missing
  pub certificate : CertificateRow
  pub certified : certificate_of s.tables id ≡ Some certificate
  pub version : certificate.policy ≡ version_of s.tables
  pub complete : certificate.missing ≡ None
  -- as many approvals as the policy asks for
  pub approved : needed s.tables ≤ approvals_of s.tables id
  -- and there is room for what is kept of the merge
  pub room : bytes_of s.tables + 256 ≤ 268435456

-- a merge is accepted exactly where it has all that it asks for
abbrev pub MergesAreSound : Type 0
MergesAreSound = (s : State) (r : Request) (a : JudgeAnswer) (id : ℕ) → r.command ≡ Merge id → IsAccepted (step s r a) ↔ MayMerge s r id

-- a decision says which outcome the step has
abbrev pub IsDecided : Decision → Outcome → Type 0
IsDecided (DecisionRepeated number) (Repeated reply) = Unit {0}
IsDecided DecisionAccepted (Accepted t reply) = Unit {0}
IsDecided (DecisionRefused rule) (Refused other) = rule ≡ other
IsDecided _ _ = ⊥

abbrev pub DecisionsAreSteps : Type 0
DecisionsAreSteps = (s : State) (r : Request) (a : JudgeAnswer) → IsDecided (decision s r a) (step s r a)

-- the tables after an outcome: only an accepted request changes them
abbrev pub tables_after : Rows → Outcome → Rows
tables_after t (Accepted new reply) = new
tables_after t _ = t

-- valid tables stay valid
abbrev pub TablesStayValid : Type 0
TablesStayValid = (s : State) (r : Request) (a : JudgeAnswer) → IsValid s.tables → IsRequest r → NamesProperty a → IsValid (tables_after s.tables (step s r a))

-- the state after a request, and after requests, one after another
abbrev pub next : Judging → State → Request → State
next j s r = record s { tables = tables_after s.tables (judged j s r) }

abbrev pub run : Judging → State → List Request → State
run j s [] = s
run j s (r ∷ rs) = run j (next j s r) rs

-- the request is one of these
abbrev pub IsOneOf : Request → List Request → Type 0
IsOneOf r [] = ⊥
IsOneOf r (q ∷ qs) = (q ≡ r) ⊎ IsOneOf r qs

-- the accepted requests so far
abbrev pub with_accepted : Request → Outcome → List Request → List Request
with_accepted r (Accepted t reply) past = r ∷ past
with_accepted r _ past = past

-- from this state and these accepted requests on, the short list is the long one without some repeats of accepted
-- requests
abbrev pub LeavesOutRepeats : Judging → State → List Request → List Request → List Request → Type 0
LeavesOutRepeats j s past [] short = short ≡ []
LeavesOutRepeats j s past (r ∷ long) short =
    (IsOneOf r past × LeavesOutRepeats j s past long short)
    ⊎ ((rest : List Request) × (short ≡ r ∷ rest) × LeavesOutRepeats j (next j s r) (with_accepted r (judged j s r) past) long rest)

abbrev pub AreRequests : List Request → Type 0
AreRequests [] = Unit {0}
AreRequests (r ∷ rs) = IsRequest r × AreRequests rs

-- requests with repeats of accepted ones leave the state that they leave without them
abbrev pub RepeatsChangeNothing : Type 0
RepeatsChangeNothing = (j : Judging) (s : State) (long short : List Request) → IsJudging j → IsValid s.tables → AreRequests long → LeavesOutRepeats j s [] long short → run j s long ≡ run j s short

-- a request that is repeated is repeated at every later state, with the same reply
abbrev pub KeptRepliesStay : Type 0
KeptRepliesStay = (j : Judging) (s : State) (r : Request) (reply : List ℕ) (later : List Request) → IsJudging j → IsValid s.tables → AreRequests later → judged j s r ≡ Repeated reply → judged j (run j s later) r ≡ Repeated reply

-- a request that is accepted, asked again, is repeated with its reply
abbrev pub AcceptedAreKept : Type 0
AcceptedAreKept = (j : Judging) (s : State) (r : Request) (tables : Rows) (reply : List ℕ) → IsValid s.tables → judged j s r ≡ Accepted tables reply → judged j (next j s r) r ≡ Repeated reply
