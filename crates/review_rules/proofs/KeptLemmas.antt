-- A reply that is kept is given again at each later state.
use Rattle.std.proofs.Common.{◌≡◌, ℕ, Bool, true, false, List, [], ◌∷◌, Option, Some, None, refl, sym, ap, ◌∙◌, subst}
use Rattle.desk_tables.specs.declared.rows.User.{User}
use Rattle.desk_tables.specs.declared.rows.Rows.{Rows}
use Rattle.desk_tables.specs.declared.rows.KeptRow.{KeptRow}
use Rattle.desk_tables.specs.Tables.{kept_of}
use Rattle.desk_tables.specs.Valid.{IsValid}
use Rattle.review_rules.specs.State.{State}
use Rattle.review_rules.specs.declared.requests.Request.{Request}
use Rattle.review_rules.specs.declared.requests.JudgeAnswer.{JudgeAnswer}
use Rattle.review_rules.specs.declared.requests.Rule.{Rule}
use Rattle.review_rules.specs.Rules.{Outcome, Repeated, Refused, Accepted, step, accepted, asker, kept_for, kept_row, name_of, same_command, if_same, repeated_in, repeated, outcome, reply_of, rules_of, first_broken}
use Rattle.review_rules.specs.Judging.{Judging, IsJudging, answer_of, judged}
use Rattle.review_rules.specs.Laws.{IsAccepted, tables_after, next, run, AreRequests}
use Rattle.review_rules.proofs.AcceptLemmas.{IsPassed, accepted_passes, passed_accepts}
use Rattle.review_rules.proofs.ValidLemmas.{tables_stay_valid, accepted_same}
use Rattle.review_rules.proofs.RepeatLemmas.{IsDone, done_now, done_still, answer_names}

-- the request was accepted, and got this reply
pub record IsKept (s : State) (q : Request) (reply : List ℕ) : Type 0 where
  pub row : KeptRow
  pub done : IsDone s q row
  pub replied : row.reply ≡ reply

repeated_same : {a b : List ℕ} → Repeated a ≡ Repeated b → a ≡ b
repeated_same h = cc

reply_same : {t u : Rows} {a b : List ℕ} → Accepted t a ≡ Accepted u b → a ≡ b
reply_same h = cc

row_same : {k l : KeptRow} → Some k ≡ Some l → k ≡ l
row_same h = cc

-- what is kept is repeated
pub kept_repeats : (s : State) (q : Request) (reply : List ℕ) (a : JudgeAnswer) → IsKept s q reply → step s q a ≡ Repeated reply
kept_repeats s q reply a k =
    let once : repeated s q ≡ Some k.row = rw (k.done.asks, k.done.kept, k.done.same) refl in
    by_row (repeated s q) (first_broken (rules_of a q.command) s q) once
  where
    by_row : (o : Option KeptRow) (broken : Option Rule) → o ≡ Some k.row → outcome s q a o broken ≡ Repeated reply
    by_row None broken is = absurd (cc)
    by_row (Some l) broken is = ap (λ x. Repeated x.reply) (row_same is) ∙ ap Repeated k.replied

-- and what is repeated is kept
pub repeated_is_kept : (s : State) (q : Request) (reply : List ℕ) (a : JudgeAnswer) → step s q a ≡ Repeated reply → IsKept s q reply
repeated_is_kept s q reply a is = by_user (asker s q) refl (first_broken (rules_of a q.command) s q) is
  where
    by_same : (u : User) → asker s q ≡ Some u → (k : KeptRow) → kept_of s.tables u.name q.key ≡ Some k → (b : Bool) → same_command s.tables k q.command ≡ b → (broken : Option Rule) → outcome s q a (if_same b k) broken ≡ Repeated reply → IsKept s q reply
    by_same u asks k kept true same broken is = record { row = k; done = record { user = u; asks = asks; kept = kept; same = same }; replied = repeated_same is }
    by_same u asks k kept false same None is = absurd (cc)
    by_same u asks k kept false same (Some rule) is = absurd (cc)

    by_row : (u : User) → asker s q ≡ Some u → (o : Option KeptRow) → kept_of s.tables u.name q.key ≡ o → (broken : Option Rule) → outcome s q a (repeated_in s.tables q.command o) broken ≡ Repeated reply → IsKept s q reply
    by_row u asks None kept None is = absurd (cc)
    by_row u asks None kept (Some rule) is = absurd (cc)
    by_row u asks (Some k) kept broken is = by_same u asks k kept (same_command s.tables k q.command) refl broken is

    by_user : (o : Option User) → asker s q ≡ o → (broken : Option Rule) → outcome s q a (repeated_in s.tables q.command (kept_for s.tables q.key o)) broken ≡ Repeated reply → IsKept s q reply
    by_user None asks None is = absurd (cc)
    by_user None asks (Some rule) is = absurd (cc)
    by_user (Some u) asks broken is = by_row u asks (kept_of s.tables u.name q.key) refl broken is

-- an accepted request keeps the reply that it got
kept_now : (s : State) (r : Request) (a : JudgeAnswer) → IsValid s.tables → IsPassed s r a → IsKept (record s { tables = accepted s r a }) r (reply_of s.tables a r.command)
kept_now s r a v p = record { row = kept_row s.tables (name_of (asker s r)) r a; done = done_now s r a v p; replied = refl }

-- and leaves the rows that are kept
kept_still : (s : State) (q r : Request) (reply : List ℕ) (a : JudgeAnswer) → IsValid s.tables → IsPassed s r a → IsKept s q reply → IsKept (record s { tables = accepted s r a }) q reply
kept_still s q r reply a v p k = record { row = k.row; done = done_still s q r a k.row v p k.done; replied = k.replied }

-- what is kept stays so after a request
kept_after : (s : State) (q r : Request) (reply : List ℕ) (a : JudgeAnswer) → IsValid s.tables → IsKept s q reply → IsKept (record s { tables = tables_after s.tables (step s r a) }) q reply
kept_after s q r reply a v k = by_outcome (step s r a) refl
  where
    by_outcome : (o : Outcome) → step s r a ≡ o → IsKept (record s { tables = tables_after s.tables o }) q reply
    by_outcome (Repeated again) is = k
    by_outcome (Refused rule) is = k
    by_outcome (Accepted t new) is =
        let passed = accepted_passes s r a (subst IsAccepted (sym is) tt) in
        let same : accepted s r a ≡ t = accepted_same (sym (passed_accepts s r a passed) ∙ is) in
        subst (λ u. IsKept (record s { tables = u }) q reply) same (kept_still s q r reply a v passed k)

kept_later : (j : Judging) (s : State) (q : Request) (reply : List ℕ) (later : List Request) → IsJudging j → IsValid s.tables → AreRequests later → IsKept s q reply → IsKept (run j s later) q reply
kept_later j s q reply [] well v requests k = k
kept_later j s q reply (r ∷ later) well v requests k =
    let a = answer_of j s r in
    kept_later j (next j s r) q reply later well (tables_stay_valid s r a v requests.0 (answer_names j s r well)) requests.1 (kept_after s q r reply a v k)

pub kept_replies_stay : (j : Judging) (s : State) (r : Request) (reply : List ℕ) (later : List Request) → IsJudging j → IsValid s.tables → AreRequests later → judged j s r ≡ Repeated reply → judged j (run j s later) r ≡ Repeated reply
kept_replies_stay j s r reply later well v requests is =
    kept_repeats (run j s later) r reply (answer_of j (run j s later) r) (kept_later j s r reply later well v requests (repeated_is_kept s r reply (answer_of j s r) is))

pub accepted_are_kept : (j : Judging) (s : State) (r : Request) (tables : Rows) (reply : List ℕ) → IsValid s.tables → judged j s r ≡ Accepted tables reply → judged j (next j s r) r ≡ Repeated reply
accepted_are_kept j s r tables reply v is =
    let a = answer_of j s r in
    let passed = accepted_passes s r a (subst IsAccepted (sym is) tt) in
    let accepts : Accepted (accepted s r a) (reply_of s.tables a r.command) ≡ Accepted tables reply = sym (passed_accepts s r a passed) ∙ is in
    let kept = subst (λ t. IsKept (record s { tables = t }) r (reply_of s.tables a r.command)) (accepted_same accepts) (kept_now s r a v passed) in
    let replied = subst (IsKept (record s { tables = tables }) r) (reply_same accepts) kept in
    let after' = subst (λ o. IsKept (record s { tables = tables_after s.tables o }) r reply) (sym is) replied in
    kept_repeats (next j s r) r reply (answer_of j (next j s r) r) after'
