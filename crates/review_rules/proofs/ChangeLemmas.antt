-- What a change makes of the tables and of what a desk knows of them.
use Rattle.std.proofs.Common.{◌≡◌, ◌≢◌, ℕ, ◌+◌, ◌-◌, ◌^◌, ◌≤◌, Bool, true, false, List, [], ◌∷◌, ◌++◌, length, map, find, min, ◌&&◌, ◌==◌, Option, Some, None, refl, sym, ap, ◌∙◌, subst, arith, length-append, append_assoc, slice_get}
use Rattle.std.specs.List.{All}
use Rattle.std.specs.Str.{bytes_eq}
use Rattle.std.proofs.lemmas.Bool.Decides.{nat_tests}
use Rattle.desk_tables.specs.declared.rows.User.{User}
use Rattle.desk_tables.specs.declared.rows.Rows.{Rows}
use Rattle.desk_tables.specs.declared.rows.ReviewRow.{ReviewRow}
use Rattle.desk_tables.specs.declared.rows.FileRow.{FileRow}
use Rattle.desk_tables.specs.declared.rows.KeptRow.{KeptRow}
use Rattle.review_rules.specs.State.{State}
use Rattle.review_rules.specs.declared.requests.Request.{Request}
use Rattle.review_rules.specs.declared.requests.Command.{Command}
use Rattle.review_rules.specs.declared.requests.Command.TheVariants.{SetPolicy, Submit, Certify, Approve, Merge, Withdraw}
use Rattle.review_rules.specs.declared.requests.JudgeAnswer.{JudgeAnswer}
use Rattle.review_rules.specs.declared.requests.Rule.{Rule}
use Rattle.desk_tables.specs.Order.{Ascends, put, texts_cmp, numbered_cmp}
use Rattle.desk_tables.specs.Tables.{has_head, number_in, merged_of, is_merged, has_approved, kept_of, kept_key, file_key, policy_key, review_key, head_of, bytes_of, at_review, merged, withdrawn}
use Rattle.desk_tables.specs.Valid.{IsValid, IsReview, IsDesk}
use Rattle.desk_tables.proofs.TableLemmas.{numbered_total}
use Rattle.desk_tables.proofs.PlaceLemmas.{append_nil, put_last, put_next, ascends_before}
use Rattle.review_rules.specs.Rules.{Accepted, step, accepted, asker, name_of, first_broken, own_rules, changed, kept_row, reply_of, already_approved, over, IsFirstApproval, decision, decided, outcome, repeated, rules_of, Refused}
use Rattle.review_rules.specs.Changes.{put_all, with_kind, made, kind_for, change_for, heads_of, IsOpenAt, IsNewKind, CanBeMade, kind_cost, kind_freed}
use Rattle.review_rules.specs.Judging.{IsRequest, NamesProperty}
use Rattle.review_rules.specs.Laws.{IsAccepted, IsDecided}
use Rattle.review_rules.specs.declared.changes.Change.{Change}
use Rattle.review_rules.specs.declared.changes.ChangeKind.{ChangeKind}
use Rattle.review_rules.specs.declared.changes.ChangeKind.TheVariants.{Policy, Review, Certificate, Approval, Merge as MergeKind, Withdraw as WithdrawKind}
use Rattle.review_rules.specs.declared.requests.Decision.TheVariants.{Accepted as DecisionAccepted, Refused as DecisionRefused}
use Rattle.review_rules.proofs.RuleLemmas.{plain, IsFreshKind, bytes_plain, bytes_kept}
use Rattle.review_rules.proofs.AcceptLemmas.{IsPassed, accepted_passes, all_none, when_none, has_room}
use Rattle.review_rules.proofs.IndexLemmas.{get_last, get_other, index_pushed, index_withdrawn, index_merged_other, index_merged_top}
use Rattle.review_rules.proofs.ValidLemmas.{CanChange, stands_at, valid_changed, valid_accepted, passed_can, head_merged, count_pushed, count_withdrawn}

-- files behind all others are put at the end
put_all_last : (fs xs : List FileRow) → Ascends numbered_cmp file_key (xs ++ fs) → put_all fs xs ≡ xs ++ fs
put_all_last [] xs sorted = sym (append_nil xs)
put_all_last (f ∷ fs) xs sorted =
    let here : put numbered_cmp file_key f xs ≡ xs ++ f ∷ [] = put_last numbered_cmp file_key f numbered_total xs (ascends_before numbered_cmp file_key xs fs f sorted) in
    let same : (xs ++ f ∷ []) ++ fs ≡ xs ++ f ∷ fs = append_assoc xs (f ∷ []) fs in
    ap (put_all fs) here ∙ put_all_last fs (xs ++ f ∷ []) (subst (Ascends numbered_cmp file_key) (sym same) sorted) ∙ same

-- a change whose rows are new puts them behind all others
pub kind_plain : (t : Rows) (kind : ChangeKind) → IsValid t → IsNewKind kind t → with_kind kind t ≡ plain kind t
kind_plain t (Policy row) v new = rw (put_next policy_key row t.policies v.versions new) refl
kind_plain t (Review row files) v new = rw (put_next review_key row t.reviews v.numbers new.0, put_all_last files t.files new.2) refl
kind_plain t (Certificate row) v new = refl
kind_plain t (Approval row) v new = refl
kind_plain t (MergeKind review head) v new = refl
kind_plain t (WithdrawKind review) v new = refl

pub fresh_kind : (t : Rows) (kind : ChangeKind) → IsNewKind kind t → IsFreshKind kind t
fresh_kind t (Policy row) new = tt
fresh_kind t (Review row files) new = tt
fresh_kind t (Certificate row) new = tt
fresh_kind t (Approval row) new = new
fresh_kind t (MergeKind review head) new = tt
fresh_kind t (WithdrawKind review) new = tt

-- it leaves what is kept
kept_plain : (t : Rows) (kind : ChangeKind) → (with_kind kind t).kept ≡ t.kept
kept_plain t (Policy row) = refl
kept_plain t (Review row files) = refl
kept_plain t (Certificate row) = refl
kept_plain t (Approval row) = refl
kept_plain t (MergeKind review head) = refl
kept_plain t (WithdrawKind review) = refl

-- the tables where a change is made
pub made_is : (t : Rows) (change : Change) → IsValid t → IsNewKind change.kind t → made change t ≡ record (plain change.kind t) { kept = put texts_cmp kept_key change.kept t.kept }
made_is t change v new = ap (λ (u : Rows). record u { kept = put texts_cmp kept_key change.kept u.kept }) (kind_plain t change.kind v new) ∙ ap (λ ks. record (plain change.kind t) { kept = put texts_cmp kept_key change.kept ks }) (plain_kept change.kind)
  where
    plain_kept : (kind : ChangeKind) → (plain kind t).kept ≡ t.kept
    plain_kept (Policy row) = refl
    plain_kept (Review row files) = refl
    plain_kept (Certificate row) = refl
    plain_kept (Approval row) = refl
    plain_kept (MergeKind review head) = refl
    plain_kept (WithdrawKind review) = refl

-- the bytes kept after it
pub bytes_made : (t : Rows) (change : Change) → IsValid t → IsNewKind change.kind t → kept_of t change.kept.user change.kept.key ≡ None → bytes_of (made change t) ≡ bytes_of t - kind_freed t change.kind + kind_cost change.kind
bytes_made t change v new fresh =
    let u = with_kind change.kind t in
    let same : kept_of u change.kept.user change.kept.key ≡ None = ap (find (λ k. bytes_eq k.user change.kept.user && bytes_eq k.key change.kept.key)) (kept_plain t change.kind) ∙ fresh in
    bytes_kept u change.kept same ∙ ap (λ w. bytes_of w + 256) (kind_plain t change.kind v new) ∙ bytes_plain t change.kind v (fresh_kind t change.kind new)

-- ---- which review is merged as which head

-- what a desk knows of the heads
pub record HasHeads (t : Rows) (merges : List ℕ) : Type 0 where
  pub count : length merges ≡ head_of t
  pub each : (at : ℕ) → slice_get merges at ≡ merged_of t (at + 1)

same_heads : (t : Rows) (merges : List ℕ) → HasHeads t merges → HasHeads t (merges ++ [])
same_heads t merges has = subst (HasHeads t) (sym (append_nil merges)) has

-- the same reviews, but for rows that are merged as no head
like_heads : (t u : Rows) (merges : List ℕ) → head_of u ≡ head_of t → ((head : ℕ) → find (has_head head) u.reviews ≡ find (has_head head) t.reviews) → HasHeads t merges → HasHeads u (merges ++ [])
like_heads t u merges count each has = same_heads u merges (record { count = has.count ∙ sym count; each = λ at. has.each at ∙ sym (ap number_in (each (at + 1))) })

heads_submitted : (t : Rows) (row : ReviewRow) (files : List FileRow) (merges : List ℕ) → row.state ≡ 0 → HasHeads t merges → HasHeads (plain (Review row files) t) (merges ++ [])
heads_submitted t row files merges open' has =
    let no : is_merged row ≡ false = grind (arith, nat_tests, open') in
    like_heads t (plain (Review row files) t) merges (count_pushed is_merged t.reviews row no) (λ head. index_pushed t.reviews row head open') has

heads_withdrawn : (t : Rows) (id : ℕ) (merges : List ℕ) → IsValid t → IsOpenAt t id → HasHeads t merges → HasHeads (plain (WithdrawKind id) t) (merges ++ [])
heads_withdrawn t id merges v open' has =
    let review = open'.0 in
    let no : is_merged review ≡ false = grind (arith, nat_tests, open'.2) in
    let at = stands_at id 1 withdrawn review t.reviews v.numbers open'.1 in
    like_heads t (plain (WithdrawKind id) t) merges (count_withdrawn is_merged t id review v open'.1 no refl) (λ head. ap (find (has_head head)) at.altered ∙ index_withdrawn at.front at.back review head open'.2 ∙ sym (ap (find (has_head head)) at.is)) has

heads_merge : (t : Rows) (id : ℕ) (merges : List ℕ) → IsValid t → IsOpenAt t id → HasHeads t merges → HasHeads (plain (MergeKind id (head_of t + 1)) t) (merges ++ id ∷ [])
heads_merge t id merges v open' has =
    let review = open'.0 in
    let more = head_merged t id review v open'.1 open'.2 in
    record {
      count = omega (arith, length-append merges (id ∷ []), has.count, more);
      each = λ k. by_place k (k == length merges) refl;
    }
  where
    by_place : (k : ℕ) (b : Bool) → (k == length merges) ≡ b → slice_get (merges ++ id ∷ []) k ≡ number_in (find (has_head (k + 1)) (map (at_review id (merged (head_of t + 1))) t.reviews))
    by_place k true here =
        let at = stands_at id 1 (merged (head_of t + 1)) open'.0 t.reviews v.numbers open'.1 in
        let last : k ≡ length merges = grind (arith, nat_tests) in
        let same : k + 1 ≡ head_of t + 1 = omega (arith, last, has.count) in
        let found = ap (find (has_head (k + 1))) at.altered ∙ index_merged_top (head_of t) at.front at.back open'.0 (head_of t + 1) (k + 1) (subst (All (IsReview (head_of t))) at.is v.reviews) (omega arith) same in
        get_last merges id k last ∙ ap Some (sym at.number) ∙ sym (ap number_in found)
    by_place k false here =
        let at = stands_at id 1 (merged (head_of t + 1)) open'.0 t.reviews v.numbers open'.1 in
        let apart : k ≢ length merges = grind (arith, nat_tests) in
        let other : k + 1 ≢ head_of t + 1 = λ same. apart (omega (arith, same, has.count)) in
        let found = ap (find (has_head (k + 1))) at.altered ∙ index_merged_other at.front at.back open'.0 (head_of t + 1) (k + 1) open'.2 other ∙ sym (ap (find (has_head (k + 1))) at.is) in
        get_other merges id k apart ∙ has.each k ∙ sym (ap number_in found)

heads_plain : (t : Rows) (kind : ChangeKind) (merges : List ℕ) → IsValid t → IsNewKind kind t → HasHeads t merges → HasHeads (plain kind t) (merges ++ heads_of kind)
heads_plain t (Policy row) merges v new has = like_heads t (plain (Policy row) t) merges refl (λ head. refl) has
heads_plain t (Review row files) merges v new has = heads_submitted t row files merges new.1 has
heads_plain t (Certificate row) merges v new has = like_heads t (plain (Certificate row) t) merges refl (λ head. refl) has
heads_plain t (Approval row) merges v new has = like_heads t (plain (Approval row) t) merges refl (λ head. refl) has
heads_plain t (MergeKind review head) merges v new has = subst (λ h. HasHeads (plain (MergeKind review h) t) (merges ++ review ∷ [])) (sym new.0) (heads_merge t review merges v new.1 has)
heads_plain t (WithdrawKind review) merges v new has = heads_withdrawn t review merges v new has

-- what a desk knows of the tables after a change
pub desk_made : (t : Rows) (change : Change) (merges : List ℕ) (old new : ℕ) → IsDesk t merges old → CanBeMade change t → new ≡ bytes_of (made change t) → IsDesk (made change t) (merges ++ heads_of change.kind) new
desk_made t change merges old new d can sum =
    let is = made_is t change d.valid can.rows in
    let has = heads_plain t change.kind merges d.valid can.rows (record { count = d.count; each = d.heads }) in
    let count : head_of (made change t) ≡ head_of (plain change.kind t) = ap head_of is in
    record {
      valid = can.after;
      count = has.count ∙ sym count;
      heads = λ at. has.each at ∙ sym (ap (λ (u : Rows). merged_of u (at + 1)) is);
      sum = capped new (bytes_of (made change t)) sum can.room;
    }
  where
    capped : (new n : ℕ) → new ≡ n → n ≤ 268435456 → new ≡ min n (2 ^ 128 - 1)
    capped new n is room = omega arith

-- ---- an accepted request

-- the rows of an accepted command are new
new_kind : (t : Rows) (user : List ℕ) (a : JudgeAnswer) (command : Command) → IsValid t → CanChange t a command → IsFirstApproval t user command → IsNewKind (kind_for t user a command) t
new_kind t user a (SetPolicy approvals book) v can first = refl
new_kind t user a (Submit base title files) v can first = (refl, refl, (valid_changed t user a (Submit base title files) v can).files_ascend)
new_kind t user a (Certify id) v can first = tt
new_kind t user a (Approve id) v can first = first
new_kind t user a (Merge id) v can first = (refl, (can.0, can.1, can.2))
new_kind t user a (Withdraw id) v can first = (can.0, can.1, can.2)

-- the change of a command makes what the command does
plain_changed : (t : Rows) (user : List ℕ) (a : JudgeAnswer) (command : Command) → plain (kind_for t user a command) t ≡ changed t user a command
plain_changed t user a (SetPolicy approvals book) = refl
plain_changed t user a (Submit base title files) = refl
plain_changed t user a (Certify id) = refl
plain_changed t user a (Approve id) = refl
plain_changed t user a (Merge id) = refl
plain_changed t user a (Withdraw id) = refl

first_of : (id : ℕ) (t : Rows) (u : User) → already_approved id (Some u) t ≡ None → has_approved t id u.name ≡ false
unfolding already_approved
first_of id t u passed = when_none _ _ passed

-- an approval that passes is a first one
passed_first : (s : State) (r : Request) (a : JudgeAnswer) (u : User) (command : Command) → asker s r ≡ Some u → first_broken (own_rules a command) s r ≡ None → IsFirstApproval s.tables u.name command
passed_first s r a u (SetPolicy approvals book) asks passed = tt
passed_first s r a u (Submit base title files) asks passed = tt
passed_first s r a u (Certify id) asks passed = tt
passed_first s r a u (Approve id) asks passed =
    let all = all_none (own_rules a (Approve id)) s r passed in
    first_of id s.tables u (subst (λ o. already_approved id o s.tables ≡ None) asks all.1.1.1.1.1.0)
passed_first s r a u (Merge id) asks passed = tt
passed_first s r a u (Withdraw id) asks passed = tt

room_of : (s : State) (r : Request) (a : JudgeAnswer) (command : Command) → first_broken (own_rules a command) s r ≡ None → over (bytes_of (accepted s r a)) ≡ None
room_of s r a (SetPolicy approvals book) passed = (all_none (own_rules a (SetPolicy approvals book)) s r passed).1.1.1.0
room_of s r a (Submit base title files) passed = (all_none (own_rules a (Submit base title files)) s r passed).1.1.1.1.0
room_of s r a (Certify id) passed = (all_none (own_rules a (Certify id)) s r passed).1.1.1.1.1.1.1.0
room_of s r a (Approve id) passed = (all_none (own_rules a (Approve id)) s r passed).1.1.1.1.1.1.0
room_of s r a (Merge id) passed = (all_none (own_rules a (Merge id)) s r passed).1.1.1.1.1.1.0
room_of s r a (Withdraw id) passed = (all_none (own_rules a (Withdraw id)) s r passed).1.1.1.0

-- what is decided is what the machine does
accepted_step : (s : State) (r : Request) (a : JudgeAnswer) (k : Option KeptRow) (broken : Option Rule) → decided s.tables k broken ≡ DecisionAccepted → outcome s r a k broken ≡ Accepted (accepted s r a) (reply_of s.tables a r.command)
accepted_step s r a (Some k) broken is = absurd (cc)
accepted_step s r a None (Some rule) is = absurd (cc)
accepted_step s r a None None is = refl

pub decision_accepts : (s : State) (r : Request) (a : JudgeAnswer) → decision s r a ≡ DecisionAccepted → step s r a ≡ Accepted (accepted s r a) (reply_of s.tables a r.command)
decision_accepts s r a is = accepted_step s r a (repeated s r) (first_broken (rules_of a r.command) s r) is

refused_step : (s : State) (r : Request) (a : JudgeAnswer) (k : Option KeptRow) (broken : Option Rule) (rule : Rule) → decided s.tables k broken ≡ DecisionRefused rule → outcome s r a k broken ≡ Refused rule
refused_step s r a (Some k) broken rule is = absurd (cc)
refused_step s r a None (Some other) rule is = ap Refused cc
refused_step s r a None None rule is = absurd (cc)

pub decision_refuses : (s : State) (r : Request) (a : JudgeAnswer) (rule : Rule) → decision s r a ≡ DecisionRefused rule → step s r a ≡ Refused rule
decision_refuses s r a rule is = refused_step s r a (repeated s r) (first_broken (rules_of a r.command) s r) rule is

pub passed_of : (s : State) (r : Request) (a : JudgeAnswer) → decision s r a ≡ DecisionAccepted → IsPassed s r a
passed_of s r a is = accepted_passes s r a (subst IsAccepted (sym (decision_accepts s r a is)) tt)

-- the change of an accepted request can be made, and makes the machine's tables
pub record MakesStep (s : State) (r : Request) (a : JudgeAnswer) : Type 0 where
  pub can : CanBeMade (change_for s r a) s.tables
  pub made : made (change_for s r a) s.tables ≡ accepted s r a

pub makes_step : (s : State) (r : Request) (a : JudgeAnswer) → IsValid s.tables → IsRequest r → NamesProperty a → decision s r a ≡ DecisionAccepted → MakesStep s r a
makes_step s r a v request judge is =
    let p = passed_of s r a is in
    let user = name_of (asker s r) in
    let named : user ≡ p.user.name = ap name_of p.asks in
    let can = passed_can s r a r.command v request.command judge p.passed in
    let first : IsFirstApproval s.tables user r.command = subst (λ n. IsFirstApproval s.tables n r.command) (sym named) (passed_first s r a p.user r.command p.asks p.passed) in
    let new = new_kind s.tables user a r.command v can first in
    let kind : with_kind (kind_for s.tables user a r.command) s.tables ≡ changed s.tables user a r.command = kind_plain s.tables (kind_for s.tables user a r.command) v new ∙ plain_changed s.tables user a r.command in
    let same : made (change_for s r a) s.tables ≡ accepted s r a = ap (λ (t : Rows). record t { kept = put texts_cmp kept_key (kept_row s.tables user r a) t.kept }) kind in
    record {
      can = record {
        rows = new;
        key = subst (λ n. kept_of s.tables n r.key ≡ None) (sym named) p.fresh;
        after = subst IsValid (sym same) (valid_accepted s r a v can);
        room = subst (λ (t : Rows). bytes_of t ≤ 268435456) (sym same) (has_room (bytes_of (accepted s r a)) (room_of s r a r.command p.passed));
      };
      made = same;
    }

-- a decision says which outcome the step has
decided_is : (s : State) (r : Request) (a : JudgeAnswer) (k : Option KeptRow) (broken : Option Rule) → IsDecided (decided s.tables k broken) (outcome s r a k broken)
decided_is s r a (Some k) broken = tt
decided_is s r a None (Some rule) = refl
decided_is s r a None None = tt

pub decisions_are_steps : (s : State) (r : Request) (a : JudgeAnswer) → IsDecided (decision s r a) (step s r a)
decisions_are_steps s r a = decided_is s r a (repeated s r) (first_broken (rules_of a r.command) s r)
