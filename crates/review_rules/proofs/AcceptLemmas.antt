-- What it takes for a request to be accepted.
use Rattle.std.proofs.Common.{◌≡◌, ℕ, ◌+◌, ◌<◌, ◌≤◌, Bool, true, false, List, [], ◌∷◌, not, ◌==◌, if◌then◌else◌, nat_lt, nat_le, length, Option, Some, None, refl, sym, ap, ◌∙◌, subst, arith}
use Rattle.std.proofs.lemmas.Bool.Decides.{nat_tests}
use Rattle.desk_tables.specs.declared.rows.User.{User}
use Rattle.desk_tables.specs.declared.rows.Rows.{Rows}
use Rattle.desk_tables.specs.declared.rows.ReviewRow.{ReviewRow}
use Rattle.desk_tables.specs.declared.rows.CertificateRow.{CertificateRow}
use Rattle.desk_tables.specs.declared.rows.KeptRow.{KeptRow}
use Rattle.review_rules.specs.State.{State}
use Rattle.review_rules.specs.declared.requests.Request.{Request}
use Rattle.review_rules.specs.declared.requests.Command.{Command}
use Rattle.review_rules.specs.declared.requests.Command.TheVariants.{Merge}
use Rattle.review_rules.specs.declared.requests.JudgeAnswer.{JudgeAnswer}
use Rattle.review_rules.specs.declared.requests.Rule.{Rule}
use Rattle.desk_tables.specs.Tables.{kept_of, review_of, certificate_of, approvals_of, head_of, version_of, needed, bytes_of, at_review, merged}
use Rattle.desk_tables.proofs.TableLemmas.{and_true}
use Rattle.review_rules.specs.Rules.{Accepted, step, outcome, repeated, repeated_in, reused, if_same, same_command, kept_under, kept_for, asker, accepted, changed, reply_of, first_broken, rules_of, own_rules, or_else, when, unless_user, no_author, unless_review, no_such_review, closed, stale, not_certified, lacking, missing_in, too_few_approvals, over, stale_base, too_many_reviews, bad_approvals}
use Rattle.review_rules.specs.Laws.{IsAccepted, MayMerge}
use Rattle.review_rules.specs.declared.requests.Rule.TheVariants.{KeyReused, NotCertified}
use Rattle.review_rules.specs.declared.requests.Lack.TheVariants.{NotRun}
use Rattle.review_rules.proofs.RuleLemmas.{bytes_with_kept, length-map}

-- a known user under a new key, and no rule of the command is broken
pub record IsPassed (s : State) (r : Request) (a : JudgeAnswer) : Type 0 where
  pub user : User
  pub asks : asker s r ≡ Some user
  pub fresh : kept_of s.tables user.name r.key ≡ None
  pub passed : first_broken (own_rules a r.command) s r ≡ None

-- no part is broken
pub both_none : (a b : Option Rule) → or_else a b ≡ None → (a ≡ None) × (b ≡ None)
both_none None b h = (refl, h)
both_none (Some rule) b h = absurd (cc)

-- no test of a list is broken
abbrev pub AllNone : List (State → Request → Option Rule) → State → Request → Type 0
AllNone [] s r = Unit {0}
AllNone (test ∷ tests) s r = (test s r ≡ None) × AllNone tests s r

pub all_none : (tests : List (State → Request → Option Rule)) (s : State) (r : Request) → first_broken tests s r ≡ None → AllNone tests s r
all_none [] s r passed = tt
all_none (test ∷ tests) s r passed =
    let parts = both_none (test s r) (first_broken tests s r) passed in
    (parts.0, all_none tests s r parts.1)

-- what is tested did not hold
pub when_none : (b : Bool) (rule : Rule) → when b rule ≡ None → b ≡ false
when_none true rule h = absurd (cc)
when_none false rule h = refl

pub not_false : (b : Bool) → not b ≡ false → b ≡ true
not_false true h = refl
not_false false h = absurd (cc)

-- an accepted request is repeated by nothing and breaks nothing
accepted_parts : (s : State) (r : Request) (a : JudgeAnswer) (k : Option KeptRow) (broken : Option Rule) → IsAccepted (outcome s r a k broken) → (k ≡ None) × (broken ≡ None)
accepted_parts s r a (Some k) broken ok = absurd ok
accepted_parts s r a None (Some rule) ok = absurd ok
accepted_parts s r a None None ok = (refl, refl)

-- and one that is so is accepted
pub outcome_none : (s : State) (r : Request) (a : JudgeAnswer) (k : Option KeptRow) (broken : Option Rule) → k ≡ None → broken ≡ None → outcome s r a k broken ≡ Accepted (accepted s r a) (reply_of s.tables a r.command)
outcome_none s r a (Some k) broken new passed = absurd (cc)
outcome_none s r a None (Some rule) new passed = absurd (cc)
outcome_none s r a None None new passed = refl

-- a key that is kept with neither the same command nor another is new
unkept_by : (k : KeptRow) (b : Bool) (rule : Rule) → if_same b k ≡ None → when (not b) rule ≡ None → Some k ≡ None
unkept_by k true rule once other = absurd (cc)
unkept_by k false rule once other = absurd (cc)

unkept : (t : Rows) (command : Command) (k : Option KeptRow) → repeated_in t command k ≡ None → reused t command k ≡ None → k ≡ None
unkept t command None once other = refl
unkept t command (Some k) once other = unkept_by k (same_command t k command) KeyReused once other

pub accepted_passes : (s : State) (r : Request) (a : JudgeAnswer) → IsAccepted (step s r a) → IsPassed s r a
accepted_passes s r a ok =
    let parts = accepted_parts s r a (repeated s r) (first_broken (rules_of a r.command) s r) ok in
    let known = both_none _ _ parts.1 in
    let new = both_none _ _ known.1 in
    by_user (asker s r) refl known.0 (unkept s.tables r.command (kept_under s r) parts.0 new.0) new.1
  where
    by_user : (u : Option User) → asker s r ≡ u → unless_user u ≡ None → kept_for s.tables r.key u ≡ None → first_broken (own_rules a r.command) s r ≡ None → IsPassed s r a
    by_user None is known fresh passed = absurd (cc)
    by_user (Some u) is known fresh passed = record { user = u; asks = is; fresh = fresh; passed = passed }

pub passed_accepts : (s : State) (r : Request) (a : JudgeAnswer) → IsPassed s r a → step s r a ≡ Accepted (accepted s r a) (reply_of s.tables a r.command)
passed_accepts s r a p =
    let new : repeated s r ≡ None = rw (p.asks, p.fresh) refl in
    let all : first_broken (rules_of a r.command) s r ≡ None = rw (p.asks, p.fresh, p.passed) refl in
    outcome_none s r a (repeated s r) (first_broken (rules_of a r.command) s r) new all

-- what each rule asks for
pub review_there : (id : ℕ) (t : Rows) → no_such_review id t ≡ None → (review : ReviewRow) × (review_of t id ≡ Some review)
unfolding no_such_review
review_there id t passed = by_case (review_of t id) refl passed
  where
    by_case : (o : Option ReviewRow) → review_of t id ≡ o → unless_review o ≡ None → (review : ReviewRow) × (review_of t id ≡ Some review)
    by_case None is passed = absurd (cc)
    by_case (Some review) is passed = (review, is)

pub review_open : (id : ℕ) (t : Rows) (review : ReviewRow) → review_of t id ≡ Some review → closed id t ≡ None → review.state ≡ 0
unfolding closed
review_open id t review there passed =
    let open' = not_false _ (when_none _ _ (rw there at passed)) in
    grind (arith, nat_tests)

pub review_current : (id : ℕ) (t : Rows) (review : ReviewRow) → review_of t id ≡ Some review → stale id t ≡ None → review.base ≡ head_of t
unfolding stale
review_current id t review there passed =
    let same = not_false _ (when_none _ _ (rw there at passed)) in
    grind (arith, nat_tests)

-- a certificate of the version, in which nothing is missing
pub record IsCertified (id : ℕ) (t : Rows) : Type 0 where
  pub certificate : CertificateRow
  pub certified : certificate_of t id ≡ Some certificate
  pub version : certificate.policy ≡ version_of t
  pub complete : certificate.missing ≡ None

pub review_certified : (id : ℕ) (t : Rows) → not_certified id t ≡ None → IsCertified id t
unfolding not_certified
review_certified id t passed = by_case (certificate_of t id) refl passed
  where
    by_missing : (c : CertificateRow) → certificate_of t id ≡ Some c → (o : Option ℕ) → c.missing ≡ o → (b : Bool) → b ≡ (c.policy == version_of t) → (if b then missing_in o else Some (NotCertified NotRun)) ≡ None → IsCertified id t
    by_missing c is o missing false version passed = absurd (cc)
    by_missing c is (Some i) missing true version passed = absurd (cc)
    by_missing c is None missing true version passed = record { certificate = c; certified = is; version = grind (arith, nat_tests); complete = missing }

    by_case : (o : Option CertificateRow) → certificate_of t id ≡ o → lacking (version_of t) o ≡ None → IsCertified id t
    by_case None is passed = absurd (cc)
    by_case (Some c) is passed = by_missing c is c.missing refl (c.policy == version_of t) refl passed

pub review_approved : (id : ℕ) (t : Rows) → too_few_approvals id t ≡ None → needed t ≤ approvals_of t id
unfolding too_few_approvals
review_approved id t passed =
    let enough = when_none _ _ passed in
    grind (arith, nat_tests)

pub has_room : (n : ℕ) → over n ≡ None → n ≤ 268435456
unfolding over
has_room n passed =
    let low = when_none _ _ passed in
    grind (arith, nat_tests)

pub base_current : (base : ℕ) (t : Rows) → stale_base base t ≡ None → base ≡ head_of t
unfolding stale_base
base_current base t passed =
    let same = not_false _ (when_none _ _ passed) in
    grind (arith, nat_tests)

pub few_reviews : (t : Rows) → too_many_reviews t ≡ None → length t.reviews < 10000
unfolding too_many_reviews
few_reviews t passed =
    let few = when_none _ _ passed in
    grind (arith, nat_tests)

-- and that it is enough
no_author_none : (u : User) → u.author ≡ true → no_author (Some u) ≡ None
no_author_none u author = rw author refl

there_none : (id : ℕ) (t : Rows) (review : ReviewRow) → review_of t id ≡ Some review → no_such_review id t ≡ None
unfolding no_such_review
there_none id t review there = rw there refl

open_none : (id : ℕ) (t : Rows) (review : ReviewRow) → review_of t id ≡ Some review → review.state ≡ 0 → closed id t ≡ None
unfolding closed
open_none id t review there is = rw (there, is) refl

current_none : (id : ℕ) (t : Rows) (review : ReviewRow) → review_of t id ≡ Some review → review.base ≡ head_of t → stale id t ≡ None
unfolding stale
current_none id t review there is =
    let same : (review.base == head_of t) ≡ true = grind (arith, nat_tests) in
    rw (there, same) refl

certified_none : (id : ℕ) (t : Rows) (c : CertificateRow) → certificate_of t id ≡ Some c → c.policy ≡ version_of t → c.missing ≡ None → not_certified id t ≡ None
unfolding not_certified
certified_none id t c there is complete =
    let same : (c.policy == version_of t) ≡ true = grind (arith, nat_tests) in
    rw (there, same, complete) refl

approved_none : (id : ℕ) (t : Rows) → needed t ≤ approvals_of t id → too_few_approvals id t ≡ None
unfolding too_few_approvals
approved_none id t enough =
    let low : nat_lt (approvals_of t id) (needed t) ≡ false = grind (arith, nat_tests) in
    rw low refl

room_none : (n : ℕ) → n ≤ 268435456 → over n ≡ None
unfolding over
room_none n room =
    let low : nat_lt 268435456 n ≡ false = grind (arith, nat_tests) in
    rw low refl

none_or : (a b : Option Rule) → a ≡ None → b ≡ None → or_else a b ≡ None
none_or a b h k = rw (h, k) refl

-- the approvals are 1 to 16
pub good_approvals : (approvals : ℕ) → bad_approvals approvals ≡ None → (1 ≤ approvals) × (approvals ≤ 16)
unfolding bad_approvals
good_approvals approvals passed =
    let parts = and_true (nat_le 1 approvals) (nat_le approvals 16) (not_false _ (when_none _ _ passed)) in
    let low = parts.0 in
    let high = parts.1 in
    (grind (arith, nat_tests, low), grind (arith, nat_tests, high))

-- a merge keeps 256 bytes more
merge_bytes : (s : State) (r : Request) (a : JudgeAnswer) (id : ℕ) (u : User) → r.command ≡ Merge id → asker s r ≡ Some u → kept_of s.tables u.name r.key ≡ None → bytes_of (accepted s r a) ≡ bytes_of s.tables + 256
merge_bytes s r a id u merge asks fresh =
    let same = length-map (at_review id (merged (head_of s.tables + 1))) s.tables.reviews in
    let stays : bytes_of (changed s.tables u.name a (Merge id)) ≡ bytes_of s.tables = omega (arith, same) in
    bytes_with_kept s r a u asks fresh ∙ ap (λ c. bytes_of (changed s.tables u.name a c) + 256) merge ∙ ap (λ n. n + 256) stays

-- the rules of a merge
pub record Passes (s : State) (r : Request) (a : JudgeAnswer) (id : ℕ) : Type 0 where
  pub author : no_author (asker s r) ≡ None
  pub there : no_such_review id s.tables ≡ None
  pub unclosed : closed id s.tables ≡ None
  pub current : stale id s.tables ≡ None
  pub certified : not_certified id s.tables ≡ None
  pub approved : too_few_approvals id s.tables ≡ None
  pub room : over (bytes_of (accepted s r a)) ≡ None

merge_passes : (s : State) (r : Request) (a : JudgeAnswer) (id : ℕ) → r.command ≡ Merge id → first_broken (own_rules a r.command) s r ≡ None → Passes s r a id
merge_passes s r a id merge passed =
    let all = all_none (own_rules a (Merge id)) s r (subst (λ c. first_broken (own_rules a c) s r ≡ None) merge passed) in
    record {
      author = all.0;
      there = all.1.0;
      unclosed = all.1.1.0;
      current = all.1.1.1.0;
      certified = all.1.1.1.1.0;
      approved = all.1.1.1.1.1.0;
      room = all.1.1.1.1.1.1.0;
    }

may : (s : State) (r : Request) (a : JudgeAnswer) (id : ℕ) → r.command ≡ Merge id → IsPassed s r a → MayMerge s r id
may s r a id merge p =
    let rules = merge_passes s r a id merge p.passed in
    let review = review_there id s.tables rules.there in
    let certified = review_certified id s.tables rules.certified in
    let room = has_room _ rules.room in
    record {
      user = p.user;
      known = p.asks;
      author = not_false _ (when_none _ _ (subst (λ o. no_author o ≡ None) p.asks rules.author));
      fresh = p.fresh;
      review = review.0;
      there = review.1;
      unmerged = review_open id s.tables review.0 review.1 rules.unclosed;
      current = review_current id s.tables review.0 review.1 rules.current;
      certificate = certified.certificate;
      certified = certified.certified;
      version = certified.version;
      complete = certified.complete;
      approved = review_approved id s.tables rules.approved;
      room = subst (λ n. n ≤ 268435456) (merge_bytes s r a id p.user merge p.asks p.fresh) room;
    }

passes : (s : State) (r : Request) (a : JudgeAnswer) (id : ℕ) → r.command ≡ Merge id → MayMerge s r id → IsPassed s r a
passes s r a id merge m = record {
  user = m.user;
  asks = m.known;
  fresh = m.fresh;
  passed = subst (λ c. first_broken (own_rules a c) s r ≡ None) (sym merge) (
      none_or _ _ (subst (λ o. no_author o ≡ None) (sym m.known) (no_author_none m.user m.author))
      (none_or _ _ (there_none id s.tables m.review m.there)
      (none_or _ _ (open_none id s.tables m.review m.there m.unmerged)
      (none_or _ _ (current_none id s.tables m.review m.there m.current)
      (none_or _ _ (certified_none id s.tables m.certificate m.certified m.version m.complete)
      (none_or _ _ (approved_none id s.tables m.approved)
      (none_or _ _ (room_none _ (subst (λ n. n ≤ 268435456) (sym (merge_bytes s r a id m.user merge m.known m.fresh)) m.room)) refl)))))));
}

pub merges_are_sound : (s : State) (r : Request) (a : JudgeAnswer) (id : ℕ) → r.command ≡ Merge id → (IsAccepted (step s r a) → MayMerge s r id) × (MayMerge s r id → IsAccepted (step s r a))
merges_are_sound s r a id merge = (λ ok. may s r a id merge (accepted_passes s r a ok), λ all. subst IsAccepted (sym (passed_accepts s r a (passes s r a id merge all))) tt)
