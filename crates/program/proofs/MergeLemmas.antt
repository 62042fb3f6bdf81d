-- What was merged holds.
use Rattle.std.proofs.Common.{◌≡◌, ℕ, List, [], ◌∷◌, ◌==◌, true, Option, None, refl, sym, ap, ◌∙◌, subst, arith}
use Rattle.std.specs.Prelude.{Result, Ok, Err}
use Rattle.std.proofs.lemmas.Bool.Decides.{nat_tests}
use Rattle.std.proofs.lemmas.List.Elements.{All-nil}
use Rattle.net_types.specs.declared.config.SourceFile.{SourceFile}
use Rattle.desk_tables.specs.Tables.{book_of, version_of}
use Rattle.desk_tables.specs.Valid.{IsCertificate, IsFile, IsKept, IsPolicy, IsReview, IsUpTo, IsValid}
use Rattle.desk_tables.specs.declared.rows.ApprovalRow.{ApprovalRow}
use Rattle.desk_tables.specs.declared.rows.CertificateRow.{CertificateRow}
use Rattle.desk_tables.specs.declared.rows.Rows.{Rows}
use Rattle.desk_tables.specs.declared.rows.User.{User}
use Rattle.judging.specs.declared.inputs.Inputs.{Inputs}
use Rattle.judging.specs.declared.refusals.JudgeRefusal.{JudgeRefusal}
use Rattle.judging.specs.declared.refusals.JudgeRefusal.TheVariants as Cause
use Rattle.judging.specs.Inputs.{inputs_of, limited}
use Rattle.judging.specs.Steps.{and_then}
use Rattle.review_rules.specs.State.{State}
use Rattle.review_rules.specs.Rules.{missing_of, over_cases, refused_book, refused_bundle, report_of}
use Rattle.review_rules.specs.Judging.{answer_of, bundle_of}
use Rattle.review_rules.specs.declared.requests.JudgeAnswer.{JudgeAnswer}
use Rattle.review_rules.specs.declared.requests.JudgeAnswer.TheVariants.{Judged}
use Rattle.review_rules.proofs.AcceptLemmas.{merges_are_sound}
use Rattle.desk_judge.specs.Judged.{found, meant, run_answer, settled}
use Rattle.desk_judge.proofs.RunLemmas.{judged_runs_hold, means_no_more}
use Rattle.serving.specs.Turns.{Comes}
use Rattle.program.specs.Laws.{BookHolds, Led, MergedReviewsHold, no_rows}
use Rattle.program.proofs.FoundLemmas.{AreJudged, IsFound, IsJudged, find_has, judged_run, valid_run}

-- a run that is not refused is judged
record IsSettled (a : JudgeAnswer) (missing : Option ℕ) : Type 0 where
  report : List ℕ
  is : a ≡ Judged missing report

settled_so : (r : Result Inputs JudgeRefusal) → refused_bundle (settled r) ≡ None → over_cases (settled r) ≡ None → refused_book (settled r) ≡ None → IsSettled (settled r) (missing_of (settled r))
unfolding found
settled_so (Ok inputs) files cases book = record { report = report_of (settled (Ok inputs)); is = refl }
settled_so (Err (Cause.Bundle side refusal)) files cases book = absurd (cc)
settled_so (Err (Cause.Book refusal)) files cases book = absurd (cc)
settled_so (Err (Cause.CasesLimit side n)) files cases book = absurd (cc)

run_settled : (base new : List SourceFile) (text : List ℕ) → refused_bundle (run_answer base new text) ≡ None → over_cases (run_answer base new text) ≡ None → refused_book (run_answer base new text) ≡ None →
    IsSettled (run_answer base new text) (missing_of (run_answer base new text))
unfolding run_answer
run_settled base new text files cases book = settled_so (and_then (inputs_of base new text) limited) files cases book

-- where such a run found no lack, the book holds
found_holds : (t : Rows) (id : ℕ) → IsFound meant (bundle_of t id) (book_of t) None → BookHolds t id
found_holds t id h =
    let settled' = run_settled h.base (bundle_of t id) (book_of t) h.files h.cases h.book in
    judged_runs_hold h.base (bundle_of t id) (book_of t) settled'.report (settled'.is ∙ ap (λ (missing : Option ℕ). Judged missing settled'.report) (sym h.found))

-- tables without rows are valid
no_head : (head : ℕ) → IsUpTo 0 head → ⊥
no_head head within =
    let least = within.0 in
    let most = within.1 in
    omega (arith, least, most)

none_valid : IsValid no_rows
none_valid = record {
  versions = tt;
  policies = All-nil IsPolicy;
  numbers = tt;
  few = omega arith;
  reviews = All-nil (IsReview 0);
  heads = λ head within. absurd (no_head head within);
  files_ascend = tt;
  files = All-nil (IsFile 0);
  approvals_ascend = tt;
  approvals = All-nil (λ (a : ApprovalRow). IsUpTo 0 a.review);
  certificates_ascend = tt;
  certificates = All-nil (IsCertificate 0 0);
  kept_ascend = tt;
  kept = All-nil (IsKept 0 0);
}

-- the tables that a desk, and desks one after the other, lead to
comes_valid : (s now : State) → IsValid s.tables → Comes meant s now → IsValid now.tables
comes_valid s now v (requests, all, to) = subst (λ (x : State). IsValid x.tables) (sym to) (valid_run meant s requests means_no_more v all)

comes_judged : (s now : State) → IsValid s.tables → AreJudged meant s.tables → Comes meant s now → AreJudged meant now.tables
comes_judged s now v sound (requests, all, to) = subst (λ (x : State). AreJudged meant x.tables) (sym to) (judged_run meant s requests means_no_more v sound all)

led_judged : (t now : Rows) (desks : List (List User)) → IsValid t → AreJudged meant t → Led t desks now → AreJudged meant now
led_judged t now [] v sound same = subst (AreJudged meant) (sym same) sound
led_judged t now (users ∷ later) v sound (left, comes, rest) =
    led_judged left.tables now later
    (comes_valid (record { users = users; tables = t }) left v comes)
    (comes_judged (record { users = users; tables = t }) left v sound comes)
    rest

-- the certificate of a review says what was found of it
certificate_found : (t : Rows) (id : ℕ) (c : CertificateRow) → c.policy ≡ version_of t → c.missing ≡ None → (c.review == id) ≡ true → IsJudged meant t c → IsFound meant (bundle_of t id) (book_of t) None
certificate_found t id c version complete here h =
    let same : c.review ≡ id = grind (arith, nat_tests) in
    subst (λ (lack : Option ℕ). IsFound meant (bundle_of t id) (book_of t) lack) complete
    (subst (λ (n : ℕ). IsFound meant (bundle_of t n) (book_of t) c.missing) same (h version))

pub merged_reviews_hold : MergedReviewsHold
merged_reviews_hold desks now r id led merge ok =
    let m = (merges_are_sound now r (answer_of meant now r) id merge).0 ok in
    let there = find_has (λ (c : CertificateRow). c.review == id) (IsJudged meant now.tables) m.certificate now.tables.certificates m.certified
    (led_judged no_rows now.tables desks none_valid (All-nil (IsJudged meant no_rows)) led) in
    found_holds now.tables id (certificate_found now.tables id m.certificate m.version m.complete there.0 there.1)
