-- Along accepted requests, each certificate of the policy's present version says what the judge found of its review's files
-- under the policy's book.
use Rattle.std.proofs.Common.{◌≡◌, ℕ, ◌+◌, ◌<◌, Bool, true, false, List, [], ◌∷◌, ◌++◌, length, map, find, filter, ◌==◌, if◌then◌else◌, Option, Some, None, refl, sym, ap, ◌∙◌, subst, arith, length-append}
use Rattle.std.specs.List.{All}
use Rattle.std.specs.Ordering.{nat_cmp}
use Rattle.std.proofs.lemmas.Bool.Decides.{nat_tests}
use Rattle.std.proofs.lemmas.List.Elements.{All-cons, All-head, All-nil, All-tail, All-weaker, filter-append}
use Rattle.net_types.specs.declared.config.SourceFile.{SourceFile}
use Rattle.desk_tables.specs.Tables.{book_of, certificate_key, file_row, kept_of, source_of, version_of}
use Rattle.desk_tables.specs.Valid.{IsCertificate, IsValid}
use Rattle.desk_tables.specs.declared.rows.CertificateRow.{CertificateRow}
use Rattle.desk_tables.specs.declared.rows.FileRow.{FileRow}
use Rattle.desk_tables.specs.declared.rows.Rows.{Rows}
use Rattle.desk_tables.specs.declared.rows.User.{User}
use Rattle.desk_tables.proofs.PlaceLemmas.{append_nil}
use Rattle.desk_tables.proofs.PutLemmas.{All-put}
use Rattle.review_rules.specs.State.{State}
use Rattle.review_rules.specs.Rules.{accepted, ask_of, asked, asker, certificate_row, changed, early, first_broken, late, missing_of, name_of, over_cases, own_rules, policy_row, question, refused_book, refused_bundle, step}
use Rattle.review_rules.specs.Judging.{IsJudging, IsRequest, Judging, NamesProperty, answer_of, bundle_of, head_bundle, if_asked, judged, judged_command}
use Rattle.review_rules.specs.Laws.{IsAccepted, next, run, tables_after}
use Rattle.review_rules.specs.declared.requests.Ask.{Ask}
use Rattle.review_rules.specs.declared.requests.Ask.TheVariants.{Nothing, Bundle, Run, Book}
use Rattle.review_rules.specs.declared.requests.Command.{Command}
use Rattle.review_rules.specs.declared.requests.Command.TheVariants.{SetPolicy, Submit, Certify, Approve, Merge, Withdraw}
use Rattle.review_rules.specs.declared.requests.JudgeAnswer.{JudgeAnswer}
use Rattle.review_rules.specs.declared.requests.Request.{Request}
use Rattle.review_rules.proofs.AcceptLemmas.{IsPassed, accepted_passes, all_none, both_none, passed_accepts}
use Rattle.review_rules.proofs.RuleLemmas.{broken_parts, fresh_ask}
use Rattle.review_rules.proofs.ValidLemmas.{tables_stay_valid}
use Rattle.serving.specs.Turns.{AreAccepted}

-- ---- rows

-- a row that is found passes the test, and has what each row has
pub find_has : {X : Type 0} (p : X → Bool) (P : X → Type 0) (x : X) (xs : List X) → find p xs ≡ Some x → All P xs → (p x ≡ true) × P x
find_has p P x [] found all = absurd (cc)
find_has {X = X} p P x (y ∷ ys) found all = by_case (p y) refl found (λ there. find_has p P x ys there (All-tail P y ys all))
  where
    by_case : (b : Bool) → p y ≡ b → (if b then Some y else find p ys) ≡ Some x → (find p ys ≡ Some x → (p x ≡ true) × P x) → (p x ≡ true) × P x
    by_case true passes found rest =
        let same : y ≡ x = cc in
        (subst (λ (z : X). p z ≡ true) same passes, subst P same (All-head P y ys all))
    by_case false passes found rest = rest found

-- what follows from two things that each row has
All-both : {X : Type 0} (P Q R : X → Type 0) → ((x : X) → P x → Q x → R x) → (xs : List X) → All P xs → All Q xs → All R xs
All-both P Q R both [] ps qs = All-nil R
All-both P Q R both (x ∷ xs) ps qs = All-cons R x xs (both x (All-head P x xs ps) (All-head Q x xs qs)) (All-both P Q R both xs (All-tail P x xs ps) (All-tail Q x xs qs))

-- the files of another review are none of this one
files_apart : (m n : ℕ) (fs : List SourceFile) → m < n → filter (λ (f : FileRow). f.review == m) (map (file_row n) fs) ≡ []
files_apart m n [] low = refl
files_apart m n (f ∷ fs) low =
    let other : (n == m) ≡ false = grind (arith, nat_tests) in
    rw other (files_apart m n fs low)

files_stay : (m n : ℕ) (xs : List FileRow) (fs : List SourceFile) → m < n → filter (λ (f : FileRow). f.review == m) (xs ++ map (file_row n) fs) ≡ filter (λ (f : FileRow). f.review == m) xs
files_stay m n xs fs low = filter-append (λ (f : FileRow). f.review == m) xs (map (file_row n) fs) ∙ rw (files_apart m n fs low) (append_nil (filter (λ (f : FileRow). f.review == m) xs))

-- ---- certificates

-- a run over these files and this text was not refused, and found this lack
pub record IsFound (j : Judging) (new : List SourceFile) (text : List ℕ) (lack : Option ℕ) : Type 0 where
  pub base : List SourceFile
  pub files : refused_bundle (j.run base new text) ≡ None
  pub cases : over_cases (j.run base new text) ≡ None
  pub book : refused_book (j.run base new text) ≡ None
  pub found : lack ≡ missing_of (j.run base new text)

-- so it is with each certificate of the policy's present version
abbrev pub IsJudged : Judging → Rows → CertificateRow → Type 0
IsJudged j t c = c.policy ≡ version_of t → IsFound j (bundle_of t c.review) (book_of t) c.missing

abbrev pub AreJudged : Judging → Rows → Type 0
AreJudged j t = All (IsJudged j t) t.certificates

-- a run was answered where a certificate is made of it
abbrev HasAnswer : Judging → Rows → JudgeAnswer → Command → Type 0
HasAnswer j t a (Certify id) = IsFound j (bundle_of t id) (book_of t) (missing_of a)
HasAnswer j t a _ = Unit {0}

-- a new version of the policy is that of no certificate
judged_set : (j : Judging) (t : Rows) (user : List ℕ) (a : JudgeAnswer) (approvals : ℕ) (book : List ℕ) → IsValid t → AreJudged j (changed t user a (SetPolicy approvals book))
judged_set j t user a approvals book v =
    let long : length (t.policies ++ policy_row t approvals book ∷ []) ≡ length t.policies + 1 = length-append t.policies (policy_row t approvals book ∷ []) in
    All-weaker (IsCertificate (length t.reviews) (length t.policies)) (IsJudged j (changed t user a (SetPolicy approvals book)))
    (λ c is same. absurd (omega (arith, is.policy, same, long))) t.certificates v.certificates

-- a new review leaves the files of those that have certificates
judged_submitted : (j : Judging) (t : Rows) (user : List ℕ) (a : JudgeAnswer) (base : ℕ) (title : List ℕ) (files : List SourceFile) → IsValid t → AreJudged j t → AreJudged j (changed t user a (Submit base title files))
judged_submitted j t user a base title files v all =
    All-both (IsCertificate (length t.reviews) (length t.policies)) (IsJudged j t) (IsJudged j (changed t user a (Submit base title files)))
    (λ c is h same. subst (λ (new : List SourceFile). IsFound j new (book_of t) c.missing) (sym (ap (map source_of) (files_stay c.review (length t.reviews + 1) t.files files (omega (arith, is.review.1))))) (h same))
    t.certificates v.certificates all

judged_changed : (j : Judging) (t : Rows) (user : List ℕ) (a : JudgeAnswer) (command : Command) → IsValid t → HasAnswer j t a command → AreJudged j t → AreJudged j (changed t user a command)
judged_changed j t user a (SetPolicy approvals book) v answer all = judged_set j t user a approvals book v
judged_changed j t user a (Submit base title files) v answer all = judged_submitted j t user a base title files v all
judged_changed j t user a (Certify id) v answer all = All-put (IsJudged j t) nat_cmp certificate_key (certificate_row t id a) t.certificates (λ same. answer) all
judged_changed j t user a (Approve id) v answer all = all
judged_changed j t user a (Merge id) v answer all = all
judged_changed j t user a (Withdraw id) v answer all = all

-- ---- an accepted request

-- the judge is asked of an accepted certify
asks_run : (s : State) (r : Request) (a : JudgeAnswer) (id : ℕ) (u : User) → r.command ≡ Certify id → asker s r ≡ Some u → kept_of s.tables u.name r.key ≡ None → first_broken (own_rules a (Certify id)) s r ≡ None → ask_of s r ≡ Run
asks_run s r a id u is asks fresh passed =
    let first : first_broken (early (Certify id)) s r ≡ None = (both_none (first_broken (early (Certify id)) s r) (first_broken (late a (Certify id)) s r) (sym (broken_parts (early (Certify id)) (late a (Certify id)) s r) ∙ passed)).0 in
    fresh_ask s r u asks fresh ∙ ap (λ (c : Command). asked None (first_broken (early c) s r) (question c)) is ∙ ap (λ o. asked None o Run) first

-- and its answer is no refusal
run_found : (j : Judging) (s : State) (r : Request) (id : ℕ) (u : User) → r.command ≡ Certify id → asker s r ≡ Some u → kept_of s.tables u.name r.key ≡ None → first_broken (own_rules (answer_of j s r) (Certify id)) s r ≡ None →
    IsFound j (bundle_of s.tables id) (book_of s.tables) (missing_of (answer_of j s r))
run_found j s r id u is asks fresh passed =
    let answer : answer_of j s r ≡ j.run (head_bundle s.tables) (bundle_of s.tables id) (book_of s.tables) =
    ap (λ (ask : Ask). if_asked ask (judged_command j s.tables r.command)) (asks_run s r (answer_of j s r) id u is asks fresh passed) ∙ ap (judged_command j s.tables) is in
    let all = all_none (own_rules (answer_of j s r) (Certify id)) s r passed in
    record {
      base = head_bundle s.tables;
      files = subst (λ (a : JudgeAnswer). refused_bundle a ≡ None) answer all.1.1.1.1.0;
      cases = subst (λ (a : JudgeAnswer). over_cases a ≡ None) answer all.1.1.1.1.1.0;
      book = subst (λ (a : JudgeAnswer). refused_book a ≡ None) answer all.1.1.1.1.1.1.0;
      found = ap missing_of answer;
    }

has_answer : (j : Judging) (s : State) (r : Request) → IsPassed s r (answer_of j s r) → HasAnswer j s.tables (answer_of j s r) r.command
has_answer j s r p = by_command r.command refl p.passed
  where
    by_command : (command : Command) → r.command ≡ command → first_broken (own_rules (answer_of j s r) command) s r ≡ None → HasAnswer j s.tables (answer_of j s r) command
    by_command (SetPolicy approvals book) is passed = tt
    by_command (Submit base title files) is passed = tt
    by_command (Certify id) is passed = run_found j s r id p.user is p.asks p.fresh passed
    by_command (Approve id) is passed = tt
    by_command (Merge id) is passed = tt
    by_command (Withdraw id) is passed = tt

judged_next : (j : Judging) (s : State) (r : Request) → IsValid s.tables → IsAccepted (judged j s r) → AreJudged j s.tables → AreJudged j (next j s r).tables
judged_next j s r v ok all =
    let p = accepted_passes s r (answer_of j s r) ok in
    let to : tables_after s.tables (step s r (answer_of j s r)) ≡ accepted s r (answer_of j s r) = ap (tables_after s.tables) (passed_accepts s r (answer_of j s r) p) in
    subst (AreJudged j) (sym to) (judged_changed j s.tables (name_of (asker s r)) (answer_of j s r) r.command v (has_answer j s r p) all)

-- ---- accepted requests

-- what the judge means names no property that there is not
answer_names : (j : Judging) (s : State) (r : Request) → IsJudging j → NamesProperty (answer_of j s r)
answer_names j s r well = by_ask (judged_command j s.tables r.command) (ask_of s r) (by_command r.command)
  where
    by_command : (command : Command) → NamesProperty (judged_command j s.tables command)
    by_command (SetPolicy approvals book) = well.1 book
    by_command (Submit base title files) = well.0 files
    by_command (Certify id) = well.2 _ _ _
    by_command (Approve id) = omega arith
    by_command (Merge id) = omega arith
    by_command (Withdraw id) = omega arith

    by_ask : (a : JudgeAnswer) (ask : Ask) → NamesProperty a → NamesProperty (if_asked ask a)
    by_ask a Nothing names = omega arith
    by_ask a Bundle names = names
    by_ask a Run names = names
    by_ask a Book names = names

next_valid : (j : Judging) (s : State) (r : Request) → IsJudging j → IsValid s.tables → IsRequest r → IsValid (next j s r).tables
next_valid j s r well v is = tables_stay_valid s r (answer_of j s r) v is (answer_names j s r well)

pub valid_run : (j : Judging) (s : State) (requests : List Request) → IsJudging j → IsValid s.tables → AreAccepted j s requests → IsValid (run j s requests).tables
valid_run j s [] well v all = v
valid_run j s (r ∷ rs) well v all = valid_run j (next j s r) rs well (next_valid j s r well v all.0) all.2

pub judged_run : (j : Judging) (s : State) (requests : List Request) → IsJudging j → IsValid s.tables → AreJudged j s.tables → AreAccepted j s requests → AreJudged j (run j s requests).tables
judged_run j s [] well v sound all = sound
judged_run j s (r ∷ rs) well v sound all = judged_run j (next j s r) rs well (next_valid j s r well v all.0) (judged_next j s r v all.1 sound) all.2
