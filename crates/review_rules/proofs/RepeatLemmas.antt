-- Repeats of accepted requests change nothing.
use Rattle.std.proofs.Common.{◌≡◌, ℕ, ◌+◌, ◌<◌, Bool, true, false, List, [], ◌∷◌, ◌++◌, length, map, find, filter, ◌&&◌, ◌==◌, if◌then◌else◌, Option, Some, None, inl, inr, refl, sym, ap, ◌∙◌, subst, arith}
use Rattle.std.specs.List.{All}
use Rattle.std.specs.Ordering.{is_lt, is_eq, ordering_reverse}
use Rattle.std.specs.declared.cmp.Ordering.{Ordering}
use Rattle.std.specs.declared.cmp.Ordering.TheVariants.{Less, Equal, Greater}
use Rattle.std.proofs.lemmas.Bool.Decides.{nat_tests}
use Rattle.std.specs.Option.{option_or, option_map}
use Rattle.std.proofs.lemmas.Option.{slice_get_past}
use mathlib.Core.Bool.{true≢false}
use Rattle.std.proofs.lemmas.Cmp.{tied_back, tied_itself}
use Rattle.std.proofs.lemmas.List.Elements.{All-head, All-tail, filter-append}
use Rattle.std.proofs.lemmas.List.Folds.{find-append}
use Rattle.std.specs.Str.{bytes_eq}
use Rattle.std.proofs.lemmas.Slice.Eq.{bytes_eq-Decides}
use Rattle.std.specs.Cmp.{IsTotalOrder}
use Rattle.net_types.specs.declared.config.SourceFile.{SourceFile}
use Rattle.desk_tables.specs.declared.rows.User.{User}
use Rattle.desk_tables.specs.declared.rows.Rows.{Rows}
use Rattle.desk_tables.specs.declared.rows.PolicyRow.{PolicyRow}
use Rattle.desk_tables.specs.declared.rows.ReviewRow.{ReviewRow}
use Rattle.desk_tables.specs.declared.rows.FileRow.{FileRow}
use Rattle.desk_tables.specs.declared.rows.KeptRow.{KeptRow}
use Rattle.review_rules.specs.State.{State}
use Rattle.review_rules.specs.declared.requests.Request.{Request}
use Rattle.review_rules.specs.declared.requests.Command.{Command}
use Rattle.review_rules.specs.declared.requests.Command.TheVariants.{SetPolicy, Submit, Certify, Approve, Merge, Withdraw}
use Rattle.review_rules.specs.declared.requests.JudgeAnswer.{JudgeAnswer}
use Rattle.review_rules.specs.declared.requests.Rule.{Rule}
use Rattle.desk_tables.specs.Order.{before, after, Counts, put, texts_cmp}
use Rattle.desk_tables.specs.Tables.{files_of, kept_of, kept_key, review_of, policy_of, head_of, file_row, same_files, at_review, merged, withdrawn}
use Rattle.desk_tables.specs.Valid.{IsValid, IsUpTo, IsFile}
use Rattle.desk_tables.proofs.TableLemmas.{and_true, find_counts, texts_total, texts_tie}
use Rattle.desk_tables.proofs.PutLemmas.{found_up_to}
use Rattle.desk_tables.proofs.PlaceLemmas.{append_nil}
use Rattle.review_rules.specs.Rules.{policy_row, review_row, Outcome, Repeated, Refused, Accepted, step, accepted, name_of, changed, kept_row, kind_of, target_of, reply_of, asker, repeated, outcome, rules_of, first_broken, same_command, submitted_as, set_as, ask_of}
use Rattle.review_rules.specs.Judging.{Judging, IsJudging, NamesProperty, answer_of, if_asked, judged, judged_command}
use Rattle.review_rules.specs.declared.requests.Ask.{Ask}
use Rattle.review_rules.specs.declared.requests.Ask.TheVariants.{Nothing, Bundle, Run, Book}
use Rattle.review_rules.specs.Laws.{IsAccepted, tables_after, next, run, IsOneOf, with_accepted, LeavesOutRepeats, AreRequests}
use Rattle.review_rules.proofs.AcceptLemmas.{IsPassed, accepted_passes, passed_accepts}
use Rattle.review_rules.proofs.ValidLemmas.{tables_stay_valid, accepted_same}

-- the request was accepted: it is kept in this row, with the same command
pub record IsDone (s : State) (q : Request) (row : KeptRow) : Type 0 where
  pub user : User
  pub asks : asker s q ≡ Some user
  pub kept : kept_of s.tables user.name q.key ≡ Some row
  pub same : same_command s.tables row q.command ≡ true

abbrev pub AllDone : State → List Request → Type 0
AllDone s [] = Unit {0}
AllDone s (q ∷ qs) = ((row : KeptRow) × IsDone s q row) × AllDone s qs

-- what is done once more changes nothing
repeated_stays : (j : Judging) (s : State) (r : Request) (row : KeptRow) → IsDone s r row → next j s r ≡ s
repeated_stays j s r row d =
    let a = answer_of j s r in
    let once : repeated s r ≡ Some row = rw (d.asks, d.kept, d.same) refl in
    ap (λ t. record s { tables = t }) (stays a (repeated s r) (first_broken (rules_of a r.command) s r) once)
  where
    stays : (a : JudgeAnswer) (o : Option KeptRow) (broken : Option Rule) → o ≡ Some row → tables_after s.tables (outcome s r a o broken) ≡ s.tables
    stays a None broken is = absurd (cc)
    stays a (Some k) broken is = refl

repeats_stay : (j : Judging) (s : State) (r : Request) (past : List Request) → AllDone s past → IsOneOf r past → next j s r ≡ s
repeats_stay j s r [] done one = absurd one
repeats_stay j s r (q ∷ qs) done (inl again) = repeated_stays j s r done.0.0 (subst (λ x. IsDone s x done.0.0) again done.0.1)
repeats_stay j s r (q ∷ qs) done (inr later) = repeats_stay j s r qs done.1 later

-- none of the rows that pass one test passes another
find_filtered_none : {X : Type 0} (p test : X → Bool) → ((x : X) → test x ≡ true → p x ≡ false) → (xs : List X) → find p (filter test xs) ≡ None
find_filtered_none p test apart [] = refl
find_filtered_none {X = X} p test apart (x ∷ xs) = by_case (test x) refl (find_filtered_none p test apart xs)
  where
    by_case : (b : Bool) → test x ≡ b → find p (filter test xs) ≡ None → find p (if b then x ∷ filter test xs else filter test xs) ≡ None
    by_case true is rest = rw (apart x is) rest
    by_case false is rest = rest

-- the rows that pass the one all pass the other
find_filtered : {X : Type 0} (p test : X → Bool) → ((x : X) → p x ≡ true → test x ≡ true) → (xs : List X) → find p (filter test xs) ≡ find p xs
find_filtered p test within [] = refl
find_filtered {X = X} p test within (x ∷ xs) = by_case (p x) refl (test x) refl (find_filtered p test within xs)
  where
    by_case : (a : Bool) → p x ≡ a → (b : Bool) → test x ≡ b → find p (filter test xs) ≡ find p xs → find p (if b then x ∷ filter test xs else filter test xs) ≡ (if a then Some x else find p xs)
    by_case true is true tested rest = rw is refl
    by_case true is false tested rest = absurd (true≢false (sym (within x is) ∙ tested))
    by_case false is true tested rest = rw is rest
    by_case false is false tested rest = rest

is_less : (r : Ordering) → is_lt r ≡ true → r ≡ Less
is_less Less h = refl
is_less Equal h = absurd (cc)
is_less Greater h = absurd (cc)

is_equal : (r : Ordering) → is_eq r ≡ true → r ≡ Equal
is_equal Less h = absurd (cc)
is_equal Equal h = refl
is_equal Greater h = absurd (cc)

not_true : (b : Bool) → (b ≡ true → ⊥) → b ≡ false
not_true true h = absurd (h refl)
not_true false h = refl

or_none : {X : Type 0} (o : Option X) → option_or o None ≡ o
or_none None = refl
or_none (Some x) = refl

equal_itself : (n : ℕ) → (n == n) ≡ true
equal_itself n = grind (arith, nat_tests)

bytes_same : (a b : List ℕ) → bytes_eq a b ≡ true → a ≡ b
bytes_same a b same = (bytes_eq-Decides a b).0 same

bytes_itself : (a : List ℕ) → bytes_eq a a ≡ true
bytes_itself a = (bytes_eq-Decides a a).1 refl

-- what an accepted request keeps is found
find_put_same : {X K : Type 0} (cmp : K → K → Ordering) (key : X → K) (row : X) (same : X → Bool) → IsTotalOrder cmp → ((x : X) → is_eq (cmp (key x) (key row)) ≡ same x) → (xs : List X) → find same (put cmp key row xs) ≡ Some row
find_put_same cmp key row same o eq xs =
    let low = filter (before cmp key (key row)) xs in
    let high = filter (after cmp key (key row)) xs in
    let none : find same low ≡ None = find_filtered_none same (before cmp key (key row)) (λ x less. sym (eq x) ∙ ap is_eq (is_less (cmp (key x) (key row)) less)) xs in
    let here : same row ≡ true = sym (eq row) ∙ ap is_eq (tied_itself o (key row)) in
    find-append same low (row ∷ high) ∙ rw (none, here) refl

-- and what was kept under another key stays
find_put_other : {X K : Type 0} (cmp : K → K → Ordering) (key : X → K) (row : X) (q : K) (p : X → Bool) → IsTotalOrder cmp → ((x : X) → is_eq (cmp (key x) q) ≡ p x) → p row ≡ false → (xs : List X) → find p (put cmp key row xs) ≡ find p xs
find_put_other {X = X} cmp key row q p o eq other xs = by_case (cmp q (key row)) refl
  where
    tied : (x : X) → p x ≡ true → cmp (key x) (key row) ≡ cmp q (key row)
    tied x passes = o.congr (key x) q (key row) (is_equal (cmp (key x) q) (eq x ∙ passes))

    by_case : (r : Ordering) → cmp q (key row) ≡ r → find p (put cmp key row xs) ≡ find p xs
    by_case Less is =
        let low : find p (filter (before cmp key (key row)) xs) ≡ find p xs = find_filtered p (before cmp key (key row)) (λ x passes. ap is_lt (tied x passes ∙ is)) xs in
        let high : find p (filter (after cmp key (key row)) xs) ≡ None = find_filtered_none p (after cmp key (key row)) (λ x more. not_true (p x) (λ passes.
        let up : cmp (key row) (key x) ≡ Less = is_less (cmp (key row) (key x)) more in
        let down : cmp (key row) (key x) ≡ Greater = o.antisymm (key row) (key x) ∙ ap ordering_reverse (tied x passes ∙ is) in
        absurd (cc (up, down)))) xs in
        find-append p (filter (before cmp key (key row)) xs) (row ∷ filter (after cmp key (key row)) xs) ∙ rw (other, high, low) (or_none (find p xs))
    by_case Equal is =
        let same : cmp (key row) q ≡ Equal = tied_back o q (key row) is in
        absurd (true≢false (ap is_eq (sym same) ∙ eq row ∙ other))
    by_case Greater is =
        let low : find p (filter (before cmp key (key row)) xs) ≡ None = find_filtered_none p (before cmp key (key row)) (λ x less. not_true (p x) (λ passes.
        let up : cmp (key x) (key row) ≡ Less = is_less (cmp (key x) (key row)) less in
        let down : cmp (key x) (key row) ≡ Greater = tied x passes ∙ is in
        absurd (cc (up, down)))) xs in
        let high : find p (filter (after cmp key (key row)) xs) ≡ find p xs = find_filtered p (after cmp key (key row)) (λ x passes. ap is_lt (o.antisymm (key row) (key x) ∙ ap ordering_reverse (tied x passes ∙ is))) xs in
        find-append p (filter (before cmp key (key row)) xs) (row ∷ filter (after cmp key (key row)) xs) ∙ rw (low, other) high

-- the tables where a user's request is done
abbrev pub accepted_as : Rows → List ℕ → Request → JudgeAnswer → Rows
accepted_as t user r a = record (changed t user a r.command) { kept = put texts_cmp kept_key (kept_row t user r a) (changed t user a r.command).kept }

-- a command leaves what is kept
kept_stays : (t : Rows) (user : List ℕ) (a : JudgeAnswer) (command : Command) → (changed t user a command).kept ≡ t.kept
kept_stays t user a (SetPolicy approvals book) = refl
kept_stays t user a (Submit base title files) = refl
kept_stays t user a (Certify id) = refl
kept_stays t user a (Approve id) = refl
kept_stays t user a (Merge id) = refl
kept_stays t user a (Withdraw id) = refl

-- the files of a new review are those that come with it
files_old : (m n : ℕ) (xs : List FileRow) → m < n → All (IsFile m) xs → filter (λ (f : FileRow). f.review == n) xs ≡ []
files_old m n [] low all = refl
files_old m n (x ∷ xs) low all =
    let here = (All-head (IsFile m) x xs all).0.1 in
    let other : (x.review == n) ≡ false = grind (arith, nat_tests) in
    rw other (files_old m n xs low (All-tail (IsFile m) x xs all))

files_new : (n : ℕ) (fs : List SourceFile) → filter (λ (f : FileRow). f.review == n) (map (file_row n) fs) ≡ map (file_row n) fs
files_new n [] = refl
files_new n (f ∷ fs) = rw (equal_itself n) (ap (λ ys. file_row n f ∷ ys) (files_new n fs))

files_apart : (m n : ℕ) (fs : List SourceFile) → m < n → filter (λ (f : FileRow). f.review == m) (map (file_row n) fs) ≡ []
files_apart m n [] low = refl
files_apart m n (f ∷ fs) low =
    let other : (n == m) ≡ false = grind (arith, nat_tests) in
    rw other (files_apart m n fs low)

same_files_itself : (n : ℕ) (fs : List SourceFile) → same_files (map (file_row n) fs) fs ≡ true
same_files_itself n [] = refl
same_files_itself n (f ∷ fs) = rw (bytes_itself f.name, bytes_itself f.text) (same_files_itself n fs)

-- a new number is no one's yet
find_past : {X : Type 0} (number : X → ℕ) (xs : List X) → Counts number 1 xs → find (λ x. number x == length xs + 1) xs ≡ None
find_past number xs counts = find_counts number 1 xs (length xs) (length xs + 1) counts (omega arith) ∙ slice_get_past xs (length xs) (omega arith)

-- and the row that comes with it is found
find_new : {X : Type 0} (number : X → ℕ) (xs : List X) (row : X) → Counts number 1 xs → number row ≡ length xs + 1 → find (λ x. number x == length xs + 1) (xs ++ row ∷ []) ≡ Some row
find_new number xs row counts is =
    let same : (number row == length xs + 1) ≡ true = grind (arith, nat_tests) in
    find-append (λ x. number x == length xs + 1) xs (row ∷ []) ∙ rw (find_past number xs counts, same) refl

-- a change of one review that keeps the numbers is one of the row that is found
find_changed : (id n : ℕ) (change : ReviewRow → ReviewRow) (xs : List ReviewRow) → ((r : ReviewRow) → (change r).id ≡ r.id) → find (λ (r : ReviewRow). r.id == n) (map (at_review id change) xs) ≡ option_map (at_review id change) (find (λ (r : ReviewRow). r.id == n) xs)
find_changed id n change [] keeps = refl
find_changed id n change (x ∷ xs) keeps = by_case (x.id == id) refl (x.id == n) refl (find_changed id n change xs keeps)
  where
    by_case : (a : Bool) → (x.id == id) ≡ a → (b : Bool) → (x.id == n) ≡ b → find (λ (r : ReviewRow). r.id == n) (map (at_review id change) xs) ≡ option_map (at_review id change) (find (λ (r : ReviewRow). r.id == n) xs) → find (λ (r : ReviewRow). r.id == n) (map (at_review id change) (x ∷ xs)) ≡ option_map (at_review id change) (if b then Some x else find (λ (r : ReviewRow). r.id == n) xs)
    by_case true same true here rest = rw (same, keeps x, here) refl
    by_case true same false here rest = rw (same, keeps x, here) rest
    by_case false same true here rest = rw (same, here) refl
    by_case false same false here rest = rw (same, here) rest

submitted_changed : (id : ℕ) (change : ReviewRow → ReviewRow) (have : List FileRow) (base : ℕ) (title : List ℕ) (files : List SourceFile) (o : Option ReviewRow) → ((r : ReviewRow) → (change r).base ≡ r.base) → ((r : ReviewRow) → (change r).title ≡ r.title) → submitted_as have base title files o ≡ true → submitted_as have base title files (option_map (at_review id change) o) ≡ true
submitted_changed id change have base title files None bases titles same = same
submitted_changed id change have base title files (Some r) bases titles same = by_case (r.id == id)
  where
    by_case : (b : Bool) → submitted_as have base title files (Some (if b then change r else r)) ≡ true
    by_case true = rw (bases r, titles r) same
    by_case false = same

-- a row that is there stays where another is added
submitted_more : (have : List FileRow) (base : ℕ) (title : List ℕ) (files : List SourceFile) (o more : Option ReviewRow) → submitted_as have base title files o ≡ true → submitted_as have base title files (option_or o more) ≡ true
submitted_more have base title files None more same = absurd (true≢false (sym same))
submitted_more have base title files (Some r) more same = same

set_more : (approvals : ℕ) (book : List ℕ) (o more : Option PolicyRow) → set_as approvals book o ≡ true → set_as approvals book (option_or o more) ≡ true
set_more approvals book None more same = absurd (true≢false (sym same))
set_more approvals book (Some p) more same = same

submitted_there : (have : List FileRow) (base : ℕ) (title : List ℕ) (files : List SourceFile) (o : Option ReviewRow) → submitted_as have base title files o ≡ true → (r : ReviewRow) × (o ≡ Some r)
submitted_there have base title files None same = absurd (true≢false (sym same))
submitted_there have base title files (Some r) same = (r, refl)

and_of : (a b : Bool) → a ≡ true → b ≡ true → (a && b) ≡ true
and_of a b h k = rw (h, k) refl

-- a command that was just done is the same command
same_now : (t : Rows) (user key reply : List ℕ) (a : JudgeAnswer) (command : Command) → IsValid t → same_command (changed t user a command) (record { user = user; key = key; kind = kind_of command; target = target_of t command; reply = reply }) command ≡ true
same_now t user key reply a (SetPolicy approvals book) v =
    let there : find (λ (p : PolicyRow). p.version == length t.policies + 1) (t.policies ++ policy_row t approvals book ∷ []) ≡ Some (policy_row t approvals book) = find_new (λ (p : PolicyRow). p.version) t.policies (policy_row t approvals book) v.versions refl in
    rw there (and_of _ _ (equal_itself approvals) (bytes_itself book))
same_now t user key reply a (Submit base title files) v =
    let n = length t.reviews + 1 in
    let there : find (λ (r : ReviewRow). r.id == n) (t.reviews ++ review_row t user base title ∷ []) ≡ Some (review_row t user base title) = find_new (λ (r : ReviewRow). r.id) t.reviews (review_row t user base title) v.numbers refl in
    let filed : filter (λ (f : FileRow). f.review == n) (t.files ++ map (file_row n) files) ≡ map (file_row n) files = filter-append (λ (f : FileRow). f.review == n) t.files (map (file_row n) files) ∙ rw (files_old (length t.reviews) n t.files (omega arith) v.files) (files_new n files) in
    rw (there, filed) (and_of _ _ (and_of _ _ (equal_itself base) (bytes_itself title)) (same_files_itself n files))
same_now t user key reply a (Certify id) v = equal_itself id
same_now t user key reply a (Approve id) v = equal_itself id
same_now t user key reply a (Merge id) v = equal_itself id
same_now t user key reply a (Withdraw id) v = equal_itself id

-- a submission that was done stays the same where a review is changed
same_changed : (t : Rows) (k : KeptRow) (base : ℕ) (title : List ℕ) (files : List SourceFile) (id : ℕ) (change : ReviewRow → ReviewRow) → ((r : ReviewRow) → (change r).id ≡ r.id) → ((r : ReviewRow) → (change r).base ≡ r.base) → ((r : ReviewRow) → (change r).title ≡ r.title) → same_command t k (Submit base title files) ≡ true → same_command (record t { reviews = map (at_review id change) t.reviews }) k (Submit base title files) ≡ true
same_changed t k base title files id change ids bases titles same =
    let parts = and_true _ _ same in
    let after' = submitted_changed id change (files_of t k.target) base title files (review_of t k.target) bases titles parts.1 in
    let later : submitted_as (files_of t k.target) base title files (find (λ (r : ReviewRow). r.id == k.target) (map (at_review id change) t.reviews)) ≡ true = rw (find_changed id k.target change t.reviews ids) after' in
    and_of _ _ parts.0 later

-- where another review is added
same_submitted : (t : Rows) (user : List ℕ) (k : KeptRow) (base : ℕ) (title : List ℕ) (files : List SourceFile) (base' : ℕ) (title' : List ℕ) (files' : List SourceFile) (a : JudgeAnswer) → IsValid t → same_command t k (Submit base title files) ≡ true → same_command (changed t user a (Submit base' title' files')) k (Submit base title files) ≡ true
same_submitted t user k base title files base' title' files' a v same =
    let parts = and_true _ _ same in
    let n = length t.reviews + 1 in
    let row = review_row t user base' title' in
    let there : (r : ReviewRow) × (review_of t k.target ≡ Some r) = submitted_there (files_of t k.target) base title files (review_of t k.target) parts.1 in
    let within : IsUpTo (length t.reviews) k.target = found_up_to (λ (r : ReviewRow). r.id) t.reviews k.target there.0 v.numbers there.1 in
    let filed : filter (λ (f : FileRow). f.review == k.target) (t.files ++ map (file_row n) files') ≡ files_of t k.target = filter-append (λ (f : FileRow). f.review == k.target) t.files (map (file_row n) files') ∙ rw (files_apart k.target n files' (omega (arith, within.1))) (append_nil (files_of t k.target)) in
    let found : find (λ (r : ReviewRow). r.id == k.target) (t.reviews ++ row ∷ []) ≡ option_or (review_of t k.target) (find (λ (r : ReviewRow). r.id == k.target) (row ∷ [])) = find-append (λ (r : ReviewRow). r.id == k.target) t.reviews (row ∷ []) in
    let after' : submitted_as (files_of (changed t user a (Submit base' title' files')) k.target) base title files (review_of (changed t user a (Submit base' title' files')) k.target) ≡ true = (rw (found, filed) (submitted_more (files_of t k.target) base title files (review_of t k.target) (find (λ (r : ReviewRow). r.id == k.target) (row ∷ [])) parts.1)) in
    and_of _ _ parts.0 after'

-- where another version of the policy is added
same_set : (t : Rows) (user : List ℕ) (k : KeptRow) (approvals : ℕ) (book : List ℕ) (approvals' : ℕ) (book' : List ℕ) (a : JudgeAnswer) → same_command t k (SetPolicy approvals book) ≡ true → same_command (changed t user a (SetPolicy approvals' book')) k (SetPolicy approvals book) ≡ true
same_set t user k approvals book approvals' book' a same =
    let parts = and_true _ _ same in
    let row = policy_row t approvals' book' in
    let found : find (λ (p : PolicyRow). p.version == k.target) (t.policies ++ row ∷ []) ≡ option_or (policy_of t k.target) (find (λ (p : PolicyRow). p.version == k.target) (row ∷ [])) = find-append (λ (p : PolicyRow). p.version == k.target) t.policies (row ∷ []) in
    let after' : set_as approvals book (policy_of (changed t user a (SetPolicy approvals' book')) k.target) ≡ true = rw found (set_more approvals book (policy_of t k.target) (find (λ (p : PolicyRow). p.version == k.target) (row ∷ [])) parts.1) in
    and_of _ _ parts.0 after'

-- a command that was done stays the same command
same_still : (t : Rows) (user : List ℕ) (k : KeptRow) (a : JudgeAnswer) (one other : Command) → IsValid t → same_command t k one ≡ true → same_command (changed t user a other) k one ≡ true
same_still t user k a (Certify id) other v same = same
same_still t user k a (Approve id) other v same = same
same_still t user k a (Merge id) other v same = same
same_still t user k a (Withdraw id) other v same = same
same_still t user k a (SetPolicy approvals book) (SetPolicy approvals' book') v same = same_set t user k approvals book approvals' book' a same
same_still t user k a (SetPolicy approvals book) (Submit base title files) v same = same
same_still t user k a (SetPolicy approvals book) (Certify id) v same = same
same_still t user k a (SetPolicy approvals book) (Approve id) v same = same
same_still t user k a (SetPolicy approvals book) (Merge id) v same = same
same_still t user k a (SetPolicy approvals book) (Withdraw id) v same = same
same_still t user k a (Submit base title files) (SetPolicy approvals book) v same = same
same_still t user k a (Submit base title files) (Certify id) v same = same
same_still t user k a (Submit base title files) (Approve id) v same = same
same_still t user k a (Submit base title files) (Merge id) v same = same_changed t k base title files id (merged (head_of t + 1)) (λ r. refl) (λ r. refl) (λ r. refl) same
same_still t user k a (Submit base title files) (Withdraw id) v same = same_changed t k base title files id withdrawn (λ r. refl) (λ r. refl) (λ r. refl) same
same_still t user k a (Submit base title files) (Submit base' title' files') v same = same_submitted t user k base title files base' title' files' a v same

done_as : (s : State) (r : Request) (a : JudgeAnswer) (user : List ℕ) (u : User) → asker s r ≡ Some u → user ≡ u.name → IsValid s.tables → IsDone (record s { tables = accepted_as s.tables user r a }) r (kept_row s.tables user r a)
done_as s r a user u asks named v =
    let row = kept_row s.tables user r a in
    let found = find_put_same texts_cmp kept_key row (λ k. bytes_eq k.user user && bytes_eq k.key r.key) texts_total (λ k. texts_tie (kept_key k) (user, r.key)) (changed s.tables user a r.command).kept in
    record {
      user = u;
      asks = asks;
      kept = subst (λ n. find (λ k. bytes_eq k.user n && bytes_eq k.key r.key) (put texts_cmp kept_key row (changed s.tables user a r.command).kept) ≡ Some row) named found;
      same = same_now s.tables user r.key (reply_of s.tables a r.command) a r.command v;
    }

pub done_now : (s : State) (r : Request) (a : JudgeAnswer) → IsValid s.tables → IsPassed s r a → IsDone (record s { tables = accepted s r a }) r (kept_row s.tables (name_of (asker s r)) r a)
done_now s r a v p = done_as s r a (name_of (asker s r)) p.user p.asks (ap name_of p.asks) v

pub done_still : (s : State) (q r : Request) (a : JudgeAnswer) (kept : KeptRow) → IsValid s.tables → IsPassed s r a → IsDone s q kept → IsDone (record s { tables = accepted s r a }) q kept
done_still s q r a kept v p d =
    let user = name_of (asker s r) in
    let row = kept_row s.tables user r a in
    let named : user ≡ p.user.name = ap name_of p.asks in
    let fresh : kept_of s.tables user r.key ≡ None = subst (λ n. kept_of s.tables n r.key ≡ None) (sym named) p.fresh in
    let other : (bytes_eq user d.user.name && bytes_eq r.key q.key) ≡ false = not_true _ (λ both.
    let parts = and_true _ _ both in
    let users : user ≡ d.user.name = bytes_same user d.user.name parts.0 in
    let keys : r.key ≡ q.key = bytes_same r.key q.key parts.1 in
    let there : kept_of s.tables user r.key ≡ Some kept = subst (λ n. kept_of s.tables n r.key ≡ Some kept) (sym users) (subst (λ k. kept_of s.tables d.user.name k ≡ Some kept) (sym keys) d.kept) in
    absurd (cc (fresh, there))) in
    let stays = find_put_other texts_cmp kept_key row (d.user.name, q.key) (λ k. bytes_eq k.user d.user.name && bytes_eq k.key q.key) texts_total (λ k. texts_tie (kept_key k) (d.user.name, q.key)) other (changed s.tables user a r.command).kept in
    record {
      user = d.user;
      asks = d.asks;
      kept = stays ∙ ap (find (λ k. bytes_eq k.user d.user.name && bytes_eq k.key q.key)) (kept_stays s.tables user a r.command) ∙ d.kept;
      same = same_still s.tables user kept a q.command r.command v d.same;
    }

all_still : (s : State) (r : Request) (a : JudgeAnswer) (past : List Request) → IsValid s.tables → IsPassed s r a → AllDone s past → AllDone (record s { tables = accepted s r a }) past
all_still s r a [] v p done = tt
all_still s r a (q ∷ qs) v p done = ((done.0.0, done_still s q r a done.0.0 v p done.0.1), all_still s r a qs v p done.1)

-- after a request all that was accepted is done
done_after : (s : State) (r : Request) (a : JudgeAnswer) (past : List Request) → IsValid s.tables → AllDone s past → AllDone (record s { tables = tables_after s.tables (step s r a) }) (with_accepted r (step s r a) past)
done_after s r a past v done = by_outcome (step s r a) refl
  where
    by_outcome : (o : Outcome) → step s r a ≡ o → AllDone (record s { tables = tables_after s.tables o }) (with_accepted r o past)
    by_outcome (Repeated reply) is = done
    by_outcome (Refused rule) is = done
    by_outcome (Accepted t reply) is =
        let passed = accepted_passes s r a (subst IsAccepted (sym is) tt) in
        let same : accepted s r a ≡ t = accepted_same (sym (passed_accepts s r a passed) ∙ is) in
        subst (λ u. AllDone (record s { tables = u }) (r ∷ past)) same ((kept_row s.tables (name_of (asker s r)) r a, done_now s r a v passed), all_still s r a past v passed done)

-- what the judge means names no property that there is not
pub answer_names : (j : Judging) (s : State) (r : Request) → IsJudging j → NamesProperty (answer_of j s r)
answer_names j s r well = by_ask (judged_command j s.tables r.command) (ask_of s r) (by_command r.command)
  where
    by_command : (command : Command) → NamesProperty (judged_command j s.tables command)
    by_command (SetPolicy approvals book) = well.1 book
    by_command (Submit base title files) = well.0 files
    by_command (Certify id) = well.2 _ _ _
    by_command (Approve id) = omega arith
    by_command (Merge id) = omega arith
    by_command (Withdraw id) = omega arith

    by_ask : (a : JudgeAnswer) (ask : Ask) → NamesProperty a → NamesProperty (if_asked ask a)
    by_ask a Nothing names = omega arith
    by_ask a Bundle names = names
    by_ask a Run names = names
    by_ask a Book names = names

leaves_out : (j : Judging) (long : List Request) (s : State) (past short : List Request) → IsJudging j → IsValid s.tables → AreRequests long → AllDone s past → LeavesOutRepeats j s past long short → run j s long ≡ run j s short
leaves_out j [] s past short well v requests done out = ap (run j s) (sym out)
leaves_out j (r ∷ long) s past short well v requests done (inl again) =
    rw (repeats_stay j s r past done again.0) (leaves_out j long s past short well v requests.1 done again.1)
leaves_out j (r ∷ long) s past short well v requests done (inr more) =
    leaves_out j long (next j s r) (with_accepted r (judged j s r) past) more.0 well (tables_stay_valid s r (answer_of j s r) v requests.0 (answer_names j s r well)) requests.1 (done_after s r (answer_of j s r) past v done) more.2 ∙ ap (run j s) (sym more.1)

pub repeats_change_nothing : (j : Judging) (s : State) (long short : List Request) → IsJudging j → IsValid s.tables → AreRequests long → LeavesOutRepeats j s [] long short → run j s long ≡ run j s short
repeats_change_nothing j s long short well v requests out = leaves_out j long s [] short well v requests tt out
