-- What is answered of bundles, books and runs is what is meant, and what it comes to.
use Rattle.std.proofs.Common.{ℕ, suc, ◌≡◌, ◌<◌, ◌≤◌, Bool, true, false, not, cond, nat_lt, List, [], ◌∷◌, map, length, All, Option, Some, None, slice_get, option_map, unwrap_or, arith, refl, ap, sym, subst, ◌∙◌}
use Rattle.std.specs.Prelude.{Result, Ok, Err}
use Rattle.std.specs.List.{AllByRecursion, position_or_len}
use Rattle.std.specs.Option.{IfSome}
use Rattle.std.proofs.lemmas.Bool.Decides.{nat_tests}
use Rattle.std.proofs.lemmas.List.{length-map}
use Rattle.std.proofs.lemmas.List.Elements.{All-from_recursion}
use Rattle.std.proofs.lemmas.Option.{slice_get-map}
use Rattle.net_types.specs.NetFacts.{IsNet}
use Rattle.net_types.specs.NetValue.{NetValue}
use Rattle.net_types.specs.declared.config.SourceFile.{SourceFile}
use Rattle.net_types.specs.declared.refusals.BundleSide.TheVariants as Change
use Rattle.net_types.specs.declared.refusals.BundleRefusal.{BundleRefusal}
use Rattle.net_types.specs.declared.refusals.FormRefusal.{FormRefusal}
use Rattle.topology.proofs.PairLemmas.{none-position}
use Rattle.bundle_reader.specs.Bundle.{bundle_of}
use Rattle.property_book.specs.Book as Book
use Rattle.property_book.specs.Meaning.{Holds}
use Rattle.property_book.specs.Outcomes.{first_missing, is_certified}
use Rattle.property_book.specs.declared.property.Property.{Property}
use Rattle.property_book.specs.declared.verdict.Outcome.{Outcome}
use Rattle.property_book.specs.declared.verdict.Verdict.{Verdict}
use Rattle.property_book.specs.declared.verdict.Verdict.TheVariants.{Certified, NotCertified, NotApplicable}
use Rattle.report_text.specs.Report.{report_of}
use Rattle.certify.specs.Counts.{total_of}
use Rattle.judging.specs.declared.inputs.Inputs.{Inputs}
use Rattle.judging.specs.declared.judgements.Judgement.{Judgement}
use Rattle.judging.specs.declared.refusals.JudgeRefusal.{JudgeRefusal}
use Rattle.judging.specs.declared.refusals.JudgeRefusal.TheVariants as Cause
use Rattle.judging.specs.declared.refusals.NotJudged.{NotJudged}
use Rattle.judging.specs.declared.refusals.NotJudged.TheVariants as Why
use Rattle.judging.specs.Inputs.{Judges, book_of, inputs_of, inputs_with, limit_of, limited, network_of, networks_of, or_else, unless_refused}
use Rattle.judging.specs.Judgements.{Concludes, IsJudgement}
use Rattle.judging.specs.Steps.{and_then}
use Rattle.review_rules.specs.declared.requests.JudgeAnswer.{JudgeAnswer}
use Rattle.review_rules.specs.declared.requests.JudgeAnswer.TheVariants.{NotAsked, Fine, Refused, BookRefused, Limit, Judged, NoMemory}
use Rattle.review_rules.specs.declared.requests.BundleSide.TheVariants.{New}
use Rattle.review_rules.specs.Judging.{IsRunAnswer, Means, NamesProperty}
use Rattle.desk_judge.specs.Verdict.{outcome_of, verdict_of}
use Rattle.desk_judge.specs.Judged.{book_answer, bundle_answer, fine_unless, found, not_judged, refused, run_answer, settled}
use Rattle.desk_judge.specs.Laws.{JudgedRunsHold, MeansNoMore}
use Rattle.desk_judge.proofs.BookLemmas.{book_few, book_refusal}
use Rattle.desk_judge.proofs.FileLemmas.{bundle_is, bundle_refusal}
use Rattle.desk_judge.proofs.VerdictLemmas.{holds_if_certified, outcome_is}

-- a value that is meant
means_it : (value answer : JudgeAnswer) → answer ≡ value → Means value answer
means_it value NotAsked e = e
means_it value Fine e = e
means_it value (Refused side refusal) e = e
means_it value (BookRefused refusal) e = e
means_it value (Limit cases) e = e
means_it value (Judged missing report) e = e
means_it value NoMemory e = tt

-- what is meant is the same
pub means_same : (a b answer : JudgeAnswer) → a ≡ b → Means a answer → Means b answer
means_same a b answer e is = subst (λ (value : JudgeAnswer). Means value answer) e is

err_is : {A E : Type 0} (a b : E) → (let r : Result A E = Err a in r) ≡ Err b → a ≡ b
err_is a b e = cc

ok_is : {A E : Type 0} (a b : A) → (let r : Result A E = Ok a in r) ≡ Ok b → a ≡ b
ok_is a b e = cc

no_ok : {A E R : Type 0} (a : E) (b : A) → (let r : Result A E = Err a in r) ≡ Ok b → R
no_ok a b e = absurd (cc)

no_err : {A E R : Type 0} (a : A) (b : E) → (let r : Result A E = Ok a in r) ≡ Err b → R
no_err a b e = absurd (cc)

-- ---- the inputs, part by part

abbrev parts : Result NetValue BundleRefusal → Result NetValue BundleRefusal → Result (List Property) FormRefusal → Result Inputs JudgeRefusal
parts (Err refusal) new book = Err (Cause.Bundle Change.Base refusal)
parts (Ok base) (Err refusal) book = Err (Cause.Bundle Change.New refusal)
parts (Ok base) (Ok new) (Err refusal) = Err (Cause.Book refusal)
parts (Ok base) (Ok new) (Ok book) = Ok (record { base = base; new = new; book = book })

from_parts : (base new : List SourceFile) (text : List ℕ) (a b : Result NetValue BundleRefusal) (c : Result (List Property) FormRefusal) →
    bundle_of base ≡ a → bundle_of new ≡ b → Book.book_of text ≡ c → inputs_of base new text ≡ parts a b c
unfolding inputs_with networks_of network_of book_of
from_parts base new text (Err refusal) b c e f g = rw e refl
from_parts base new text (Ok x) (Err refusal) c e f g = rw (e, f) refl
from_parts base new text (Ok x) (Ok y) (Err refusal) e f g = rw (e, f, g) refl
from_parts base new text (Ok x) (Ok y) (Ok z) e f g = rw (e, f, g) refl

inputs_are : (base new : List SourceFile) (text : List ℕ) → inputs_of base new text ≡ parts (bundle_of base) (bundle_of new) (Book.book_of text)
inputs_are base new text = from_parts base new text (bundle_of base) (bundle_of new) (Book.book_of text) refl refl refl

-- the parts of inputs
record AreParts (a b : Result NetValue BundleRefusal) (c : Result (List Property) FormRefusal) (inputs : Inputs) : Type 0 where
  base : a ≡ Ok inputs.base
  new : b ≡ Ok inputs.new
  book : c ≡ Ok inputs.book

are_parts : (a b : Result NetValue BundleRefusal) (c : Result (List Property) FormRefusal) (inputs : Inputs) → parts a b c ≡ Ok inputs → AreParts a b c inputs
are_parts (Err refusal) b c inputs e = no_ok (Cause.Bundle Change.Base refusal) inputs e
are_parts (Ok base) (Err refusal) c inputs e = no_ok (Cause.Bundle Change.New refusal) inputs e
are_parts (Ok base) (Ok new) (Err refusal) inputs e = no_ok (Cause.Book refusal) inputs e
are_parts (Ok base) (Ok new) (Ok book) inputs e =
    let same = ok_is (record { base = base; new = new; book = book }) inputs e in
    record {
      base = ap (λ (i : Inputs). Ok i.base) same;
      new = ap (λ (i : Inputs). Ok i.new) same;
      book = ap (λ (i : Inputs). Ok i.book) same;
    }

parts_of : (base new : List SourceFile) (text : List ℕ) (inputs : Inputs) → inputs_of base new text ≡ Ok inputs → AreParts (bundle_of base) (bundle_of new) (Book.book_of text) inputs
parts_of base new text inputs e = are_parts (bundle_of base) (bundle_of new) (Book.book_of text) inputs (sym (inputs_are base new text) ∙ e)

-- ---- what a refusal names

refused_as : (m n : ℕ) (a b : JudgeRefusal) → a ≡ b → IsRunAnswer m n (refused a) → IsRunAnswer m n (refused b)
refused_as m n a b e is = subst (λ (r : JudgeRefusal). IsRunAnswer m n (refused r)) e is

-- files or a text are refused
refusal_names : (base new : List SourceFile) (text : List ℕ) (refusal : JudgeRefusal) → inputs_of base new text ≡ Err refusal → IsRunAnswer (length base) (length new) (refused refusal)
refusal_names base new text refusal e = go (bundle_of base) refl (bundle_of new) refl (Book.book_of text) refl (sym (inputs_are base new text) ∙ e) where
  go : (a : Result NetValue BundleRefusal) → bundle_of base ≡ a → (b : Result NetValue BundleRefusal) → bundle_of new ≡ b → (c : Result (List Property) FormRefusal) → Book.book_of text ≡ c →
      parts a b c ≡ Err refusal → IsRunAnswer (length base) (length new) (refused refusal)
  go (Err cause) f b g c h i = refused_as (length base) (length new) (Cause.Bundle Change.Base cause) refusal (err_is (Cause.Bundle Change.Base cause) refusal i) (bundle_refusal base cause f)
  go (Ok x) f (Err cause) g c h i = refused_as (length base) (length new) (Cause.Bundle Change.New cause) refusal (err_is (Cause.Bundle Change.New cause) refusal i) (bundle_refusal new cause g)
  go (Ok x) f (Ok y) g (Err cause) h i = refused_as (length base) (length new) (Cause.Book cause) refusal (err_is (Cause.Book cause) refusal i) (book_refusal text cause h)
  go (Ok x) f (Ok y) g (Ok z) h i = no_err (record { base = x; new = y; book = z }) refusal i

some_is : (a b : JudgeRefusal) → Some a ≡ Some b → a ≡ b
some_is a b e = cc

-- there are too many cases
limit_names : (m n : ℕ) (inputs : Inputs) (refusal : JudgeRefusal) → limit_of inputs ≡ Some refusal → IsRunAnswer m n (refused refusal)
unfolding limit_of
limit_names m n inputs refusal e = go (nat_lt 50000 (total_of inputs.base inputs.book)) (nat_lt 50000 (total_of inputs.new inputs.book)) e where
  go : (a b : Bool) →
      or_else (cond a (Some (Cause.CasesLimit Change.Base (total_of inputs.base inputs.book))) None) (cond b (Some (Cause.CasesLimit Change.New (total_of inputs.new inputs.book))) None) ≡ Some refusal →
      IsRunAnswer m n (refused refusal)
  go true b f = refused_as m n (Cause.CasesLimit Change.Base (total_of inputs.base inputs.book)) refusal (some_is (Cause.CasesLimit Change.Base (total_of inputs.base inputs.book)) refusal f) tt
  go false true f = refused_as m n (Cause.CasesLimit Change.New (total_of inputs.new inputs.book)) refusal (some_is (Cause.CasesLimit Change.New (total_of inputs.new inputs.book)) refusal f) tt
  go false false f = absurd (let g : None ≡ Some refusal = f in cc)

-- a place below 64
pub missing_names : (m n : ℕ) (missing : Option ℕ) (report : List ℕ) → IfSome missing (λ place. place < 64) → IsRunAnswer m n (Judged missing report)
missing_names m n None report low = omega arith
missing_names m n (Some place) report low = low

-- ---- what is meant

limit_meant : (inputs : Inputs) (refusal : JudgeRefusal) → limit_of inputs ≡ Some refusal → refused refusal ≡ settled (limited inputs)
limit_meant inputs refusal e = sym (ap (λ (o : Option JudgeRefusal). settled (unless_refused o inputs)) e)

pub judged_meant : (inputs : Inputs) (judgement : Judgement) → IsNet inputs.base → IsNet inputs.new → limit_of inputs ≡ None → IsJudgement inputs judgement →
    Judged judgement.missing judgement.report ≡ settled (limited inputs)
unfolding found
judged_meant inputs judgement before after none is =
    let on_base = outcome_is inputs.base inputs.book judgement.base before is.base in
    let on_new = outcome_is inputs.new inputs.book judgement.new after is.new in
    ap (λ (missing : Option ℕ). Judged missing judgement.report) (is.missing ∙ ap (λ (o : Outcome). first_missing o.verdicts) on_new) ∙
    ap (λ (report : List ℕ). Judged (first_missing (outcome_of inputs.new inputs.book).verdicts) report)
    (is.report ∙ ap (λ (o : Outcome). report_of inputs.book inputs.base o inputs.new judgement.new) on_base ∙
    ap (λ (o : Outcome). report_of inputs.book inputs.base (outcome_of inputs.base inputs.book) inputs.new o) on_new) ∙
    sym (ap (λ (o : Option JudgeRefusal). settled (unless_refused o inputs)) none)

run_refused : (base new : List SourceFile) (text : List ℕ) (refusal : JudgeRefusal) → inputs_of base new text ≡ Err refusal → refused refusal ≡ run_answer base new text
unfolding run_answer
run_refused base new text refusal e = sym (ap (λ (r : Result Inputs JudgeRefusal). settled (and_then r limited)) e)

pub run_settled : (base new : List SourceFile) (text : List ℕ) (inputs : Inputs) → inputs_of base new text ≡ Ok inputs → settled (limited inputs) ≡ run_answer base new text
unfolding run_answer
run_settled base new text inputs e = sym (ap (λ (r : Result Inputs JudgeRefusal). settled (and_then r limited)) e)

-- ---- where a change is not judged

pub limit_means : (inputs : Inputs) (why : NotJudged) → Concludes inputs (Err why) → Means (settled (limited inputs)) (not_judged why)
limit_means inputs (Why.Refused refusal) e = means_it (settled (limited inputs)) (refused refusal) (limit_meant inputs refusal e)
limit_means inputs Why.NoMemory e = tt

pub limit_is : (m n : ℕ) (inputs : Inputs) (why : NotJudged) → Concludes inputs (Err why) → IsRunAnswer m n (not_judged why)
limit_is m n inputs (Why.Refused refusal) e = limit_names m n inputs refusal e
limit_is m n inputs Why.NoMemory e = tt

pub refusal_means : (base new : List SourceFile) (text : List ℕ) (why : NotJudged) → Judges (inputs_of base new text) (Err why) → Means (run_answer base new text) (not_judged why)
refusal_means base new text (Why.Refused refusal) e = means_it (run_answer base new text) (refused refusal) (run_refused base new text refusal e)
refusal_means base new text Why.NoMemory e = tt

pub refusal_is : (base new : List SourceFile) (text : List ℕ) (why : NotJudged) → Judges (inputs_of base new text) (Err why) → IsRunAnswer (length base) (length new) (not_judged why)
refusal_is base new text (Why.Refused refusal) e = refusal_names base new text refusal e
refusal_is base new text Why.NoMemory e = tt

-- ---- no answer names a property that there is not

fine_names : {A E : Type 0} (as_refused : E → JudgeAnswer) (r : Result A E) → ((refusal : E) → NamesProperty (as_refused refusal)) → NamesProperty (fine_unless as_refused r)
fine_names as_refused (Ok value) all = omega arith
fine_names as_refused (Err refusal) all = all refusal

bundle_names : (files : List SourceFile) → NamesProperty (bundle_answer files)
unfolding bundle_answer
bundle_names files = fine_names (Refused New) (bundle_of files) (λ refusal. omega arith)

book_names : (text : List ℕ) → NamesProperty (book_answer text)
unfolding book_answer
book_names text = fine_names BookRefused (Book.book_of text) (λ refusal. omega arith)

refused_names : (refusal : JudgeRefusal) → NamesProperty (refused refusal)
refused_names (Cause.Bundle side refusal) = omega arith
refused_names (Cause.Book refusal) = omega arith
refused_names (Cause.CasesLimit side cases) = omega arith

place_low : (k n : ℕ) (test : Bool) → nat_lt k n ≡ test → n ≤ 64 → unwrap_or (cond test (Some k) None) 0 < 64
place_low k n true less few = let low : k < n = from_test k n less in omega arith where
  from_test : (x y : ℕ) → nat_lt x y ≡ true → x < y
  from_test x y h = grind (arith, nat_tests)
place_low k n false less few = omega arith

missing_low : (verdicts : List Verdict) → length verdicts ≤ 64 → unwrap_or (first_missing verdicts) 0 < 64
missing_low verdicts few =
    place_low (position_or_len (λ verdict. not (is_certified verdict)) verdicts) (length verdicts) (nat_lt (position_or_len (λ verdict. not (is_certified verdict)) verdicts) (length verdicts)) refl few

outcome_few : (net : NetValue) (book : List Property) → length book ≤ 64 → length (outcome_of net book).verdicts ≤ 64
unfolding outcome_of
outcome_few net book few = let long = length-map book (verdict_of net) in omega arith

found_names : (inputs : Inputs) → length inputs.book ≤ 64 → NamesProperty (found inputs)
unfolding found
found_names inputs few = missing_low (outcome_of inputs.new inputs.book).verdicts (outcome_few inputs.new inputs.book few)

run_names : (base new : List SourceFile) (text : List ℕ) → NamesProperty (run_answer base new text)
unfolding run_answer
run_names base new text = go (inputs_of base new text) refl where
  limited_names : (inputs : Inputs) → length inputs.book ≤ 64 → (limit : Option JudgeRefusal) → NamesProperty (settled (unless_refused limit inputs))
  limited_names inputs few (Some refusal) = refused_names refusal
  limited_names inputs few None = found_names inputs few

  go : (r : Result Inputs JudgeRefusal) → inputs_of base new text ≡ r → NamesProperty (settled (and_then r limited))
  go (Err refusal) e = refused_names refusal
  go (Ok inputs) e = limited_names inputs (book_few text inputs.book (parts_of base new text inputs e).book) (limit_of inputs)

pub means_no_more : MeansNoMore
means_no_more = (bundle_names, book_names, run_names)

-- ---- what a run without a missing certificate says

not_refused : {R : Type 0} (refusal : JudgeRefusal) (report : List ℕ) → refused refusal ≡ Judged None report → R
not_refused (Cause.Bundle side refusal) report e = absurd (cc)
not_refused (Cause.Book refusal) report e = absurd (cc)
not_refused (Cause.CasesLimit side cases) report e = absurd (cc)

none_missing : (missing : Option ℕ) (text report : List ℕ) → Judged missing text ≡ Judged None report → missing ≡ None
none_missing missing text report e = cc

certified_if : (verdict : Verdict) → not (is_certified verdict) ≡ false → verdict ≡ Certified
certified_if Certified e = refl
certified_if (NotCertified failed broken) e = absurd (let f : true ≡ false = e in cc)
certified_if (NotApplicable bar) e = absurd (let f : true ≡ false = e in cc)

all_from : {X : Type 0} (P : X → Type 0) (xs : List X) → ((i : ℕ) (x : X) → slice_get xs i ≡ Some x → P x) → AllByRecursion P xs
all_from P [] each = tt
all_from P (x ∷ xs) each = (each 0 x refl, all_from P xs (λ i y e. each (suc i) y e))

book_holds : (net : NetValue) (book : List Property) → IsNet net → first_missing (map (verdict_of net) book) ≡ None → All (Holds net) book
book_holds net book valid none = All-from_recursion (Holds net) book (all_from (Holds net) book (λ i property at.
    holds_if_certified net property valid (certified_if (verdict_of net property)
    (none-position (λ (verdict : Verdict). not (is_certified verdict)) (map (verdict_of net) book) none i (verdict_of net property)
    (slice_get-map (verdict_of net) book i ∙ ap (option_map (verdict_of net)) at)))))

found_holds : (inputs : Inputs) (report : List ℕ) → IsNet inputs.new → found inputs ≡ Judged None report → All (Holds inputs.new) inputs.book
unfolding found outcome_of
found_holds inputs report valid e =
    book_holds inputs.new inputs.book valid
    (none_missing (first_missing (map (verdict_of inputs.new) inputs.book)) (report_of inputs.book inputs.base (outcome_of inputs.base inputs.book) inputs.new (outcome_of inputs.new inputs.book)) report e)

pub judged_runs_hold : JudgedRunsHold
unfolding run_answer
judged_runs_hold base new text report e = go (inputs_of base new text) refl e where
  limited_holds : (inputs : Inputs) → IsNet inputs.new → (limit : Option JudgeRefusal) → settled (unless_refused limit inputs) ≡ Judged None report → All (Holds inputs.new) inputs.book
  limited_holds inputs valid (Some refusal) f = not_refused refusal report f
  limited_holds inputs valid None f = found_holds inputs report valid f

  go : (r : Result Inputs JudgeRefusal) → inputs_of base new text ≡ r → settled (and_then r limited) ≡ Judged None report →
      (net : NetValue) × (book : List Property) × (bundle_of new ≡ Ok net) × (Book.book_of text ≡ Ok book) × All (Holds net) book
  go (Err refusal) f g = not_refused refusal report g
  go (Ok inputs) f g =
      let are = parts_of base new text inputs f in
      (inputs.new, inputs.book, are.new, are.book, limited_holds inputs (bundle_is new inputs.new are.new) (limit_of inputs) g)
