-- A property has one verdict, and a book one outcome.
use Rattle.std.proofs.Common.{ℕ, zero, suc, ◌≡◌, ◌<◌, ◌⊎◌, inl, inr, List, [], ◌∷◌, map, length, slice_get, Option, Some, None, arith, refl, ap, sym, subst, ◌∙◌}
use Rattle.std.specs.List.{AllZip}
use Rattle.net_types.specs.NetFacts.{IsNet}
use Rattle.net_types.specs.NetValue.{NetValue}
use Rattle.failure_sets.specs.SetList.{failure_sets}
use Rattle.failure_sets.proofs.LawLemmas.{holds_the_permitted, stand_in_order}
use Rattle.property_book.specs.Applicable.{barred}
use Rattle.property_book.specs.Meaning.{Holds, HoldsIfCertified}
use Rattle.property_book.specs.declared.property.Property.{Property}
use Rattle.property_book.specs.declared.verdict.Barred.{Barred}
use Rattle.property_book.specs.declared.verdict.Broken.{Broken}
use Rattle.property_book.specs.declared.verdict.Outcome.{Outcome}
use Rattle.property_book.specs.declared.verdict.Verdict.{Verdict}
use Rattle.property_book.specs.declared.verdict.Verdict.TheVariants.{Certified, NotCertified, NotApplicable}
use Rattle.refine_rounds.specs.Results.{result_of}
use Rattle.implication.specs.Implied.{IsAnswer}
use Rattle.implication.proofs.MeaningLemmas.{answers_are_one}
use Rattle.certify.specs.Counts.{solved_of, total_of}
use Rattle.certify.specs.Results.{IsBrokenWith, IsImpliedWith}
use Rattle.certify.specs.Verdicts.{IsOutcome, IsVerdict}
use Rattle.certify.proofs.VerdictLemmas.{certificates_hold}
use Rattle.desk_judge.specs.Laws.{OutcomesAreOne, VerdictsAreOne}
use Rattle.desk_judge.specs.Verdict.{broken_with, first_broken, or_later, outcome_of, unless_barred, verdict_of}
use Rattle.desk_judge.proofs.AnswerLemmas.{answer_is}

-- ---- the first of the sets

-- the verdict names the first of the sets with which something is broken
abbrev IsFirstOf : (List ℕ → Option Broken) → List (List ℕ) → Verdict → Type 0
IsFirstOf broken sets Certified = (i : ℕ) (failed : List ℕ) → slice_get sets i ≡ Some failed → broken failed ≡ None
IsFirstOf broken sets (NotCertified failed b) =
    (i : ℕ) × (slice_get sets i ≡ Some failed) × (broken failed ≡ Some b) ×
    ((j : ℕ) (other : List ℕ) → j < i → slice_get sets j ≡ Some other → broken other ≡ None)
IsFirstOf broken sets (NotApplicable bar) = ⊥

inside : {X : Type 0} (a b : X) → Some a ≡ Some b → a ≡ b
inside a b e = cc

first_of : (broken : List ℕ → Option Broken) (sets : List (List ℕ)) → IsFirstOf broken sets (first_broken broken sets)
first_of broken [] = λ i failed e. absurd (let n : None ≡ Some failed = e in cc)
first_of broken (set ∷ sets) = go (broken set) refl (first_broken broken sets) (first_of broken sets) where
  here : (other : List ℕ) → broken set ≡ None → Some set ≡ Some other → broken other ≡ None
  here other e f = subst (λ (s : List ℕ). broken s ≡ None) (inside set other f) e

  go : (found : Option Broken) → broken set ≡ found → (later : Verdict) → IsFirstOf broken sets later → IsFirstOf broken (set ∷ sets) (or_later set found later)
  go (Some b) e later h = (0, refl, e, λ j other l f. absurd (omega arith))
  go None e Certified h = each where
    each : (i : ℕ) (failed : List ℕ) → slice_get (set ∷ sets) i ≡ Some failed → broken failed ≡ None
    each zero failed f = here failed e f
    each (suc i) failed f = h i failed f
  go None e (NotCertified failed b) (i, at, is, first) = (suc i, at, is, earlier) where
    earlier : (j : ℕ) (other : List ℕ) → j < suc i → slice_get (set ∷ sets) j ≡ Some other → broken other ≡ None
    earlier zero other l f = here other e f
    earlier (suc j) other l f = first j other (omega arith) f
  go None e (NotApplicable bar) h = absurd h

-- ---- the verdict is one

implied_if : (net : NetValue) (property : Property) (failed : List ℕ) → IsNet net → broken_with net property failed ≡ None → IsImpliedWith net property failed
unfolding broken_with
implied_if net property failed valid e =
    subst (λ (o : Option Broken). IsAnswer net property failed (result_of net property.prefix failed) o) e (answer_is net property failed (result_of net property.prefix failed) valid)

breaks_if : (net : NetValue) (property : Property) (failed : List ℕ) (broken : Broken) → IsNet net → broken_with net property failed ≡ Some broken → IsBrokenWith net property failed broken
unfolding broken_with
breaks_if net property failed broken valid e =
    subst (λ (o : Option Broken). IsAnswer net property failed (result_of net property.prefix failed) o) e (answer_is net property failed (result_of net property.prefix failed) valid)

pub verdict_is : (net : NetValue) (property : Property) → IsNet net → IsVerdict net property (verdict_of net property)
unfolding verdict_of
verdict_is net property valid =
    go (barred net property) refl (first_broken (broken_with net property) (failure_sets (length net.links) property.failures))
    (first_of (broken_with net property) (failure_sets (length net.links) property.failures)) where
      go : (bar : Option Barred) → barred net property ≡ bar → (verdict : Verdict) → IsFirstOf (broken_with net property) (failure_sets (length net.links) property.failures) verdict →
          IsVerdict net property (unless_barred bar verdict)
      go (Some bar) e verdict h = e
      go None e Certified h = record {
        applies = e;
        implied = λ failed permitted.
            let place = (holds_the_permitted (length net.links) property.failures failed).0 permitted in
            implied_if net property failed valid (h place.0 failed place.1);
      }
      go None e (NotCertified failed broken) (i, at, is, first) = record {
        applies = e;
        permitted = (holds_the_permitted (length net.links) property.failures failed).1 (i, at);
        breaks = breaks_if net property failed broken valid is;
        first = λ earlier permitted before.
            let place = (holds_the_permitted (length net.links) property.failures earlier).0 permitted in
            implied_if net property earlier valid
            (first place.0 earlier ((stand_in_order (length net.links) property.failures place.0 i earlier failed place.1 at).0 before) place.1);
      }
      go None e (NotApplicable bar) h = absurd h

apart : (net : NetValue) (property : Property) (failed : List ℕ) (broken : Broken) → IsImpliedWith net property failed → IsBrokenWith net property failed broken → ⊥
apart net property failed broken implied breaks =
    let e : None ≡ Some broken = answers_are_one net property failed (result_of net property.prefix failed) None (Some broken) implied breaks in cc

barred_or_not : (net : NetValue) (property : Property) (bar : Barred) → barred net property ≡ None → barred net property ≡ Some bar → ⊥
barred_or_not net property bar none some = let e : None ≡ Some bar = sym none ∙ some in cc

in_order : (a b : ℕ) → (a < b) ⊎ (a ≡ b) ⊎ (b < a)
in_order a b = grind arith

not_certified : (a b : List ℕ) (c d : Broken) → a ≡ b → c ≡ d → NotCertified a c ≡ NotCertified b d
not_certified a b c d e f = λ i. NotCertified (e i) (f i)

verdict_one : (net : NetValue) (property : Property) (a b : Verdict) → IsVerdict net property a → IsVerdict net property b → a ≡ b
verdict_one net property Certified Certified h i = refl
verdict_one net property Certified (NotCertified failed broken) h i = absurd (apart net property failed broken (h.implied failed i.permitted) i.breaks)
verdict_one net property Certified (NotApplicable bar) h i = absurd (barred_or_not net property bar h.applies i)
verdict_one net property (NotCertified failed broken) Certified h i = absurd (apart net property failed broken (i.implied failed h.permitted) h.breaks)
verdict_one net property (NotCertified failed broken) (NotApplicable bar) h i = absurd (barred_or_not net property bar h.applies i)
verdict_one net property (NotApplicable bar) Certified h i = absurd (barred_or_not net property bar i.applies h)
verdict_one net property (NotApplicable bar) (NotCertified failed broken) h i = absurd (barred_or_not net property bar i.applies h)
verdict_one net property (NotApplicable bar) (NotApplicable other) h i = ap NotApplicable (inside bar other (sym h ∙ i))
verdict_one net property (NotCertified failed broken) (NotCertified other cause) h i =
    let sets = failure_sets (length net.links) property.failures in
    let p = (holds_the_permitted (length net.links) property.failures failed).0 h.permitted in
    let q = (holds_the_permitted (length net.links) property.failures other).0 i.permitted in
    elim (in_order p.0 q.0) [
      | inl less ↦ absurd (apart net property failed broken (i.first failed h.permitted ((stand_in_order (length net.links) property.failures p.0 q.0 failed other p.1 q.1).1 less)) h.breaks)
      | inr (inl same) ↦
          let one : failed ≡ other = inside failed other (sym p.1 ∙ ap (λ (n : ℕ). slice_get sets n) same ∙ q.1) in
          not_certified failed other broken cause one
          (inside broken cause (answers_are_one net property other (result_of net property.prefix other) (Some broken) (Some cause) (subst (λ (s : List ℕ). IsBrokenWith net property s broken) one h.breaks) i.breaks))
      | inr (inr more) ↦ absurd (apart net property other cause (h.first other i.permitted ((stand_in_order (length net.links) property.failures q.0 p.0 other failed q.1 p.1).1 more)) i.breaks)
    ]

pub verdicts_are_one : VerdictsAreOne
verdicts_are_one net property verdict valid = (
  (λ is. verdict_one net property verdict (verdict_of net property) is (verdict_is net property valid)),
  (λ e. subst (λ (v : Verdict). IsVerdict net property v) (sym e) (verdict_is net property valid)),
)

-- ---- of a book

verdicts_are : (net : NetValue) (book : List Property) (verdicts : List Verdict) → IsNet net → AllZip (IsVerdict net) book verdicts → verdicts ≡ map (verdict_of net) book
verdicts_are net [] [] valid all = refl
verdicts_are net [] (verdict ∷ verdicts) valid all = absurd all
verdicts_are net (property ∷ book) [] valid all = absurd all
verdicts_are net (property ∷ book) (verdict ∷ verdicts) valid all =
    ap (λ (v : Verdict). v ∷ verdicts) (verdict_one net property verdict (verdict_of net property) all.0 (verdict_is net property valid)) ∙
    ap (λ (vs : List Verdict). verdict_of net property ∷ vs) (verdicts_are net book verdicts valid all.1)

all_are : (net : NetValue) (book : List Property) → IsNet net → AllZip (IsVerdict net) book (map (verdict_of net) book)
all_are net [] valid = tt
all_are net (property ∷ book) valid = (verdict_is net property valid, all_are net book valid)

pub holds_if_certified : (net : NetValue) (property : Property) → IsNet net → verdict_of net property ≡ Certified → Holds net property
holds_if_certified net property valid e = certificates_hold net property valid (subst (λ (v : Verdict). IsVerdict net property v) e (verdict_is net property valid))

all_hold : (net : NetValue) (book : List Property) → IsNet net → AllZip (HoldsIfCertified net) book (map (verdict_of net) book)
all_hold net [] valid = tt
all_hold net (property ∷ book) valid = (holds_if_certified net property valid, all_hold net book valid)

same_outcome : (a b : Outcome) → a.verdicts ≡ b.verdicts → a.solved ≡ b.solved → a.total ≡ b.total → a ≡ b
same_outcome a b e f g = λ i. record { verdicts = e i; solved = f i; total = g i }

pub outcome_is : (net : NetValue) (book : List Property) (outcome : Outcome) → IsNet net → IsOutcome net book outcome → outcome ≡ outcome_of net book
unfolding outcome_of
outcome_is net book outcome valid is =
    same_outcome outcome (record { verdicts = map (verdict_of net) book; solved = solved_of net book; total = total_of net book })
    (verdicts_are net book outcome.verdicts valid is.verdicts) is.solved is.total

is_outcome : (net : NetValue) (book : List Property) → IsNet net → IsOutcome net book (outcome_of net book)
unfolding outcome_of
is_outcome net book valid = record { verdicts = all_are net book valid; holds = all_hold net book valid; total = refl; solved = refl }

pub outcomes_are_one : OutcomesAreOne
outcomes_are_one net book outcome valid = (
  (λ is. outcome_is net book outcome valid is),
  (λ e. subst (λ (o : Outcome). IsOutcome net book o) (sym e) (is_outcome net book valid)),
)
