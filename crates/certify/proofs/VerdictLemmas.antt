-- From the walk over the cases to the verdicts, and what a certificate says.
use Rattle.std.proofs.Common.{ℕ, ◌≡◌, ◌<◌, ◌≤◌, ◌↔◌, true, false, arith, length, List, [], ◌∷◌, Option, Some, None, Result, Ok, Err, refl, sym, ◌∙◌, subst}
use Rattle.std.specs.List.{AllZip}
use Rattle.net_types.specs.NetFacts.{IsNet}
use Rattle.net_types.specs.NetValue.{NetValue}
use Rattle.net_types.specs.Numbering.{router_number}
use Rattle.net_types.specs.FailSets.{without}
use Rattle.net_types.specs.declared.routes.Route.{Route}
use Rattle.ospf_paths.specs.DistanceList.{distance_list}
use Rattle.ospf_paths.proofs.ListLemmas.{distance_list_is}
use Rattle.property_book.specs.declared.property.Property.{Property}
use Rattle.property_book.specs.declared.verdict.Broken.{Broken}
use Rattle.property_book.specs.declared.verdict.Outcome.{Outcome}
use Rattle.property_book.specs.declared.verdict.Verdict.{Verdict}
use Rattle.property_book.specs.declared.verdict.Verdict.TheVariants.{Certified, NotCertified, NotApplicable}
use Rattle.property_book.specs.Meaning.{Holds, HoldsIfCertified}
use Rattle.refine_rounds.proofs.IdleLemmas.{idle_links_are}
use Rattle.refine_rounds.proofs.ReuseLemmas.{idle_links_may_fail}
use Rattle.implication.proofs.TellLemmas.{what_is_implied_holds}
use Rattle.implication.proofs.AlikeLemmas.{idle_links_keep_answers}
use Rattle.case_walk.specs.declared.refusal.CertifyRefusal.{CertifyRefusal}
use Rattle.case_walk.specs.declared.refusal.CertifyRefusal.TheVariants.{CasesLimit, NoMemory}
use Rattle.case_walk.specs.Analysis.{Analysis, AreReusable}
use Rattle.case_walk.specs.Outcomes as Walk
use Rattle.case_walk.specs.Verdicts as Walked
use Rattle.certify.specs.Laws.{CertificatesHold}
use Rattle.certify.specs.Results.{IsBrokenWith, IsImpliedWith, analysis_of}
use Rattle.certify.specs.Verdicts.{Answers, IsCertified, IsNotCertified, IsOutcome, IsVerdict}

pub certificates_hold : CertificatesHold
certificates_hold net property valid certified = λ u at failed permitted. (
  distance_list net property.prefix failed,
  distance_list_is net property.prefix failed valid,
  λ labels stable. what_is_implied_holds net property failed valid (certified.implied failed permitted) u at labels stable,
)

-- where an idle link fails too, the case need not be solved
pub are_reusable : (net : NetValue) → IsNet net → AreReusable (length net.links) (analysis_of net)
are_reusable net valid = record {
  idle = λ prefix set link other permitted held idle out. (idle_links_may_fail net prefix set link valid held ((idle_links_are net prefix (without set link) link).0 idle)).idle other out;
  implied = λ property set link permitted held idle. idle_links_keep_answers net property set link valid held ((idle_links_are net property.prefix (without set link) link).0 idle);
}

verdict_is : (net : NetValue) (property : Property) (verdict : Verdict) → Walked.IsVerdict net (analysis_of net) property verdict → IsVerdict net property verdict
verdict_is net property Certified is = record { applies = is.applies; implied = is.implied }
verdict_is net property (NotCertified failed broken) is = record { applies = is.applies; permitted = is.first.permitted; breaks = is.first.is_broken; first = is.first.first }
verdict_is net property (NotApplicable bar) is = is

verdicts_are : (net : NetValue) (book : List Property) (verdicts : List Verdict) → AllZip (Walked.IsVerdict net (analysis_of net)) book verdicts → AllZip (IsVerdict net) book verdicts
verdicts_are net [] [] all = all
verdicts_are net [] (verdict ∷ verdicts) all = absurd all
verdicts_are net (property ∷ book) [] all = absurd all
verdicts_are net (property ∷ book) (verdict ∷ verdicts) all = (verdict_is net property verdict all.0, verdicts_are net book verdicts all.1)

holds_if : (net : NetValue) (property : Property) (verdict : Verdict) → IsNet net → IsVerdict net property verdict → HoldsIfCertified net property verdict
holds_if net property verdict valid is = λ same. certificates_hold net property valid (subst (λ (v : Verdict). IsVerdict net property v) same is)

all_hold : (net : NetValue) (book : List Property) (verdicts : List Verdict) → IsNet net → AllZip (IsVerdict net) book verdicts → AllZip (HoldsIfCertified net) book verdicts
all_hold net [] [] valid all = all
all_hold net [] (verdict ∷ verdicts) valid all = absurd all
all_hold net (property ∷ book) [] valid all = absurd all
all_hold net (property ∷ book) (verdict ∷ verdicts) valid all = (holds_if net property verdict valid all.0, all_hold net book verdicts valid all.1)

outcome_is : (net : NetValue) (book : List Property) (outcome : Outcome) → IsNet net → Walk.IsOutcome net (analysis_of net) book outcome → IsOutcome net book outcome
outcome_is net book outcome valid is =
    let verdicts = verdicts_are net book outcome.verdicts is.verdicts in
    record { verdicts = verdicts; holds = all_hold net book outcome.verdicts valid verdicts; total = is.total; solved = is.solved }

pub answers : (net : NetValue) (book : List Property) (found : Result Outcome CertifyRefusal) → IsNet net → Walk.IsAnswer net (analysis_of net) book found → Answers net book found
answers net book (Ok outcome) valid is = (outcome_is net book outcome valid is.0, is.1)
answers net book (Err (CasesLimit n)) valid is = (is.cases, is.many)
answers net book (Err NoMemory) valid is = is
