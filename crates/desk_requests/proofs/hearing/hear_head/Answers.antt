use Rattle.std.proofs.Common.{◌≤◌, subst, ℕ, List, length, take, arith}
use Rattle.desk_requests.specs.Plans.{Plans}
use Rattle.desk_requests.proofs.HearLemmas.{hears_plan}
use Rattle.desk_requests.proofs.hearing.hear_head.Goals as goal

pub returns-in-Ok-clause-told : goal.returns-in-Ok-clause-told
returns-in-Ok-clause-told g c = λ t r e.
    let same = c.deref.ensures.value in
    let w : c.args.len ≤ length c.args.bytes.now.items = omega (arith, c.requires.within, c.args.bytes.now.ok.0) in
    let plans : Plans (take c.args.len c.args.bytes.now.items) c.in-Ok.heard = subst (λ (xs : List ℕ). Plans (take c.args.len xs) c.in-Ok.heard) same c.in-Ok.ensures.heard in
    hears_plan t c.args.bytes.now.items _ _ c.args.len c.in-Ok.heard c.hear_rest.result r e w plans (c.hear_rest.ensures.told t r)
