use Rattle.std.proofs.Common.{◌∙◌, Some}
use Rattle.std.proofs.lemmas.Result.{IfOk-weaker}
use Rattle.desk_requests.specs.Plans.{heard_from}
use Rattle.desk_requests.proofs.parsing.heard.Goals as goal

pub returns-in-Some-clause-heard : goal.returns-in-Some-clause-heard
returns-in-Some-clause-heard c =
    let found = c.in-Some.ensures.some in
    let h = found.0 in
    let at = found.2 in
    IfOk-weaker c.heard_at.result _ _ (λ x e. (Some h, found.1, e ∙ (λ i. heard_from (at.method i) (at.path i) (at.fields i)))) c.heard_at.ensures.heard
