use Rattle.std.proofs.Common.{List, Result, Ok, ap, sym, ◌∙◌}
use Rattle.net_types.specs.declared.config.RouterConfig.{RouterConfig}
use Rattle.net_types.specs.declared.refusals.BundleRefusal.{BundleRefusal}
use Rattle.bundle_reader.proofs.FileLemmas.{IsRefusalOf-answer, IsAnswerOn-said}
use Rattle.bundle_reader.proofs.bundles.read_bundle.Goals as goal

pub returns-in-Ok-clause-meaning : goal.returns-in-Ok-clause-meaning
returns-in-Ok-clause-meaning c =
    IsAnswerOn-said c.args.files.now c.as_slice.result.now c.net_of.result
    (c.in-Ok.ensures.exact ∙ ap (λ (cs : List RouterConfig). let r : Result (List RouterConfig) BundleRefusal = Ok cs in r) (sym c.as_slice.ensures))
    c.net_of.ensures.meaning

pub returns-in-Err-clause-meaning : goal.returns-in-Err-clause-meaning
returns-in-Err-clause-meaning c = IsRefusalOf-answer c.args.files.now c.in-Err.refusal c.in-Err.ensures.exact
