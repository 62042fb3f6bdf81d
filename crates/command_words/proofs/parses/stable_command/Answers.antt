use Rattle.std.proofs.Common.{rules, ap, ap₂, codes, true, ◌≡◌, ◌∙◌}
use Rattle.std.proofs.lemmas.Result.{IfOk-weaker}
use Rattle.clap.specs.Words.{app_of, rule_of, with_rule}
use Rattle.clap.specs.Simple.{app_of_fields, on_top}
use Rattle.command_words.specs.Apps.{bare, needed}
use Rattle.command_words.proofs.parses.stable_command.Goals as goal

pub returns : goal.returns
returns c =
    let bundle_is : rule_of c.required-bundle.result ≡ needed (codes "BUNDLE") = search rules in
    let labels_is : rule_of c.required-labels.result ≡ needed (codes "LABELS") = search rules in
    let none : app_of c.disable_help_flag.result ≡ bare (codes "stable") = ap app_of_fields c.disable_help_flag.ensures ∙ ap (on_top (λ s. record s { disable_help_flag = true })) c.new-3.ensures.app in
    let one = c.in_ok-arg.ensures.shape (search rules) ∙ ap₂ with_rule none bundle_is in
    IfOk-weaker c.arg-2.result _ _ (λ command adds. adds.shape (search rules) ∙ ap₂ with_rule one labels_is) c.arg-2.ensures
