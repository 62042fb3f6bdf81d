use Rattle.std.proofs.Common.{rules, ap, ap₂, codes, true, ◌≡◌, ◌∙◌}
use Rattle.std.proofs.lemmas.Result.{IfOk-weaker}
use Rattle.clap.specs.Words.{app_of, new_rule, rule_of, with_rule}
use Rattle.clap.specs.Simple.{app_of_fields, on_top}
use Rattle.command_words.specs.Apps.{bare, needed}
use Rattle.command_words.proofs.parses.check_command.Goals as goal

pub returns : goal.returns
returns c =
    let base_is : rule_of c.required-base.result ≡ needed (codes "BASE") = search rules in
    let new_is : rule_of c.required-new.result ≡ needed (codes "NEW") = search rules in
    let props_is : rule_of c.required-props.result ≡ needed (codes "PROPS") = search rules in
    let workers_is : rule_of c.new-workers.result ≡ new_rule (codes "WORKERS") = search rules in
    let none : app_of c.disable_help_flag.result ≡ bare (codes "check") = ap app_of_fields c.disable_help_flag.ensures ∙ ap (on_top (λ s. record s { disable_help_flag = true })) c.new-4.ensures.app in
    let one = c.in_ok-arg.ensures.shape (search rules) ∙ ap₂ with_rule none base_is in
    let two = c.in_ok-arg-2.ensures.shape (search rules) ∙ ap₂ with_rule one new_is in
    let three = c.in_ok-arg-3.ensures.shape (search rules) ∙ ap₂ with_rule two props_is in
    IfOk-weaker c.arg-4.result _ _ (λ command adds. adds.shape (search rules) ∙ ap₂ with_rule three workers_is) c.arg-4.ensures
