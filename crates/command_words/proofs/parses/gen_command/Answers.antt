use Rattle.std.proofs.Common.{rules, ap, ap₂, codes, true, ◌≡◌, ◌∙◌}
use Rattle.std.proofs.lemmas.Result.{IfOk-weaker}
use Rattle.clap.specs.Words.{app_of, new_rule, rule_of, with_rule}
use Rattle.clap.specs.Simple.{app_of_fields, on_top}
use Rattle.command_words.specs.Apps.{bare, needed}
use Rattle.command_words.proofs.parses.gen_command.Goals as goal

pub returns : goal.returns
returns c =
    let number_is : rule_of c.required-number.result ≡ needed (codes "N") = search rules in
    let workers_is : rule_of c.new-workers.result ≡ new_rule (codes "WORKERS") = search rules in
    let none : app_of c.disable_help_flag.result ≡ bare (codes "gen") = ap app_of_fields c.disable_help_flag.ensures ∙ ap (on_top (λ s. record s { disable_help_flag = true })) c.new-2.ensures.app in
    let one = c.in_ok-arg.ensures.shape (search rules) ∙ ap₂ with_rule none number_is in
    IfOk-weaker c.arg-2.result _ _ (λ command adds. adds.shape (search rules) ∙ ap₂ with_rule one workers_is) c.arg-2.ensures
