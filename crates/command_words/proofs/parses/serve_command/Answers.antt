use Rattle.std.proofs.Common.{rules, ap, ap₂, codes, true, ◌≡◌, ◌∙◌}
use Rattle.std.proofs.lemmas.Result.{IfOk-weaker}
use Rattle.clap.specs.Words.{app_of, new_rule, rule_of, with_rule}
use Rattle.clap.specs.Simple.{app_of_fields, on_top}
use Rattle.command_words.specs.Apps.{bare, needed}
use Rattle.command_words.proofs.parses.serve_command.Goals as goal

pub returns : goal.returns
returns c =
    let store_is : rule_of c.required-store.result ≡ needed (codes "DB") = search rules in
    let port_is : rule_of c.required-port.result ≡ needed (codes "PORT") = search rules in
    let count_is : rule_of c.required-count.result ≡ needed (codes "COUNT") = search rules in
    let users_is : rule_of c.required-users.result ≡ needed (codes "USERS") = search rules in
    let workers_is : rule_of c.new-workers.result ≡ new_rule (codes "WORKERS") = search rules in
    let none : app_of c.disable_help_flag.result ≡ bare (codes "serve") = ap app_of_fields c.disable_help_flag.ensures ∙ ap (on_top (λ s. record s { disable_help_flag = true })) c.new-5.ensures.app in
    let one = c.in_ok-arg.ensures.shape (search rules) ∙ ap₂ with_rule none store_is in
    let two = c.in_ok-arg-2.ensures.shape (search rules) ∙ ap₂ with_rule one port_is in
    let three = c.in_ok-arg-3.ensures.shape (search rules) ∙ ap₂ with_rule two count_is in
    let four = c.in_ok-arg-4.ensures.shape (search rules) ∙ ap₂ with_rule three users_is in
    IfOk-weaker c.arg-5.result _ _ (λ command adds. adds.shape (search rules) ∙ ap₂ with_rule four workers_is) c.arg-5.ensures
