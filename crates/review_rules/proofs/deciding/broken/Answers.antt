use Rattle.std.proofs.Common.{sym, ◌∙◌, ap}
use Rattle.review_rules.specs.Rules.{early, late, or_else, first_broken}
use Rattle.review_rules.proofs.RuleLemmas.{broken_parts}
use Rattle.review_rules.proofs.deciding.broken.Goals as goal

pub returns-in-Some : goal.returns-in-Some
returns-in-Some c =
    let s = c.args.desk.now.state in
    let r = c.args.request.now in
    let command = r.command in
    sym (broken_parts (early command) (late c.args.answer.now command) s r ∙ ap (λ o. or_else o (first_broken (late c.args.answer.now command) s r)) (sym c.in-Some.ensures.rule))
