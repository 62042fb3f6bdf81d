use Rattle.std.proofs.Common.{◌≡◌, None, sym, ◌∙◌, ap, rules}
use Rattle.desk_tables.specs.Tables.{kept_of}
use Rattle.review_rules.specs.Rules.{decided}
use Rattle.review_rules.proofs.RuleLemmas.{fresh_decision}
use Rattle.review_rules.proofs.deciding.decide_for.Goals as goal

pub returns-in-None : goal.returns-in-None
returns-in-None c =
    let fresh : kept_of c.args.desk.now.state.tables c.args.user.now.name c.args.request.now.key ≡ None = search rules in
    c.decision_of.ensures c.args.desk.now.state.tables ∙ ap (decided c.args.desk.now.state.tables None) c.broken.ensures ∙ sym (fresh_decision c.args.desk.now.state c.args.request.now c.args.answer.now c.args.user.now c.requires fresh)
