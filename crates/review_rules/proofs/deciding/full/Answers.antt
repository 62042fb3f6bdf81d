use Rattle.std.proofs.Common.{◌+◌, ◌-◌, sym, ◌∙◌, ap}
use Rattle.desk_tables.specs.Tables.{bytes_of}
use Rattle.review_rules.proofs.RuleLemmas.{bytes_accepted}
use Rattle.review_rules.specs.Rules.{over, cost_of, freed_of}
use Rattle.review_rules.proofs.deciding.full.Goals as goal

pub returns : goal.returns
returns c = c.over.ensures (bytes_of c.args.desk.now.state.tables - freed_of c.args.desk.now.state.tables c.args.request.now.command + cost_of c.args.answer.now c.args.request.now.command) (rw c.freed.ensures.value at (c.bytes_after.ensures.bytes (cost_of c.args.answer.now c.args.request.now.command) c.cost.ensures)) ∙ ap over (sym (bytes_accepted c.args.desk.now.state c.args.request.now c.args.answer.now c.args.user.now c.bytes_after.ensures.valid c.requires.asker c.requires.fresh c.requires.first))
