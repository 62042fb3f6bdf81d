use Rattle.review_rules.specs.Changes.{kind_cost}
use Rattle.review_rules.proofs.TakeLemmas.{bytes_exact}
use Rattle.review_rules.proofs.desk.Desk.bytes_with.Goals as goal

pub returns : goal.returns
returns c = bytes_exact c.args.self.now.state.tables c.args.change.now c.bytes_after.result c.bytes_after.ensures.valid c.requires (rw c.freed_by.ensures.value at (c.bytes_after.ensures.bytes (kind_cost c.args.change.now.kind) c.cost_of.ensures))
