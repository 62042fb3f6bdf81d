use Rattle.std.proofs.Common.{sym}
use Rattle.review_rules.proofs.IndexLemmas.{no_head}
use Rattle.review_rules.proofs.desk.Desk.merged_as.Goals as goal

pub returns-then-head-eq0 : goal.returns-then-head-eq0
returns-then-head-eq0 c = sym (no_head c.args.self.now.state.tables c.args.head c.merges-numbers.ensures.valid c.if-head-eq0.true)
