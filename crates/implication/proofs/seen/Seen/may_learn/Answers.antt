use Rattle.std.proofs.Common.{not, ap, ◌∙◌}
use Rattle.implication.specs.OnTheWay.{view_seen}
use Rattle.implication.proofs.SetLemmas.{some_if_set}
use Rattle.implication.proofs.seen.Seen.may_learn.Goals as goal

pub returns : goal.returns
returns c =
    ap not c.is_empty.ensures ∙
    some_if_set ((view_seen c.args.self.now).back c.args.router) (view_seen c.args.self.now).count c.backs.result c.backs.ensures
