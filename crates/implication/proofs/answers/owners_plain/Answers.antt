use Rattle.std.proofs.Common.{◌&&◌, ◌∙◌}
use Rattle.implication.specs.OnTheWay.{view_seen}
use Rattle.implication.proofs.SetLemmas.{every_if_none}
use Rattle.implication.proofs.answers.owners_plain.Goals as goal

pub returns : goal.returns
returns c =
    c.is_empty.ensures ∙
    every_if_none (λ u. (view_seen c.args.seen.now).owner u && (view_seen c.args.seen.now).may_learn u) (view_seen c.args.seen.now).count c.learning_owners.result c.learning_owners.ensures
