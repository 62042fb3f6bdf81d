use Rattle.implication.specs.OnTheWay.{view_seen}
use Rattle.implication.specs.OnTheWay.{leads}
use Rattle.std.proofs.Common.{sym, ◌∙◌}
use Rattle.implication.proofs.ReachLemmas.{after_more}
use Rattle.implication.proofs.ways.with_after.Goals as goal

pub returns-then-has : goal.returns-then-has
returns-then-has c =
    rw c.union.ensures (after_more (leads (view_seen c.args.seen.now) c.args.way) (view_seen c.args.seen.now).count c.args.set c.args.from c.args.found c.after.result
    (sym c.has.ensures ∙ c.if-has.true) c.after.ensures c.requires.before)
