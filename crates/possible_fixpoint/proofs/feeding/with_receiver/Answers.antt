use Rattle.std.proofs.Common.{sym, ◌∙◌}
use Rattle.possible_fixpoint.proofs.FeedLemmas.{found_there}
use Rattle.possible_fixpoint.proofs.feeding.with_receiver.Goals as goal

pub returns-then-has-2 : goal.returns-then-has-2
returns-then-has-2 g c = record {
  found =
      found_there (g.A.Analysis.flow c.args.analysis.now) c.args.gave.now c.args.set c.args.found c.sender.result c.receiver.result c.with.result c.args.arc
      (sym c.has.ensures ∙ c.if-has.true) c.sender.ensures (sym c.has-then-has.ensures ∙ c.if-has-2.true) c.receiver.ensures c.with.ensures c.requires.before;
}
