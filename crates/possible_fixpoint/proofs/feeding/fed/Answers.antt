use Rattle.std.proofs.Common.{arith}
use Rattle.std.proofs.lemmas.Bool.Decides.{nat_tests}
use Rattle.possible_fixpoint.proofs.FeedLemmas.{feeding_begins, feeding_goes_on, feeding_ends, feeding_falls}
use Rattle.possible_fixpoint.proofs.feeding.fed.Goals as goal

pub loop-set-init : goal.loop-set-init
loop-set-init g c =
    feeding_begins (g.A.Analysis.flow c.args.analysis.now) c.args.gave.now c.receivers.result c.common-next.result
    c.requires.solvable c.requires.living c.receivers.ensures.found c.common-next.ensures

pub loop-set-smaller : goal.loop-set-smaller
loop-set-smaller g c =
    feeding_falls (g.A.Analysis.flow c.args.analysis.now) c.args.gave.now c.loop-set.set c.loop-set.next c.loop-set.invariant
    (let a = c.ne.ensures in let b = c.loop-set-test.true in grind (arith, nat_tests))

pub loop-set-preserved : goal.loop-set-preserved
loop-set-preserved g c =
    feeding_goes_on (g.A.Analysis.flow c.args.analysis.now) c.args.gave.now c.loop-set.set c.loop-set.next c.receivers-in-loop-set.result c.common-next-in-loop-set.result
    c.requires.solvable c.requires.living c.loop-set.invariant c.receivers-in-loop-set.ensures.found c.common-next-in-loop-set.ensures

pub returns : goal.returns
returns g c = record {
  greatest =
      feeding_ends (g.A.Analysis.flow c.args.analysis.now) c.args.gave.now c.loop-set.set c.loop-set.next c.loop-set.invariant
      (let a = c.ne.ensures in let b = c.loop-set-test.false in grind (arith, nat_tests));
}
