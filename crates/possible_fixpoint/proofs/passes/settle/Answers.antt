use Rattle.std.proofs.Common.{arith}
use Rattle.std.proofs.lemmas.Bool.Decides.{nat_tests}
use Rattle.possible_fixpoint.proofs.PassLemmas.{left_falls, settled}
use Rattle.possible_fixpoint.proofs.passes.settle.Goals as goal

pub loop-marks-smaller : goal.loop-marks-smaller
loop-marks-smaller g c =
    left_falls (g.A.Analysis.flow c.args.analysis.now) c.loop-marks.rows c.turn-marks.new.rows c.turn-marks.result.gave c.loop-marks.marks.changed c.turn-marks.result.changed
    (let a = c.is_empty.ensures in let b = c.loop-marks-test.true in grind (arith, nat_tests))
    c.turn-marks.ensures.standing c.turn-marks.ensures.turned

pub returns : goal.returns
returns g c =
    settled (g.A.Analysis.flow c.args.analysis.now) c.loop-marks.rows c.loop-marks.marks.gave c.loop-marks.marks.changed c.requires.solvable.lawful
    (let a = c.is_empty.ensures in let b = c.loop-marks-test.false in grind (arith, nat_tests))
    c.loop-marks.invariant
