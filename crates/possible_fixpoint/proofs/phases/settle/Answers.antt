use Rattle.possible_fixpoint.proofs.PhaseLemmas.{next_way, phases_go_on, settled}
use Rattle.possible_fixpoint.proofs.phases.settle.Goals as goal

pub returns-then-is_solved : goal.returns-then-is_solved
returns-then-is_solved g c =
    settled (g.A.Analysis.flow c.args.analysis.now) c.as_slice.result.now c.in_ok-rows.rows c.as_slice-in-loop-rows.result.now c.requires.solvable c.in_ok-rows.ensures c.as_slice-in-loop-rows.ensures (c.is_solved.ensures.yes c.if-is_solved.true)

pub loop-rows-preserved : goal.loop-rows-preserved
loop-rows-preserved g c =
    next_way (g.A.Analysis.flow c.args.analysis.now) c.as_slice.result.now c.in_ok-rows.rows c.in_ok-rows.ensures

pub loop-rows-smaller : goal.loop-rows-smaller
loop-rows-smaller g c =
    phases_go_on (g.A.Analysis.flow c.args.analysis.now) c.loop-rows.rows c.as_slice.result.now c.in_ok-rows.rows c.as_slice-in-loop-rows.result.now c.loop-rows.invariant c.as_slice.ensures c.in_ok-rows.ensures c.as_slice-in-loop-rows.ensures (c.is_solved.ensures.no c.if-is_solved.false)
