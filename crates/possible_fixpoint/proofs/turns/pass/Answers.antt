use Rattle.std.proofs.Common.{arith}
use Rattle.possible_fixpoint.proofs.WorkLemmas.{turning_begins, turning_on}
use Rattle.possible_fixpoint.proofs.turns.pass.Goals as goal

pub loop-router-init : goal.loop-router-init
loop-router-init g c =
    turning_begins (g.A.Analysis.flow c.args.analysis.now) c.args.worker c.args.workers c.args.seat c.args.notes.now c.requires.works c.requires.kept c.requires.raised

pub loop-router-preserved : goal.loop-router-preserved
loop-router-preserved g c =
    turning_on (g.A.Analysis.flow c.args.analysis.now) c.args.worker c.args.workers c.loop-router.router c.args.seat c.loop-router.seat c.serve_own-next.result.0 c.loop-router.notes c.serve_own-next.new.notes c.loop-router.changed c.serve_own-next.result.1
    (let a = c.loop-router-test.true in let b = c.routers-router-end.ensures in omega arith) c.loop-router.invariant c.serve_own-next.ensures.stood c.serve_own-next.ensures.fed
