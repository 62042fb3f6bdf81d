use Rattle.std.proofs.Common.{arith}
use Rattle.possible_fixpoint.proofs.PhaseLemmas.{bottoms_way, none_least}
use Rattle.possible_fixpoint.proofs.phases.solve.Goals as goal

pub returns-then-routers-eq0 : goal.returns-then-routers-eq0
returns-then-routers-eq0 g c =
    none_least (g.A.Analysis.flow c.args.analysis.now) c.in_ok-rows.rows c.routers.result c.requires.solvable c.routers.ensures c.in_ok-rows.ensures (omega (arith, c.routers-2.ensures, c.routers.ensures, c.if-routers-eq0.true))

pub settle-requires-clause-way : goal.settle-requires-clause-way
settle-requires-clause-way g c =
    λ κs bounds. bottoms_way (g.A.Analysis.flow c.args.analysis.now) c.in_ok-rows.rows c.routers.result c.requires.solvable c.routers.ensures c.in_ok-rows.ensures
