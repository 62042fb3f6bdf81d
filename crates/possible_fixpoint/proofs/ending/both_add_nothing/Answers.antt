use Rattle.std.proofs.Common.{ap}
use Rattle.net_types.specs.declared.arcs.Arc.{Arc}
use Rattle.possible_fixpoint.proofs.PhaseLemmas.{both_met, met_at}
use Rattle.possible_fixpoint.proofs.ending.both_add_nothing.Goals as goal

pub returns-clause-yes : goal.returns-clause-yes
returns-clause-yes g c =
    λ yes before. both_met (g.A.Analysis.flow c.args.analysis.now) c.args.rows.now c.args.link c.both.result.0 c.both.result.1 c.both.ensures.up c.both.ensures.down (c.adds_nothing.ensures.yes c.if-not-adds_nothing.false) (c.adds_nothing-2.ensures.yes yes) before

pub returns-clause-no : goal.returns-clause-no
returns-clause-no g c =
    λ no all. c.adds_nothing-2.ensures.no no (met_at (g.A.Analysis.flow c.args.analysis.now) c.args.rows.now c.args.link c.both.result.1 (ap (λ (a : Arc). a.link) c.both.ensures.down) c.requires.link all)

pub returns-then-not-adds_nothing-clause-no : goal.returns-then-not-adds_nothing-clause-no
returns-then-not-adds_nothing-clause-no g c =
    λ no all. c.adds_nothing.ensures.no c.if-not-adds_nothing.true (met_at (g.A.Analysis.flow c.args.analysis.now) c.args.rows.now c.args.link c.both.result.0 (ap (λ (a : Arc). a.link) c.both.ensures.up) c.requires.link all)
