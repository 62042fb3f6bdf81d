use Rattle.std.proofs.Common.{sym, ◌∙◌, refl}
use Rattle.possible_fixpoint.proofs.WorkLemmas.{stood_still}
use Rattle.possible_fixpoint.proofs.lengths.lift_own.Goals as goal

pub returns-then-router-workers : goal.returns-then-router-workers
returns-then-router-workers g c =
    stood_still (g.A.Analysis.flow c.args.analysis.now) c.args.seat c.args.seat c.args.notes.now c.requires.works refl c.requires.kept c.requires.raised

pub returns-then-not-has : goal.returns-then-not-has
returns-then-not-has g c =
    stood_still (g.A.Analysis.flow c.args.analysis.now) c.args.seat c.args.seat c.args.notes.now c.requires.works refl c.requires.kept c.requires.raised

pub lift-requires-clause-high : goal.lift-requires-clause-high
lift-requires-clause-high g c =
    rw (c.from.ensures, c.routers.ensures) (c.requires.climbs.each c.args.router (sym c.has.ensures ∙ c.if-not-has.false))
