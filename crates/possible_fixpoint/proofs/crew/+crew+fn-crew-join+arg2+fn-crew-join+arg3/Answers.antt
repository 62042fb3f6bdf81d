use Rattle.std.proofs.Common.{◌+◌, ◌-◌, ◌/◌, refl, arith}
use Rattle.possible_fixpoint.proofs.PhaseLemmas.{crew_fed, crew_grown}
use Rattle.possible_fixpoint.proofs.crew.«+crew+fn-crew-join+arg2+fn-crew-join+arg3».Goals as goal

pub returns-clause-grown : goal.returns-clause-grown
returns-clause-grown g t c =
    crew_grown (g.A.Analysis.flow c.args.analysis.now) c.args.shift.seat c.parted-one.result.0.seat c.parted-one.result.1.seat c.join-a.result.0.seat c.join-a.result.1.seat c.together.result.seat
    c.parted-one.ensures.0 c.parted-one.ensures.1 c.join-a.ensures.first.0 c.join-a.ensures.second.0 c.together.ensures

pub returns-clause-fed : goal.returns-clause-fed
returns-clause-fed g t c =
    crew_fed (g.A.Analysis.flow c.args.analysis.now) c.args.shift.seat c.parted-one.result.0.seat c.parted-one.result.1.seat c.join-a.result.0.seat c.join-a.result.1.seat c.together.result.seat
    c.args.first (c.args.many / 2) (c.args.many - c.args.many / 2) (c.args.first + c.args.many / 2) c.args.many c.args.workers
    c.parted-one.ensures.0 c.parted-one.ensures.1 c.join-a.ensures.first.0 c.join-a.ensures.second.0 c.together.ensures
    (omega arith) refl c.join-a.ensures.first.1 c.join-a.ensures.second.1
