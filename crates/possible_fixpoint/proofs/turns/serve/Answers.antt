use Rattle.possible_fixpoint.proofs.WorkLemmas.{served_raised, served_same}
use Rattle.possible_fixpoint.proofs.turns.serve.Goals as goal

pub returns-then-grew-clause-stood : goal.returns-then-grew-clause-stood
returns-then-grew-clause-stood g c =
    (served_raised (g.A.Analysis.flow c.args.analysis.now) c.args.router c.args.seat c.gather-seat.result.0 c.offer.result.0 c.args.notes.now c.gather-seat.new.notes c.gather-seat.result.1 c.offer.result.1 c.requires.solvable c.requires.within c.requires.works c.gather-seat.ensures.same c.requires.raised
    c.gather-seat.ensures.local c.gather-seat.ensures.gathers c.offer.ensures.raised c.offer.ensures.grown).stood

pub returns-then-grew-clause-fed : goal.returns-then-grew-clause-fed
returns-then-grew-clause-fed g c =
    (served_raised (g.A.Analysis.flow c.args.analysis.now) c.args.router c.args.seat c.gather-seat.result.0 c.offer.result.0 c.args.notes.now c.gather-seat.new.notes c.gather-seat.result.1 c.offer.result.1 c.requires.solvable c.requires.within c.requires.works c.gather-seat.ensures.same c.requires.raised
    c.gather-seat.ensures.local c.gather-seat.ensures.gathers c.offer.ensures.raised c.offer.ensures.grown).fed

pub returns-else-grew-clause-stood : goal.returns-else-grew-clause-stood
returns-else-grew-clause-stood g c =
    (served_same (g.A.Analysis.flow c.args.analysis.now) c.args.router c.args.seat c.gather-seat.result.0 c.args.notes.now c.gather-seat.new.notes c.gather-seat.result.1 c.requires.solvable c.requires.within c.requires.works c.gather-seat.ensures.same c.requires.raised
    c.gather-seat.ensures.local c.gather-seat.ensures.gathers c.if-grew.false).stood

pub returns-else-grew-clause-fed : goal.returns-else-grew-clause-fed
returns-else-grew-clause-fed g c =
    (served_same (g.A.Analysis.flow c.args.analysis.now) c.args.router c.args.seat c.gather-seat.result.0 c.args.notes.now c.gather-seat.new.notes c.gather-seat.result.1 c.requires.solvable c.requires.within c.requires.works c.gather-seat.ensures.same c.requires.raised
    c.gather-seat.ensures.local c.gather-seat.ensures.gathers c.if-grew.false).fed
