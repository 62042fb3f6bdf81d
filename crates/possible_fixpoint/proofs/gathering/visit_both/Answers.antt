use Rattle.possible_fixpoint.proofs.GatherLemmas.{both_gather}
use Rattle.possible_fixpoint.proofs.gathering.visit_both.Goals as goal

pub returns-clause-gathers : goal.returns-clause-gathers
returns-clause-gathers g c =
    both_gather (g.A.Analysis.flow c.args.analysis.now) c.args.seat c.visit-seat.result.0 c.args.router c.args.link c.both.result.0 c.both.result.1 c.args.notes.now c.visit-seat.new.notes c.visit-seat-2.new.notes c.visit-seat.result.1 c.visit-seat-2.result.1
    c.both.ensures.up c.both.ensures.down c.visit-seat.ensures.same c.visit-seat.ensures.gathers c.visit-seat-2.ensures.gathers
