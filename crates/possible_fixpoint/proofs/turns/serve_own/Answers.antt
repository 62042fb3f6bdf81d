use Rattle.std.proofs.Common.{refl}
use Rattle.possible_fixpoint.proofs.WorkLemmas.{stood_still}
use Rattle.possible_fixpoint.proofs.turns.serve_own.Goals as goal

pub returns-else-router-workers-clause-stood : goal.returns-else-router-workers-clause-stood
returns-else-router-workers-clause-stood g c =
    stood_still (g.A.Analysis.flow c.args.analysis.now) c.args.seat c.args.seat c.args.notes.now c.requires.works refl c.requires.kept c.requires.raised
