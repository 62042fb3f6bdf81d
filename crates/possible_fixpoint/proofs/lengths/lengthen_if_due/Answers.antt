use Rattle.std.proofs.Common.{refl}
use Rattle.possible_fixpoint.proofs.WorkLemmas.{stood_still}
use Rattle.possible_fixpoint.proofs.lengths.lengthen_if_due.Goals as goal

pub returns-else-is_due : goal.returns-else-is_due
returns-else-is_due g c =
    stood_still (g.A.Analysis.flow c.args.analysis.now) c.args.seat c.args.seat c.args.notes.now c.requires.works refl c.requires.kept c.requires.raised
