use Rattle.std.proofs.Common.{sym, ◌∙◌}
use Rattle.possible_fixpoint.proofs.ArrivalLemmas.{noted_read}
use Rattle.possible_fixpoint.proofs.arrivals.note_arc.Goals as goal

pub returns-then-lives : goal.returns-then-lives
returns-then-lives g c =
    noted_read (g.A.Analysis.flow c.args.analysis.now) c.args.arc c.args.sets.now c.receiver.result c.from-router.result c.index-sets-router.result c.with.result c.requires.solvable
    (sym c.lives.ensures ∙ c.if-lives.true) c.receiver.ensures c.from-router.ensures c.with.ensures c.requires.before
