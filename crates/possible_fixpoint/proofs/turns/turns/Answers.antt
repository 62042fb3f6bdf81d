use Rattle.possible_fixpoint.proofs.WorkLemmas.{turns_fall, work_begins, work_ends, work_on}
use Rattle.possible_fixpoint.proofs.turns.turns.Goals as goal

pub loop-notes-init : goal.loop-notes-init
loop-notes-init g c =
    work_begins (g.A.Analysis.flow c.args.analysis.now) c.args.seat c.new-notes.result c.requires.solvable c.requires.works c.requires.none c.new-notes.ensures

pub loop-notes-preserved : goal.loop-notes-preserved
loop-notes-preserved g c =
    work_on (g.A.Analysis.flow c.args.analysis.now) c.args.seat c.loop-notes.seat c.pass-next.result.0 c.lengthen_if_due-seat.result c.loop-notes.notes c.pass-next.new.notes c.lengthen_if_due-seat.new.notes c.pass-next.result.1 c.loop-notes.invariant c.pass-next.ensures.stood c.lengthen_if_due-seat.ensures

pub loop-notes-smaller : goal.loop-notes-smaller
loop-notes-smaller g c =
    turns_fall (g.A.Analysis.flow c.args.analysis.now) c.loop-notes.seat c.pass-next.result.0 c.lengthen_if_due-seat.result c.pass-next.new.notes c.lengthen_if_due-seat.new.notes c.pass-next.result.1 c.if-not-changed.false c.pass-next.ensures.stood c.lengthen_if_due-seat.ensures

pub returns-then-not-changed-clause-grown : goal.returns-then-not-changed-clause-grown
returns-then-not-changed-clause-grown g c =
    work_ends (g.A.Analysis.flow c.args.analysis.now) c.args.seat c.loop-notes.seat c.pass-next.result.0 c.loop-notes.notes c.pass-next.new.notes c.pass-next.result.1 c.loop-notes.invariant c.pass-next.ensures.stood
