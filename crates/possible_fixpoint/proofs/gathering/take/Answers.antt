use Rattle.std.proofs.Common.{false, sym}
use Rattle.possible_fixpoint.proofs.NoteLemmas.{asked_kept, given_under, given_words, grows_none, known_given, read_short}
use Rattle.possible_fixpoint.proofs.gathering.take.Goals as goal

pub returns-then-was_asked-clause-grows : goal.returns-then-was_asked-clause-grows
returns-then-was_asked-clause-grows g c =
    grows_none ((g.A.Analysis.flow c.args.analysis.now).receiver c.args.arc) c.args.notes.now.rows false

pub returns-then-was_asked-clause-given : goal.returns-then-was_asked-clause-given
returns-then-was_asked-clause-given g c =
    known_given (g.A.Analysis.flow c.args.analysis.now) c.args.notes.now c.args.arc c.args.row.now c.requires.solvable c.requires.lives c.requires.words c.requires.kept
    (c.was_asked.ensures.asked c.if-was_asked.true) (c.was_asked.ensures.below c.if-was_asked.true)

pub gives-given-requires : goal.gives-given-requires
gives-given-requires g c =
    read_short (g.A.Analysis.flow c.args.analysis.now) c.args.arc c.args.row.now c.requires.solvable c.requires.lives c.requires.under

pub add-grew-requires-clause-within : goal.add-grew-requires-clause-within
add-grew-requires-clause-within g c =
    rw c.receiver.ensures (c.requires.solvable.lawful.receiver c.args.arc c.requires.lives)

pub add-grew-requires-clause-words : goal.add-grew-requires-clause-words
add-grew-requires-clause-words g c =
    given_words (g.A.Analysis.flow c.args.analysis.now) c.args.arc c.args.row.now c.gives-given.result c.requires.solvable c.requires.words c.gives-given.ensures

pub add-grew-requires-clause-under : goal.add-grew-requires-clause-under
add-grew-requires-clause-under g c =
    rw c.receiver.ensures (given_under (g.A.Analysis.flow c.args.analysis.now) c.args.arc c.args.row.now c.gives-given.result c.requires.solvable c.requires.lives c.requires.words c.requires.under c.gives-given.ensures)

pub returns-clause-kept : goal.returns-clause-kept
returns-clause-kept g c =
    asked_kept (g.A.Analysis.flow c.args.analysis.now) c.add-grew.new.notes c.set_asked.new.self c.args.arc c.args.row.now c.gives-given.result c.requires.solvable c.requires.lives c.requires.words c.requires.under c.gives-given.ensures
    (rw (sym c.receiver.ensures) c.add-grew.ensures.has) c.add-grew.ensures.kept
    c.set_asked.ensures.asked c.set_asked.ensures.at c.set_asked.ensures.gave c.set_asked.ensures.rows c.set_asked.ensures.begun

pub returns-clause-grows : goal.returns-clause-grows
returns-clause-grows g c =
    rw (c.set_asked.ensures.rows, sym c.receiver.ensures) c.add-grew.ensures.grows

pub returns-clause-given : goal.returns-clause-given
returns-clause-given g c =
    rw (c.set_asked.ensures.rows, sym c.receiver.ensures, sym c.gives-given.ensures) c.add-grew.ensures.has
