use Rattle.std.proofs.Common.{◌∙◌, false, sym}
use Rattle.possible_fixpoint.proofs.NoteLemmas.{begun_kept, grows_none, source_under}
use Rattle.possible_fixpoint.proofs.gathering.begin.Goals as goal

pub add-grew-requires-clause-words : goal.add-grew-requires-clause-words
add-grew-requires-clause-words g c =
    rw c.source-row.ensures (c.requires.solvable.lawful.source c.args.router c.requires.within)

pub add-grew-requires-clause-under : goal.add-grew-requires-clause-under
add-grew-requires-clause-under g c =
    rw c.source-row.ensures (source_under (g.A.Analysis.flow c.args.analysis.now) c.args.router c.requires.solvable c.requires.within)

pub returns-then-has-clause-grows : goal.returns-then-has-clause-grows
returns-then-has-clause-grows g c =
    grows_none c.args.router c.args.notes.now.rows false

pub returns-then-has-clause-local : goal.returns-then-has-clause-local
returns-then-has-clause-local g c =
    c.requires.kept.local c.args.router (sym c.has.ensures ∙ c.if-has.true)

pub returns-clause-kept : goal.returns-clause-kept
returns-clause-kept g c =
    begun_kept (g.A.Analysis.flow c.args.analysis.now) c.add-grew.new.notes c.set_begun.new.self c.args.router c.add-grew.ensures.kept (rw (sym c.source-row.ensures) c.add-grew.ensures.has)
    c.set_begun.ensures.begun c.set_begun.ensures.rows c.set_begun.ensures.asked c.set_begun.ensures.at c.set_begun.ensures.gave

pub returns-clause-grows : goal.returns-clause-grows
returns-clause-grows g c =
    rw c.set_begun.ensures.rows c.add-grew.ensures.grows

pub returns-clause-local : goal.returns-clause-local
returns-clause-local g c =
    rw (c.set_begun.ensures.rows, sym c.source-row.ensures) c.add-grew.ensures.has
