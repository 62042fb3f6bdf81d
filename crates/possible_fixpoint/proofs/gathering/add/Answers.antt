use Rattle.std.proofs.Common.{arith}
use Rattle.possible_fixpoint.proofs.NoteLemmas.{add_grows, add_has, add_kept}
use Rattle.possible_fixpoint.proofs.gathering.add.Goals as goal

pub add_row-requires : goal.add_row-requires
add_row-requires g c =
    let e = c.requires.kept.rows_long in let f = c.requires.solvable.few in let h = c.requires.within in omega arith

pub returns-clause-kept : goal.returns-clause-kept
returns-clause-kept g c =
    add_kept (g.A.Analysis.flow c.args.analysis.now) c.args.notes.now c.add_row.new.self c.args.router c.args.row.now c.add_row.result c.requires.solvable.few c.requires.within c.requires.words c.requires.under c.requires.kept
    c.add_row.ensures.rows c.add_row.ensures.same

pub returns-clause-grows : goal.returns-clause-grows
returns-clause-grows g c =
    add_grows (g.A.Analysis.flow c.args.analysis.now) c.args.notes.now c.add_row.new.self c.args.router c.args.row.now c.add_row.result c.requires.solvable.few c.requires.within c.requires.kept c.add_row.ensures.rows

pub returns-clause-has : goal.returns-clause-has
returns-clause-has g c =
    add_has (g.A.Analysis.flow c.args.analysis.now) c.args.notes.now c.add_row.new.self c.args.router c.args.row.now c.add_row.result c.requires.solvable.few c.requires.within c.requires.kept c.add_row.ensures.rows c.add_row.ensures.below
