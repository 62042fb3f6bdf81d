use Rattle.case_walk.specs.Marks.{IsMarked}
use Rattle.case_walk.proofs.MarkLemmas.{turned_step, turned_all}
use Rattle.case_walk.proofs.marks.mark.Goals as goal

pub loop-j-preserved : goal.loop-j-preserved
loop-j-preserved g c =
    turned_step (IsMarked c.args.net.now (g.S.CaseReader.analysis c.args.net.now) c.args.prefix.now c.args.set) c.loop-j.j c.args.book.now c.args.verdicts.now c.loop-j.verdicts c.index-book-j.result c.index-verdicts-j.result c.marked.result
    c.loop-j-test.true c.requires.long c.loop-j.invariant c.index-book-j.is c.index-verdicts-j.is c.marked.ensures

pub returns : goal.returns
returns g c =
    turned_all (IsMarked c.args.net.now (g.S.CaseReader.analysis c.args.net.now) c.args.prefix.now c.args.set) c.loop-j.j c.args.book.now c.args.verdicts.now c.loop-j.verdicts c.loop-j-test.false c.requires.long c.loop-j.invariant
