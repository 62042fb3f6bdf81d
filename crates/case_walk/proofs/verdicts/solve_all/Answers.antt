use Rattle.std.proofs.Common.{length, refl, sym, ap, ◌∙◌, arith}
use Rattle.std.proofs.lemmas.List.{length-map}
use Rattle.case_walk.specs.Progress.{opening}
use Rattle.case_walk.specs.Verdicts.{IsVerdict}
use Rattle.case_walk.proofs.ProgressLemmas.{progress_starts, progress_on, progress_done, zip_long}
use Rattle.case_walk.proofs.verdicts.solve_all.Goals as goal

pub loop-i-init : goal.loop-i-init
loop-i-init g c = record {
  progress = progress_starts c.args.net.now (g.S.CaseReader.analysis c.args.net.now) c.args.book.now c.args.verdicts.now c.requires.opening;
  ticks = omega arith;
}

pub solve_at-requires-clause-long : goal.solve_at-requires-clause-long
solve_at-requires-clause-long g c κs within = sym (c.loop-i.auto.verdicts ∙ ap length c.requires.opening ∙ length-map c.args.book.now (opening c.args.net.now))

pub loop-i-preserved : goal.loop-i-preserved
loop-i-preserved g c = record {
  progress = progress_on c.args.net.now (g.S.CaseReader.analysis c.args.net.now) c.args.links c.args.book.now c.loop-i.i c.in_ok-solved.field-0 c.loop-i.solved c.index-book-i.result c.loop-i.verdicts c.solve_at.new.verdicts c.requires.links c.loop-i-test.true c.loop-i.invariant.progress c.index-book-i.is
      c.in_ok-solved.ensures.brings c.in_ok-solved.ensures.solved c.in_ok-solved.ensures.small;
  ticks = (let t = c.in_ok-solved.ensures.ticks in let b = c.loop-i.invariant.ticks in omega arith);
}

pub returns-clause-verdicts : goal.returns-clause-verdicts
returns-clause-verdicts g c =
    (progress_done c.args.net.now (g.S.CaseReader.analysis c.args.net.now) c.args.book.now c.loop-i.i c.loop-i.solved c.loop-i.verdicts c.loop-i-test.false c.loop-i.invariant.progress).verdicts

pub returns-clause-solved : goal.returns-clause-solved
returns-clause-solved g c =
    (progress_done c.args.net.now (g.S.CaseReader.analysis c.args.net.now) c.args.book.now c.loop-i.i c.loop-i.solved c.loop-i.verdicts c.loop-i-test.false c.loop-i.invariant.progress).number

pub returns-clause-long : goal.returns-clause-long
returns-clause-long g c =
    zip_long (IsVerdict c.args.net.now (g.S.CaseReader.analysis c.args.net.now)) c.args.book.now c.loop-i.verdicts
    (progress_done c.args.net.now (g.S.CaseReader.analysis c.args.net.now) c.args.book.now c.loop-i.i c.loop-i.solved c.loop-i.verdicts c.loop-i-test.false c.loop-i.invariant.progress).verdicts
