use Rattle.case_walk.proofs.WordLemmas.{step_made}
use Rattle.case_walk.proofs.walk.step.Goals as goal

pub returns-clause-step : goal.returns-clause-step
returns-clause-step g c =
    step_made c.args.net.now (g.S.CaseReader.analysis c.args.net.now) c.args.links c.args.prefix.now c.args.book.now c.args.set c.args.sweep.now c.in_ok-word.word c.in_ok-word.fresh c.push.new.self c.more_solved-sweep.result c.args.verdicts.now c.word_for.new.verdicts
    c.requires.words c.requires.set c.requires.place c.in_ok-word.ensures.word c.in_ok-word.ensures.own c.in_ok-push.ensures.ok c.more_solved-sweep.ensures c.in_ok-word.ensures.verdicts
