use Rattle.std.proofs.Common.{rules, subst, ◌≡◌, Option, Some}
use Rattle.command_words.specs.Asked.{serving}
use Rattle.command_words.specs.Commands.{Asked}
use Rattle.command_words.specs.Serving.{serving_of}
use Rattle.commands.specs.Running.{Answers}
use Rattle.commands.proofs.RunLemmas.{silent}
use Rattle.program.proofs.CompleteLemmas.{complete, desk_completes, nothing_run}
use Rattle.program.proofs.runs.run.Goals as goal

pub returns-in-Err-clause-desk : goal.returns-in-Err-clause-desk
returns-in-Err-clause-desk g c = λ asked is. nothing_run _ asked _ _ _ _ c.new.ensures

pub returns-clause-desk : goal.returns-clause-desk
returns-clause-desk g c = λ asked is. nothing_run _ asked _ _ _ _ c.new-in-Err-serving_of.ensures

pub returns-clause-answer : goal.returns-clause-answer
returns-clause-answer g c = λ none content before told given quiet calm. silent content _ before _ _ _ _ c.new-in-Err-serving_of.ensures given

pub returns-in-Ok-None-clause-complete : goal.returns-in-Ok-None-clause-complete
returns-in-Ok-None-clause-complete g c = λ asked c' before none command told given sound calm quiet.
    complete c' asked before (g.O.Sink.given c.run.new.out) c.args.steps.now c.run.new.steps c.run.result
    (g.F.Shelf.faults c.args.shelf.now) (g.F.Shelf.faults c.run.new.shelf) (g.O.Sink.faults c.args.out.now) (g.O.Sink.faults c.run.new.out)
    (λ four five. subst (λ (o : Option Asked). Answers c' o before (g.O.Sink.given c.run.new.out) c.args.steps.now c.run.new.steps c.run.result) command (c.run.ensures.answer c' before told given four five))
    c.run.ensures.read_fault c.run.ensures.write_fault sound calm quiet

pub returns-in-Ok-Some-clause-complete_desk : goal.returns-in-Ok-Some-clause-complete_desk
returns-in-Ok-Some-clause-complete_desk g c = λ wanted c' rows before is told given tables sound calm.
    let value : Some (serving c.in-Ok-Some.asked) ≡ serving_of c.args.words.now = search rules in
    desk_completes _ c' _ wanted _ rows _ _ _ _ before _ _ _ value is told given tables sound calm c.run_desk.ensures.desk
