use Rattle.std.proofs.Common.{rules, arith, inl, ◌≡◌, Some, None}
use Rattle.command_words.specs.Asked.{asked}
use Rattle.command_words.specs.Commands.{command_of}
use Rattle.commands.specs.Running.{usage_line}
use Rattle.commands.proofs.RunLemmas.{answered, behind_usage, part, read_kept, read_still, refused, silent, unsolved, usage_part, used, write_kept, write_still, written_kept, written_still}
use Rattle.commands.proofs.runs.run.Goals as goal

pub returns-in-Ok-Some-clause-answer : goal.returns-in-Ok-Some-clause-answer
returns-in-Ok-Some-clause-answer g c = λ content before told given quiet calm.
    let is : Some (asked c.in-Ok-Some.command) ≡ command_of c.args.words.now = search rules in
    rw (← is) (answered content (asked c.in-Ok-Some.command) before c.perform-performed.result _ _ _ _ _ _ c.finish.result (c.perform-performed.ensures.told content told) (c.perform-performed.ensures.counted content told) quiet calm given c.finish.ensures)

pub returns-in-Ok-None-clause-answer : goal.returns-in-Ok-None-clause-answer
unfolding usage_line
returns-in-Ok-None-clause-answer g c = λ content before told given quiet calm.
    let is : None ≡ command_of c.args.words.now = search rules in
    rw (← is) (inl (used before _ _ _ _ _ _ _ c.write.result c.new-in-Ok-None.ensures c.as_bytes.ensures.value calm given c.write.ensures))

pub returns-in-Err-clause-answer : goal.returns-in-Err-clause-answer
returns-in-Err-clause-answer g c = λ content before told given quiet calm. silent content _ before _ _ _ _ c.new.ensures given

pub returns-clause-answer : goal.returns-clause-answer
returns-clause-answer g c = λ content before told given quiet calm. silent content _ before _ _ _ _ c.new-in-Err-command_of.ensures given

pub returns-in-Ok-Some-clause-unsolved : goal.returns-in-Ok-Some-clause-unsolved
returns-in-Ok-Some-clause-unsolved g c = λ least most.
    unsolved c.perform-performed.result _ _ _ _ _ _ c.finish.result c.perform-performed.ensures.still c.finish.ensures least most

pub returns-in-Ok-Some-clause-refused : goal.returns-in-Ok-Some-clause-refused
returns-in-Ok-Some-clause-refused g c = λ content told two.
    let is : Some (asked c.in-Ok-Some.command) ≡ command_of c.args.words.now = search rules in
    rw (← is) (refused content (asked c.in-Ok-Some.command) c.perform-performed.result _ _ _ _ c.finish.result (c.perform-performed.ensures.told content told) two c.finish.ensures)

pub returns-in-Ok-None-clause-usage_text : goal.returns-in-Ok-None-clause-usage_text
unfolding usage_line
returns-in-Ok-None-clause-usage_text g c = λ three. behind_usage _ _ _ _ _ _ _ c.as_bytes.ensures.value c.write.ensures three

pub returns-in-Ok-Some-clause-written_part : goal.returns-in-Ok-Some-clause-written_part
returns-in-Ok-Some-clause-written_part g c = λ five.
    let is : Some (asked c.in-Ok-Some.command) ≡ command_of c.args.words.now = search rules in
    rw (← is) (part _ (asked c.in-Ok-Some.command) c.perform-performed.result _ _ _ _ _ _ c.finish.result c.perform-performed.ensures.cause c.perform-performed.ensures.told five c.finish.ensures)

pub returns-in-Ok-None-clause-written_part : goal.returns-in-Ok-None-clause-written_part
unfolding usage_line
returns-in-Ok-None-clause-written_part g c = λ five.
    let is : None ≡ command_of c.args.words.now = search rules in
    rw (← is) (usage_part _ _ _ _ _ _ _ _ _ c.write.result c.new-in-Ok-None.ensures c.as_bytes.ensures.value five c.write.ensures)

pub returns-in-Ok-Some-clause-read_still : goal.returns-in-Ok-Some-clause-read_still
returns-in-Ok-Some-clause-read_still g c = λ quiet calm.
    read_still c.perform-performed.result _ _ _ _ _ _ c.finish.result c.perform-performed.ensures.cause c.finish.ensures quiet calm

pub returns-in-Ok-Some-clause-write_still : goal.returns-in-Ok-Some-clause-write_still
returns-in-Ok-Some-clause-write_still g c = λ calm. write_still c.perform-performed.result _ _ _ _ c.finish.result c.finish.ensures calm

pub returns-in-Ok-None-clause-write_still : goal.returns-in-Ok-None-clause-write_still
returns-in-Ok-None-clause-write_still g c = λ calm. written_still _ _ _ _ _ _ c.write.result c.write.ensures calm

pub returns-in-Ok-Some-clause-kept : goal.returns-in-Ok-Some-clause-kept
returns-in-Ok-Some-clause-kept g c = (read_kept c.perform-performed.result _ _ c.perform-performed.ensures.cause, write_kept c.perform-performed.result _ _ _ _ c.finish.result c.finish.ensures)

pub returns-in-Ok-None-clause-kept : goal.returns-in-Ok-None-clause-kept
returns-in-Ok-None-clause-kept g c = (omega arith, written_kept _ _ _ _ _ _ c.write.result c.write.ensures)
