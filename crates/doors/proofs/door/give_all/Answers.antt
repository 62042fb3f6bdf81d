use Rattle.std.proofs.Common.{◌≤◌, ◌∙◌, ap, Some, length, arith}
use Rattle.std.proofs.lemmas.List.{take_all}
use Rattle.doors.specs.Door.{giving}
use Rattle.doors.proofs.GivingLemmas.{told_more}
use Rattle.doors.proofs.door.give_all.Goals as goal

pub loop-done-preserved : goal.loop-done-preserved
loop-done-preserved g c = record {
  within = omega (arith, c.in_ok-done.ensures.takes);
  still = c.in_ok-done.ensures.cause ∙ c.loop-done.invariant.still;
  opened = c.in_ok-done.ensures.opened ∙ c.loop-done.invariant.opened;
  told = λ t e. told_more _ t c.args.bytes.now c.loop-done.done c.in_ok-done.field-0 (c.in_ok-done.ensures.told _ (c.loop-done.invariant.told t e)).0;
}

pub returns-clause-told : goal.returns-clause-told
returns-clause-told g c = λ t e.
    let long : length c.args.bytes.now ≤ c.loop-done.done = omega arith in
    c.loop-done.invariant.told t e ∙ ap (λ xs. Some (giving xs t)) (take_all c.loop-done.done c.args.bytes.now long)
