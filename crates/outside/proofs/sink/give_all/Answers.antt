-- What the next call took stands behind what the calls before took.
use Rattle.std.proofs.Common.{◌∙◌, arith}
use Rattle.outside.proofs.SinkLemmas.{told_more}
use Rattle.outside.proofs.sink.give_all.Goals as goal

pub loop-done-preserved : goal.loop-done-preserved
loop-done-preserved g c = record {
  within = omega (arith, c.in_ok-done.ensures.takes);
  still = c.in_ok-done.ensures.cause ∙ c.loop-done.invariant.still;
  told = λ b e. told_more _ b c.args.bytes.now c.loop-done.done c.in_ok-done.field-0 (c.in_ok-done.ensures.told _ (c.loop-done.invariant.told b e));
}
