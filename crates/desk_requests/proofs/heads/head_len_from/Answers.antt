use Rattle.std.proofs.Common.{◌∙◌, sym, arith}
use Rattle.desk_requests.proofs.EndLemmas.{head_later}
use Rattle.desk_requests.proofs.heads.head_len_from.Goals as goal

pub loop-at-preserved : goal.loop-at-preserved
loop-at-preserved c = record {
  within = omega arith;
  behind = head_later c.args.bytes.now c.loop-at.at c.loop-at-test.true (sym c.blank_behind.ensures.len ∙ c.in_default.is) c.loop-at.invariant.behind;
}
