use Rattle.std.proofs.Common.{◌∙◌, ap, length, arith}
use Rattle.doors.proofs.TakingLemmas.{reads_more, reads_end, reads_failed}
use Rattle.doors.proofs.reading.read_to.Goals as goal

pub returns-in-Err-clause-told : goal.returns-in-Err-clause-told
returns-in-Err-clause-told g c = λ t e.
    let r = c.loop-bytes.invariant.told t e in
    reads_failed t (length c.loop-bytes.bytes.items) _ (c.in-Err.ensures.told _ r.told)

pub loop-bytes-preserved : goal.loop-bytes-preserved
loop-bytes-preserved g c = record {
  still = c.in-Ok.ensures.cause ∙ c.loop-bytes.invariant.still;
  opened = c.in-Ok.ensures.opened ∙ c.loop-bytes.invariant.opened;
  told = λ t e.
      let r = c.loop-bytes.invariant.told t e in
      reads_more t c.loop-bytes.bytes.items _ c.in-Ok.taken _ _ r (c.in-Ok.ensures.told _ r.told);
}

pub returns-then-taken-eq0-clause-told : goal.returns-then-taken-eq0-clause-told
returns-then-taken-eq0-clause-told g c = λ t e.
    let r = c.loop-bytes.invariant.told t e in
    let m = c.in-Ok.ensures.told _ r.told in
    let after = reads_more t c.loop-bytes.bytes.items _ c.in-Ok.taken _ _ r m in
    let end = reads_end t c.loop-bytes.bytes.items _ c.in-Ok.taken _ _ r m c.if-taken-eq0.true in
    (after, end.0, omega (arith, ap length end.1, c.loop-bytes.bytes.ok.0, c.len.ensures, c.loop-bytes-test.true))
