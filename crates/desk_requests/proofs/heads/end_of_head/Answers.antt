use Rattle.std.proofs.Common.{◌≡◌, ◌≤◌, ◌∙◌, ap, sym, subst, ℕ, List, None, option_map, ◌+◌, ◌-◌, drop, length, arith}
use Rattle.desk_requests.specs.Head.{head_len}
use Rattle.std.specs.Prelude.{IfSome}
use Rattle.doors.specs.Door.{left_of}
use Rattle.doors.proofs.TakingLemmas.{reads_more, reads_end, reads_failed}
use Rattle.desk_requests.proofs.EndLemmas.{end_in, scan_from}
use Rattle.desk_requests.proofs.ReadLemmas.{ends_full, ends_input}
use Rattle.desk_requests.proofs.heads.end_of_head.Goals as goal

pub returns-in-Err-clause-told : goal.returns-in-Err-clause-told
returns-in-Err-clause-told g c = λ t e.
    let r = c.loop-bytes.invariant.told t e in
    reads_failed t (length c.loop-bytes.bytes.items) _ (c.in-Err.ensures.told _ r.told)

pub loop-bytes-preserved : goal.loop-bytes-preserved
loop-bytes-preserved g c =
    let old = c.loop-bytes.bytes.items in
    let grown = c.in-Ok.ensures.grows in
    let none : head_len old ≡ None = sym (c.head_len_from.ensures.len ∙ ap head_len c.as_slice.ensures.value) ∙ c.in_default.is in
    let e : c.saturating_sub-from.result ≡ length old - 2 = omega (arith, c.saturating_sub-from.ensures, c.len-in-loop-bytes.ensures, c.loop-bytes.bytes.ok.0) in
    record {
      here = omega (arith, c.saturating_sub-from.ensures, c.len-in-loop-bytes.ensures, c.in-Ok.ensures.within);
      start = ap head_len grown.1 ∙ scan_from old grown.0 none ∙ (λ i. option_map (λ n. sym e i + n) (head_len (drop (sym e i) (sym grown.1 i))));
      few = omega (arith, c.in-Ok.ensures.within, c.len-left.ensures, c.loop-bytes.invariant.few);
      still = c.in-Ok.ensures.cause ∙ c.loop-bytes.invariant.still;
      opened = c.in-Ok.ensures.opened ∙ c.loop-bytes.invariant.opened;
      told = λ t e.
          let r = c.loop-bytes.invariant.told t e in
          reads_more t c.loop-bytes.bytes.items _ c.in-Ok.taken _ _ r (c.in-Ok.ensures.told _ r.told);
    }

pub returns-then-taken-eq0-clause-told : goal.returns-then-taken-eq0-clause-told
returns-then-taken-eq0-clause-told g c = λ t e.
    let r = c.loop-bytes.invariant.told t e in
    let m = c.in-Ok.ensures.told _ r.told in
    let after = reads_more t c.loop-bytes.bytes.items _ c.in-Ok.taken _ _ r m in
    let end = reads_end t c.loop-bytes.bytes.items _ c.in-Ok.taken _ _ r m c.if-taken-eq0.true in
    let few : length c.loop-bytes.bytes.items ≤ 16384 = omega (arith, c.loop-bytes.bytes.ok.0, c.loop-bytes.invariant.few) in
    ends_input t c.loop-bytes.bytes.items _ _ after end.0 end.1 few (sym c.in_default.is ∙ c.head_len_from.ensures.len ∙ ap head_len c.as_slice.ensures.value)

pub returns-in-Some-clause-told : goal.returns-in-Some-clause-told
returns-in-Some-clause-told g c = λ t e.
    let r = c.loop-bytes.invariant.told t e in
    let same = c.as_slice.ensures.value in
    let few : length c.loop-bytes.bytes.items ≤ 16384 = omega (arith, c.loop-bytes.bytes.ok.0, c.loop-bytes.invariant.few) in
    let within = c.in-Some.ensures.within in
    (r, end_in (left_of t) c.loop-bytes.bytes.items c.in-Some.n r.same few (sym (c.in-Some.ensures.len ∙ ap head_len same)), omega (arith, within, ap length same))

pub returns-clause-told : goal.returns-clause-told
returns-clause-told g c = λ t e.
    let r = c.loop-bytes.invariant.told t e in
    let same = c.as_slice-2.ensures.value in
    let size : length c.loop-bytes.bytes.items ≡ 16384 = omega (arith, c.loop-bytes.bytes.ok.0, c.loop-bytes.invariant.few, c.loop-bytes-test.false, c.len.ensures) in
    ends_full t c.loop-bytes.bytes.items _ c.head_len_from-2.result r size (c.head_len_from-2.ensures.len ∙ ap head_len same) (subst (λ (xs : List ℕ). IfSome c.head_len_from-2.result (λ n. n ≤ length xs)) same c.head_len_from-2.ensures.within)
