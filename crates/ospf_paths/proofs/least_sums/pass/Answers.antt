use Rattle.std.proofs.Common.{◌≡◌, ◌+◌, length, arith, ap, subst, ℕ}
use Rattle.ospf_paths.specs.OnTheWay.{Passed}
use Rattle.ospf_paths.proofs.Passes.{passed_more}
use Rattle.ospf_paths.proofs.least_sums.pass.Goals as goal
use Rattle.ospf_paths.proofs.least_sums.pass.Goals.{then-changed, else-changed}

pub loop-link-preserved : goal.loop-link-preserved
loop-link-preserved c =
    let more = passed_more c.args.net.now c.args.failed.now c.args.distances.now c.loop-link.distances c.visit_link-lowered.new.distances c.loop-link.changed c.visit_link-lowered.result 0 c.loop-link.link (c.loop-link.link + 1) c.loop-link.invariant c.visit_link-lowered.ensures in
    elim c.if-changed.branch [
      | then-changed w ↦ rw w.changed-is (rw w.if-changed.true (rw w.if-changed.true at more))
      | else-changed w ↦ rw w.changed-is (rw w.if-changed.false at more)
    ]

pub returns : goal.returns
returns c =
    let all : length c.links-link-end.result.now ≡ length c.args.net.now.links = ap length c.links-link-end.ensures in
    let end : c.loop-link.link ≡ length c.args.net.now.links = omega arith in
    subst (λ (n : ℕ). Passed c.args.net.now c.args.failed.now c.args.distances.now c.loop-link.distances c.loop-link.changed 0 n) end c.loop-link.invariant
