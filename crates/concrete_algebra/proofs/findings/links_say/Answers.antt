use Rattle.std.proofs.Common.{ℕ, ◌≡◌, length, arith, ap, subst}
use Rattle.concrete_algebra.specs.Findings.{LinksSay}
use Rattle.concrete_algebra.proofs.FindingLemmas.{links_more, links_none}
use Rattle.concrete_algebra.proofs.findings.links_say.Goals as goal

pub loop-link-init : goal.loop-link-init
loop-link-init c = links_none c.args.asked.now.net.now c.args.asked.now.prefix c.args.asked.now.failed.now c.args.labels.now c.args.router

pub loop-link-preserved : goal.loop-link-preserved
loop-link-preserved c =
    rw c.either-findings.ensures
    (links_more c.args.asked.now.net.now c.args.asked.now.prefix c.args.asked.now.failed.now c.args.labels.now c.args.router c.loop-link.link c.loop-link.findings c.in_ok-more.more c.loop-link.invariant c.in_ok-more.ensures)

pub returns : goal.returns
returns c =
    let all : length c.links-link-end.result.now ≡ length c.args.asked.now.net.now.links = ap length c.links-link-end.ensures in
    let end : c.loop-link.link ≡ length c.args.asked.now.net.now.links = omega arith in
    subst (λ (n : ℕ). LinksSay c.args.asked.now.net.now c.args.asked.now.prefix c.args.asked.now.failed.now c.args.labels.now c.args.router n c.loop-link.findings) end c.loop-link.invariant
