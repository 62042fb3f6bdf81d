use Rattle.concrete_algebra.specs.Findings.{LinksSay}
use Rattle.concrete_algebra.proofs.findings.links_say.Given as goal

abbrev pub invariant-loop-link : goal.invariant-loop-link
invariant-loop-link l = LinksSay l.asked.net.now l.asked.prefix l.asked.failed.now l.labels l.router l.link l.findings
