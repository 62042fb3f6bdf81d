use Rattle.concrete_algebra.proofs.FindingLemmas.{label_stands}
use Rattle.concrete_algebra.proofs.stability.is_stable_at.Goals as goal

pub returns : goal.returns
returns c =
    rw (c.stands.ensures, c.label_at.ensures)
    (label_stands c.args.asked.now.net.now c.args.asked.now.prefix c.args.asked.now.failed.now c.args.asked.now.distances.now c.args.labels.now c.args.router c.in_ok-findings.findings c.in_ok-findings.ensures)
