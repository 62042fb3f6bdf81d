use Rattle.concrete_algebra.proofs.FindingLemmas.{all_say}
use Rattle.concrete_algebra.proofs.findings.all_say.Goals as goal

pub returns : goal.returns
returns c =
    rw c.either.ensures
    (all_say c.args.asked.now.net.now c.valid.ensures c.args.asked.now.prefix c.args.asked.now.failed.now c.args.asked.now.distances.now c.args.labels.now c.args.router c.in_ok-learned.learned c.in_ok-own.own c.in_ok-learned.ensures c.in_ok-own.ensures)
