use Rattle.commands.proofs.StableLemmas.{at_distances}
use Rattle.commands.proofs.stable.tested_at.Goals as goal

pub returns : goal.returns
returns c =
    at_distances c.args.net.now c.valid.ensures c.args.prefix c.args.failed c.args.distances.now c.args.labels.now c.check_stable.result c.requires.exact c.check_stable.ensures.stable c.check_stable.ensures.breaks
