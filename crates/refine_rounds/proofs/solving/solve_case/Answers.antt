use Rattle.refine_rounds.proofs.ResultLemmas.{contains_if}
use Rattle.refine_rounds.proofs.solving.solve_case.Goals as goal

pub returns-clause-containment : goal.returns-clause-containment
returns-clause-containment g c = contains_if c.args.net.now c.args.prefix c.args.failed c.in_ok-found.found c.valid.ensures c.in_ok-found.ensures
