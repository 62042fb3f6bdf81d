use Rattle.ospf_paths.proofs.Passes.{passed_settled}
use Rattle.ospf_paths.proofs.least_sums.settle.Goals as goal

pub returns-clause-settled : goal.returns-clause-settled
returns-clause-settled c = passed_settled c.args.net.now c.valid.ensures c.args.failed.now c.loop.distances c.pass.new.distances c.pass.result c.pass.ensures c.loop-test.false
