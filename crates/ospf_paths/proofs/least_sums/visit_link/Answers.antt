use Rattle.ospf_paths.proofs.Passes.{passed_link}
use Rattle.ospf_paths.proofs.least_sums.visit_link.Goals as goal

pub returns-then-up : goal.returns-then-up
returns-then-up c = rw c.if-up.true (rw c.if-up.true at (passed_link c.args.net.now c.valid.ensures c.args.failed.now c.args.link c.args.distances.now c.visit-up.new.distances c.visit-down.new.distances c.visit-up.result c.visit-down.result c.requires.bounded (rw c.both.ensures.up at c.visit-up.ensures.visited) (rw c.both.ensures.down at c.visit-down.ensures.visited)))

pub returns-else-up : goal.returns-else-up
returns-else-up c = rw c.if-up.false at (passed_link c.args.net.now c.valid.ensures c.args.failed.now c.args.link c.args.distances.now c.visit-up.new.distances c.visit-down.new.distances c.visit-up.result c.visit-down.result c.requires.bounded (rw c.both.ensures.up at c.visit-up.ensures.visited) (rw c.both.ensures.down at c.visit-down.ensures.visited))
