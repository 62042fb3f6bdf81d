use Rattle.implication.specs.OnTheWay.{view_seen}
use Rattle.implication.specs.OnTheWay.{AreAfter}
use Rattle.implication.specs.OnTheWay.{leads}
use Rattle.implication.proofs.ways.all_after.Given as goal

abbrev pub invariant-loop-from : goal.invariant-loop-from
invariant-loop-from l = AreAfter (leads (view_seen l.seen) l.way) (view_seen l.seen).count l.set l.from l.found
