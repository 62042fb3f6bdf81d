use Rattle.implication.specs.OnTheWay.{view_seen}
use Rattle.std.proofs.Common.{◌-◌}
use Rattle.implication.specs.OnTheWay.{leads}
use Rattle.implication.proofs.ReachLemmas.{IsGrowing}
use Rattle.implication.proofs.ways.reached.Given as goal

abbrev pub invariant-loop-set : goal.invariant-loop-set
invariant-loop-set l = IsGrowing (leads (view_seen l.seen) l.way) (view_seen l.seen).count l.start l.set l.next

abbrev pub decreases-loop-set : goal.decreases-loop-set
decreases-loop-set l = 18446744073709551615 - l.set
