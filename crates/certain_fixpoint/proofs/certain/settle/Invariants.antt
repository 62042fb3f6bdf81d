use Rattle.std.proofs.Common.{length, ◌-◌, ◌^◌}
use Rattle.certain_fixpoint.specs.Certain.{round_read}
use Rattle.certain_fixpoint.specs.OnTheWay.{AreSure, Passed}
use Rattle.certain_fixpoint.proofs.certain.settle.Given as goal

abbrev pub invariant-loop-set : goal.invariant-loop-set
invariant-loop-set l = AreSure (round_read l.reading) l.set × Passed (round_read l.reading) (length l.reading.net.now.links) l.set l.next

abbrev pub decreases-loop-set : goal.decreases-loop-set
decreases-loop-set l = 2 ^ 64 - l.set
