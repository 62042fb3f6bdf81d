use Rattle.std.proofs.Common.{◌*◌}
use Rattle.possible_fixpoint.specs.Feeding.{AreReceivers}
use Rattle.possible_fixpoint.proofs.feeding.receivers.Given as goal

abbrev pub invariant-loop-link : goal.invariant-loop-link
invariant-loop-link g l = AreReceivers (g.A.Analysis.flow l.analysis) l.gave l.set (2 * l.link) l.found
