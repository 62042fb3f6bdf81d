use Rattle.certain_fixpoint.specs.Certain.{round_read}
use Rattle.certain_fixpoint.specs.OnTheWay.{Passed}
use Rattle.certain_fixpoint.proofs.certain.pass.Given as goal

abbrev pub invariant-loop-link : goal.invariant-loop-link
invariant-loop-link l = Passed (round_read l.reading) l.link l.fn.set l.grown
