use Rattle.refine_rounds.specs.Turning.{ReachedAsked}
use Rattle.refine_rounds.proofs.ResultLemmas.{amount}
use Rattle.refine_rounds.proofs.rounds.settle.Given as goal

abbrev pub invariant-loop-alive : goal.invariant-loop-alive
invariant-loop-alive g l = ReachedAsked l.asked l.alive l.found

abbrev pub decreases-loop-alive : goal.decreases-loop-alive
decreases-loop-alive g l = amount l.alive
