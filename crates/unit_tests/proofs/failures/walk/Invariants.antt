use Rattle.std.proofs.Common.{◌≤◌, IfSome}
use Rattle.failure_sets.specs.SetOrder.{IsPermitted}
use Rattle.unit_tests.proofs.failures.walk.Given as goal

abbrev pub invariant-loop-wanted : goal.invariant-loop-wanted
invariant-loop-wanted g l = record {
  permitted : IfSome l.left (λ set. IsPermitted l.links l.most set);
  few : l.passed ≤ l.wanted-index;
}
