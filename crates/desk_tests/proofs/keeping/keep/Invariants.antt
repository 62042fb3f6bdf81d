use Rattle.std.proofs.Common.{◌≡◌, Some}
use Rattle.desk_tests.proofs.keeping.keep.Given as goal

abbrev pub invariant-loop-change : goal.invariant-loop-change
invariant-loop-change g l = g.K.Keeper.opened l.keeper ≡ Some l.name
