use Rattle.std.proofs.Common.{◌≡◌, replicate}
use Rattle.abstract_route.specs.Rows.{bottom}
use Rattle.unit_tests.proofs.boards.bottoms.Given as goal

abbrev pub invariant-loop : goal.invariant-loop
invariant-loop l = l.rows.items ≡ replicate l.counter bottom
