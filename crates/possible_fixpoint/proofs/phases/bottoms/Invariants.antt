use Rattle.std.proofs.Common.{◌≡◌, replicate}
use Rattle.abstract_route.specs.Rows.{bottom}
use Rattle.possible_fixpoint.proofs.phases.bottoms.Given as goal

abbrev pub invariant-loop : goal.invariant-loop
invariant-loop l = l.rows.items ≡ replicate l.counter bottom
