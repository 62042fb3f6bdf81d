use Rattle.std.proofs.Common.{All}
use Rattle.net_types.specs.ConfigFacts.{IsConfig}
use Rattle.unit_tests.proofs.bundles.configs.Given as goal

abbrev pub invariant-loop-number : goal.invariant-loop-number
invariant-loop-number l = All IsConfig l.all.items
