use Rattle.std.proofs.lemmas.List.Elements.{All-push, All-same}
use Rattle.net_types.specs.ConfigFacts.{IsConfig}
use Rattle.unit_tests.proofs.bundles.configs.Goals as goal

pub loop-number-preserved : goal.loop-number-preserved
loop-number-preserved c = All-same IsConfig _ _ c.in_ok-push.ensures.items (All-push IsConfig _ _ c.loop-number.invariant c.in_ok-config.ensures)
