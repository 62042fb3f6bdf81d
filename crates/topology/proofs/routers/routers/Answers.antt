use Rattle.net_types.specs.ConfigFacts.{IsConfig}
use Rattle.topology.proofs.MapLemmas.{All-seen}
use Rattle.topology.proofs.routers.routers.Goals as goal

pub router_of-requires-clause-valid : goal.router_of-requires-clause-valid
router_of-requires-clause-valid c = All-seen (λ r. r.now) IsConfig c.args.configs.now c.loop-number.number c.index-configs-number.result c.requires.valid c.loop-number-test.true c.index-configs-number.is
