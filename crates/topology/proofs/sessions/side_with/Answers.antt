use Rattle.net_types.specs.ConfigFacts.{IsConfig}
use Rattle.topology.proofs.MapLemmas.{All-seen}
use Rattle.topology.proofs.sessions.side_with.Goals as goal

pub side_for-requires : goal.side_for-requires
side_for-requires c = let h = c.in-Some.ensures.lookup in (All-seen (λ r. r.now) IsConfig c.args.configs.now c.args.router c.in-Some.config.now c.requires h.3.0 h.1).few_maps
