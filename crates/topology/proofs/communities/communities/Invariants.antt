use Rattle.std.proofs.Common.{◌≡◌, ◌++◌, ◌∷◌, drop}
use Rattle.topology.specs.Communities.{named_values}
use Rattle.net_types.specs.NetFacts.{no_export, no_advertise}
use Rattle.topology.proofs.communities.communities.Given as goal

abbrev pub invariant-loop-config : goal.invariant-loop-config
invariant-loop-config l = l.all.items ++ named_values (drop l.config-index l.configs) ≡ no_export ∷ no_advertise ∷ named_values l.configs
