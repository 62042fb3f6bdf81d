use Rattle.std.proofs.Common.{◌≡◌, drop, All}
use Rattle.net_types.specs.ConfigFacts.{IsConfig}
use Rattle.bundle_reader.specs.Bundle.{configs_of}
use Rattle.bundle_reader.proofs.ReadLemmas.{behind}
use Rattle.bundle_reader.proofs.bundles.configs_of.Given as goal

abbrev pub invariant-loop-at : goal.invariant-loop-at
invariant-loop-at l = record {
  whole : behind l.configs.items (configs_of l.at (drop l.at l.files)) ≡ configs_of 0 l.files;
  valid : All IsConfig l.configs.items;
}
