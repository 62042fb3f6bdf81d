use Rattle.std.proofs.lemmas.List.Elements.{All-push, All-same}
use Rattle.net_types.specs.ConfigFacts.{IsConfig}
use Rattle.bundle_reader.proofs.ReadLemmas.{next_file}
use Rattle.bundle_reader.proofs.bundles.configs_of.Goals as goal

pub loop-at-preserved : goal.loop-at-preserved
loop-at-preserved c = record {
  whole = next_file c.args.files.now c.loop-at.at c.index-files-at.result c.in-Ok.config c.loop-at.configs.items c.push.new.self.items _ c.loop-at-test.true c.index-files-at.is c.in-Ok.ensures.exact c.in_ok-push-in-Ok.ensures.items c.loop-at.invariant.whole;
  valid = All-same IsConfig _ _ c.in_ok-push-in-Ok.ensures.items (All-push IsConfig _ _ c.loop-at.invariant.valid c.in-Ok.ensures.valid);
}
