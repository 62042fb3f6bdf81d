use Rattle.std.proofs.Common.{◌<◌, ◌^◌}
use Rattle.std.proofs.lemmas.List.Elements.{All-push, All-same}
use Rattle.net_types.specs.Communities.{community_of}
use Rattle.frr_policy.proofs.GrammarLemmas.{leading_step, leading_end}
use Rattle.frr_policy.proofs.community_lines.take_communities.Goals as goal

pub loop-value-preserved : goal.loop-value-preserved
loop-value-preserved c = record {
  same = leading_step community_of c.loop-value.values.items c.push.new.self.items c.loop-value.words c.take_community.new.words c.args.words.now c.in-Some.value c.in-Some.ensures.value c.in_ok-push.ensures.items c.loop-value.invariant.same;
  fit = All-same (λ x. x < 2 ^ 32) _ _ c.in_ok-push.ensures.items (All-push (λ x. x < 2 ^ 32) _ _ c.loop-value.invariant.fit c.in-Some.ensures.fits);
}

pub returns-clause-values : goal.returns-clause-values
returns-clause-values c =
    leading_end community_of c.loop-value.values.items c.from_vec.result c.loop-value.words c.take_community.new.words c.args.words.now c.in_default.ensures.value.0 c.in_default.ensures.value.1 c.from_vec.ensures c.loop-value.invariant.same
