use Rattle.std.proofs.Common.{◌≡◌, ◌^◌, ◌<◌, All, length}
use Rattle.net_types.specs.Communities.{community_of}
use Rattle.frr_policy.specs.Grammar.{leading}
use Rattle.frr_policy.proofs.GrammarLemmas.{values_before}
use Rattle.frr_policy.proofs.community_lines.take_communities.Given as goal

abbrev pub invariant-loop-value : goal.invariant-loop-value
invariant-loop-value l = record {
  same : values_before l.values.items (leading community_of l.words) ≡ leading community_of l.initial.words;
  fit : All (λ c. c < 2 ^ 32) l.values.items;
}

abbrev pub decreases-loop-value : goal.decreases-loop-value
decreases-loop-value l = length l.words
