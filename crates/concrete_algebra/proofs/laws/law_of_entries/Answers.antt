use Rattle.concrete_algebra.proofs.ReadingLemmas.{deletes_by_member, first_community_permits, first_entry_gives, first_prefix_permits, no_entry_gives, set_communities_are_held, sets_by_member}
use Rattle.concrete_algebra.proofs.laws.law_of_entries.Goals as goal

pub returns : goal.returns
returns c = record {
  first = first_entry_gives;
  none = no_entry_gives;
  prefixes = first_prefix_permits;
  communities = first_community_permits;
  sets = sets_by_member;
  deletes = deletes_by_member;
  held = set_communities_are_held;
}
