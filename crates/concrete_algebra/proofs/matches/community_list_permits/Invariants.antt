use Rattle.std.proofs.Common.{◌≡◌, drop}
use Rattle.concrete_algebra.specs.Maps.{community_list_permits}
use Rattle.concrete_algebra.proofs.matches.community_list_permits.Given as goal

abbrev pub invariant-loop-entry : goal.invariant-loop-entry
invariant-loop-entry l = community_list_permits l.held (drop l.entry-index l.entries) ≡ community_list_permits l.held l.entries
