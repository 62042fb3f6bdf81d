use Rattle.std.proofs.Common.{◌≡◌, drop, fold}
use Rattle.topology.specs.Communities.{with_community, set_of}
use Rattle.topology.proofs.communities.set_of.Given as goal

abbrev pub invariant-loop-value : goal.invariant-loop-value
invariant-loop-value l = fold (λ set value. with_community l.all set value) l.set (drop l.value-index l.values) ≡ set_of l.all l.values
