use Rattle.std.proofs.Common.{◌≡◌, drop}
use Rattle.std.specs.List.{find}
use Rattle.net_types.specs.FailSets.{without}
use Rattle.case_walk.specs.Words.{has_in, word_of}
use Rattle.case_walk.proofs.words.find_spare.Given as goal

abbrev pub invariant-loop-link : goal.invariant-loop-link
invariant-loop-link l = find (λ link. has_in link (word_of l.links l.words (without l.fn.set link))) (drop l.link-index l.link-items) ≡ find (λ link. has_in link (word_of l.links l.words (without l.fn.set link))) l.fn.set
