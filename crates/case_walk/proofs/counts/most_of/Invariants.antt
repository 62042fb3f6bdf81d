use Rattle.std.proofs.Common.{◌≡◌, max, drop}
use Rattle.case_walk.specs.Book.{most_of}
use Rattle.case_walk.proofs.counts.most_of.Given as goal

abbrev pub invariant-loop-property : goal.invariant-loop-property
invariant-loop-property l = max l.most (most_of l.net l.prefix (drop l.property-index l.book)) ≡ most_of l.net l.prefix l.book
