use Rattle.std.proofs.Common.{◌≡◌, drop}
use Rattle.case_walk.specs.Book.{asked_prefixes, stands}
use Rattle.case_walk.proofs.counts.is_asked_of.Given as goal

abbrev pub invariant-loop-property : goal.invariant-loop-property
invariant-loop-property l = stands (asked_prefixes l.net (drop l.property-index l.book)) l.prefix ≡ stands (asked_prefixes l.net l.book) l.prefix
