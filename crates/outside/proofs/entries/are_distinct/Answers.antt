-- The test decides the fact.
use Rattle.std.proofs.Common.{sym, ◌∙◌}
use Rattle.outside.proofs.ListingLemmas.{are_distinct-true, true-are_distinct}
use Rattle.outside.proofs.entries.are_distinct.Goals as goal

pub returns : goal.returns
returns c = (λ h. are_distinct-true c.args.entries.now (sym c.pass_distinct.ensures ∙ h), λ p. c.pass_distinct.ensures ∙ true-are_distinct c.args.entries.now p)
