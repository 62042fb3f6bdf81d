use Rattle.failure_sets.proofs.LawLemmas.{counts_are_sums, counts_in_closed_form, sums_of_pairs_and_triples}
use Rattle.failure_sets.proofs.laws.law_of_counts.Goals as goal

pub returns-clause-sums : goal.returns-clause-sums
returns-clause-sums c = counts_are_sums

pub returns-clause-sizes : goal.returns-clause-sizes
returns-clause-sizes c = sums_of_pairs_and_triples

pub returns-clause-closed : goal.returns-clause-closed
returns-clause-closed c = counts_in_closed_form
