use Rattle.property_book.proofs.MeaningLemmas.{holds_with_fewer}
use Rattle.property_book.proofs.laws.law_of_fewer_failures.Goals as goal

pub returns : goal.returns
returns c = holds_with_fewer
