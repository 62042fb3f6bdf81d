use Rattle.property_book.proofs.LoopLemmas.{walks_go_on}
use Rattle.property_book.proofs.laws.law_of_walks.Goals as goal

pub returns : goal.returns
returns c = walks_go_on
