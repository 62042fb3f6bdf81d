use Rattle.property_book.proofs.ForwardLemmas.{reach_by_ospf}
use Rattle.property_book.proofs.LoopLemmas.{reach_ends_at_owners, reach_goes_on, reach_is_no_loop}
use Rattle.property_book.proofs.laws.law_of_reach.Goals as goal

pub returns-clause-next : goal.returns-clause-next
returns-clause-next c = reach_goes_on

pub returns-clause-loops : goal.returns-clause-loops
returns-clause-loops c = reach_is_no_loop

pub returns-clause-ends : goal.returns-clause-ends
returns-clause-ends c = reach_ends_at_owners

pub returns-clause-ospf : goal.returns-clause-ospf
returns-clause-ospf c = reach_by_ospf
