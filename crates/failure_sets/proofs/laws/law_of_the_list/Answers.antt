use Rattle.failure_sets.proofs.LawLemmas.{holds_the_permitted, holds_each_once, stand_in_order, empty_set_is_first}
use Rattle.failure_sets.proofs.laws.law_of_the_list.Goals as goal

pub returns-clause-permitted : goal.returns-clause-permitted
returns-clause-permitted c = holds_the_permitted

pub returns-clause-once : goal.returns-clause-once
returns-clause-once c = holds_each_once

pub returns-clause-order : goal.returns-clause-order
returns-clause-order c = stand_in_order

pub returns-clause-first : goal.returns-clause-first
returns-clause-first c = empty_set_is_first
