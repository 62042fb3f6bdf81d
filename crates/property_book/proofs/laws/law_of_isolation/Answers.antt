use Rattle.property_book.proofs.LoopLemmas.{isolated_reach_nobody}
use Rattle.property_book.proofs.StepLemmas.{isolated_are_stuck, stuck_are_isolated}
use Rattle.property_book.proofs.laws.law_of_isolation.Goals as goal

pub returns-clause-stuck : goal.returns-clause-stuck
returns-clause-stuck c = isolated_are_stuck

pub returns-clause-isolated : goal.returns-clause-isolated
returns-clause-isolated c = stuck_are_isolated

pub returns-clause-reach : goal.returns-clause-reach
returns-clause-reach c = isolated_reach_nobody
