use Rattle.refine_rounds.proofs.RoundLemmas.{certain_routers_hold, held_stays_alive, rounds_are_sound, sure_is_there}
use Rattle.refine_rounds.proofs.laws.law_of_rounds.Goals as goal

pub returns-clause-certain : goal.returns-clause-certain
returns-clause-certain c = certain_routers_hold

pub returns-clause-sure : goal.returns-clause-sure
returns-clause-sure c = sure_is_there

pub returns-clause-kept : goal.returns-clause-kept
returns-clause-kept c = held_stays_alive

pub returns-clause-rounds : goal.returns-clause-rounds
returns-clause-rounds c = rounds_are_sound
