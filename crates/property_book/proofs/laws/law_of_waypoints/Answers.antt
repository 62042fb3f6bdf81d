use Rattle.property_book.proofs.LoopLemmas.{owners_go_around, sole_owners_are_waypoints, waypoints_count, waypoints_go_on}
use Rattle.property_book.proofs.laws.law_of_waypoints.Goals as goal

pub returns-clause-itself : goal.returns-clause-itself
returns-clause-itself c = waypoints_count

pub returns-clause-owners : goal.returns-clause-owners
returns-clause-owners c = owners_go_around

pub returns-clause-sole : goal.returns-clause-sole
returns-clause-sole c = sole_owners_are_waypoints

pub returns-clause-next : goal.returns-clause-next
returns-clause-next c = waypoints_go_on
