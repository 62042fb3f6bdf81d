use Rattle.implication.proofs.TrailLemmas.{reach_trails, waypoint_trails}
use Rattle.implication.proofs.laws.law_of_trails.Goals as goal

pub returns-clause-reach : goal.returns-clause-reach
returns-clause-reach c = reach_trails

pub returns-clause-waypoint : goal.returns-clause-waypoint
returns-clause-waypoint c = waypoint_trails
