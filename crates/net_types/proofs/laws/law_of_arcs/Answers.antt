use Rattle.net_types.proofs.NetLemmas.{up_goes_to_the_higher, down_goes_back, adjacencies_are_crossed, only_adjacencies_are_crossed}
use Rattle.net_types.proofs.laws.law_of_arcs.Goals as goal

pub returns-clause-up : goal.returns-clause-up
returns-clause-up c = up_goes_to_the_higher

pub returns-clause-down : goal.returns-clause-down
returns-clause-down c = down_goes_back

pub returns-clause-crossed : goal.returns-clause-crossed
returns-clause-crossed c = adjacencies_are_crossed

pub returns-clause-only : goal.returns-clause-only
returns-clause-only c = only_adjacencies_are_crossed
