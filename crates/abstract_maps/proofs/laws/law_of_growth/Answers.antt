use Rattle.abstract_maps.proofs.ArcLemmas.{transfer_grows, gives_grows, open_grows}
use Rattle.abstract_maps.proofs.laws.law_of_growth.Goals as goal

pub returns-clause-transfer : goal.returns-clause-transfer
returns-clause-transfer c = transfer_grows

pub returns-clause-gives : goal.returns-clause-gives
returns-clause-gives c = gives_grows

pub returns-clause-open : goal.returns-clause-open
returns-clause-open c = open_grows
