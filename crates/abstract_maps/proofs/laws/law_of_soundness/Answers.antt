use Rattle.abstract_maps.proofs.ArcLemmas.{transfer_sound, gives_sound}
use Rattle.abstract_maps.proofs.ArrivalLemmas.{arrival_fits, arrival_is_in}
use Rattle.abstract_maps.proofs.laws.law_of_soundness.Goals as goal

pub returns-clause-transfer : goal.returns-clause-transfer
returns-clause-transfer c = transfer_sound

pub returns-clause-gives : goal.returns-clause-gives
returns-clause-gives c = gives_sound

pub returns-clause-arrival : goal.returns-clause-arrival
returns-clause-arrival c = arrival_fits

pub returns-clause-arrival_in : goal.returns-clause-arrival_in
returns-clause-arrival_in c = arrival_is_in
