use Rattle.abstract_maps.proofs.LengthLemmas.{gives_lengthens, longest_is_small, map_keeps, open_adds_one, transfer_lengthens}
use Rattle.abstract_maps.proofs.laws.law_of_lengthening.Goals as goal

pub returns-clause-map : goal.returns-clause-map
returns-clause-map c = map_keeps

pub returns-clause-transfer : goal.returns-clause-transfer
returns-clause-transfer c = transfer_lengthens

pub returns-clause-gives : goal.returns-clause-gives
returns-clause-gives c = gives_lengthens

pub returns-clause-cut : goal.returns-clause-cut
returns-clause-cut c = longest_is_small

pub returns-clause-open : goal.returns-clause-open
returns-clause-open c = open_adds_one
