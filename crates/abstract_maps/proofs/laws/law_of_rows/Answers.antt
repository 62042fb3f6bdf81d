use Rattle.abstract_maps.proofs.ArcLemmas.{transfer_is_cut, transfer_is_row, gives_is_row, transfer_is_short, gives_is_short}
use Rattle.abstract_maps.proofs.laws.law_of_rows.Goals as goal

pub returns-clause-transfer : goal.returns-clause-transfer
returns-clause-transfer c = transfer_is_row

pub returns-clause-gives : goal.returns-clause-gives
returns-clause-gives c = gives_is_row

pub returns-clause-short_transfer : goal.returns-clause-short_transfer
returns-clause-short_transfer c = transfer_is_short

pub returns-clause-short_gives : goal.returns-clause-short_gives
returns-clause-short_gives c = gives_is_short

pub returns-clause-cut : goal.returns-clause-cut
returns-clause-cut c = transfer_is_cut
