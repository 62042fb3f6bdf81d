use Rattle.abstract_maps.proofs.ArcLemmas.{closed_is_bottom, free_either, gives_either, passes_is_open, transfer_either}
use Rattle.abstract_maps.proofs.FreeLemmas.{free_is_transfer}
use Rattle.abstract_maps.proofs.laws.law_of_open_arcs.Goals as goal

pub returns-clause-passes : goal.returns-clause-passes
returns-clause-passes c = passes_is_open

pub returns-clause-closed : goal.returns-clause-closed
returns-clause-closed c = closed_is_bottom

pub returns-clause-either : goal.returns-clause-either
returns-clause-either c = transfer_either

pub returns-clause-either_free : goal.returns-clause-either_free
returns-clause-either_free c = free_either

pub returns-clause-either_gives : goal.returns-clause-either_gives
returns-clause-either_gives c = gives_either

pub returns-clause-free : goal.returns-clause-free
returns-clause-free c = free_is_transfer
