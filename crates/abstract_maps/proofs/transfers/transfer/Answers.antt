use Rattle.std.proofs.Common.{sym, subst}
use Rattle.abstract_maps.specs.AbstractMap.{IsShort}
use Rattle.abstract_maps.proofs.ArcLemmas.{transfer_is_short}
use Rattle.abstract_maps.proofs.transfers.transfer.Goals as goal

pub returns-clause-short : goal.returns-clause-short
returns-clause-short c = subst IsShort (sym c.over_arc.ensures) (transfer_is_short c.args.net.now c.args.prefix c.args.arc c.args.row.now c.valid.ensures)
