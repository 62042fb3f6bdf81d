use Rattle.std.proofs.Common.{sym, subst}
use Rattle.abstract_maps.specs.AbstractMap.{IsShort}
use Rattle.abstract_maps.proofs.LocalLemmas.{local_is_short}
use Rattle.abstract_maps.proofs.local_rows.local_row.Goals as goal

pub returns-clause-short : goal.returns-clause-short
returns-clause-short c = subst IsShort (sym c.row_at.ensures) (local_is_short c.args.net.now c.args.prefix c.args.router c.args.distance c.valid.ensures c.requires)
