use Rattle.std.proofs.Common.{◌-◌, arith}
use Rattle.desk_tables.specs.Tables.{merged}
use Rattle.desk_tables.proofs.PlaceLemmas.{set_is_changed}
use Rattle.desk_tables.proofs.inserts.merge_in.Goals as goal

pub returns : goal.returns
returns c = set_is_changed c.args.review 1 (c.args.review - 1) (merged c.args.head) c.args.rows.now c.index-rows-review.result c.requires.numbered (omega (arith, c.requires.there.0)) (omega (arith, c.requires.there.0, c.requires.there.1))
