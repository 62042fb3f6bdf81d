use Rattle.std.proofs.Common.{◌≡◌, ◌<◌, ◌&&◌, true, is_some, length, slice_get, rules}
use Rattle.std.specs.Str.{bytes_eq}
use Rattle.desk_tables.specs.Order.{passing}
use Rattle.desk_tables.specs.Kept.{at_positions}
use Rattle.desk_tables.specs.declared.rows.KeptRow.{KeptRow}
use Rattle.desk_tables.proofs.KeptLemmas.{passed_within}
use Rattle.desk_tables.proofs.kept.put_in.Goals as goal

pub put_over-requires-clause-within : goal.put_over-requires-clause-within
put_over-requires-clause-within c =
    let same = λ (k : KeptRow). bytes_eq k.user c.args.row.user && bytes_eq k.key c.args.row.key in
    let h : is_some (passing same (slice_get (at_positions c.args.rows.now.items c.args.order.now.items) c.place_in-place.result)) ≡ true = search rules in
    let low : c.place_in-place.result < length c.args.order.now.items = passed_within same c.args.rows.now.items c.args.order.now.items c.place_in-place.result c.requires.order.within h in
    search rules
