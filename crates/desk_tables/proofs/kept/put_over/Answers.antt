use Rattle.desk_tables.proofs.KeptLemmas.{over_is_put, over_within, put_keeps_order}
use Rattle.std.proofs.Common.{get_or, set}
use Rattle.desk_tables.proofs.kept.put_over.Goals as goal

pub returns-clause-put : goal.returns-clause-put
returns-clause-put c = over_is_put c.args.rows.now.items c.args.order.now c.args.place 0 c.args.row c.requires.order c.requires.here

pub returns-clause-order : goal.returns-clause-order
returns-clause-order c =
    let position = get_or c.args.order.now c.args.place 0 in
    put_keeps_order c.args.rows.now.items (set c.args.rows.now.items position c.args.row) c.args.order.now c.args.order.now c.args.row c.requires.order (over_within c.args.rows.now.items c.args.order.now position c.args.row c.requires.order.within) (over_is_put c.args.rows.now.items c.args.order.now c.args.place 0 c.args.row c.requires.order c.requires.here)
