use Rattle.std.proofs.Common.{◌∙◌, sym, arith}
use Rattle.std.proofs.lemmas.Option.{slice_get_past}
use Rattle.desk_tables.specs.Kept.{at_positions}
use Rattle.desk_tables.proofs.KeptLemmas.{length-at_positions, slice_get-at_positions}
use Rattle.desk_tables.proofs.kept.row_at.Goals as goal

pub returns-then-place-order : goal.returns-then-place-order
returns-then-place-order c = c.item.ensures ∙ sym (slice_get-at_positions c.args.rows.now c.args.order.now c.args.place 0 c.requires c.if-place-order.true)

pub returns-else-place-order : goal.returns-else-place-order
returns-else-place-order c = sym (slice_get_past (at_positions c.args.rows.now c.args.order.now) c.args.place (omega (arith, c.if-place-order.false, length-at_positions c.args.rows.now c.args.order.now c.requires)))
