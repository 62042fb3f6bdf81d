use Rattle.desk_tables.proofs.TableLemmas.{find_below, find_counts}
use Rattle.std.proofs.Common.{◌∙◌, sym, arith, ◌-◌}
use Rattle.desk_tables.specs.declared.rows.ReviewRow.{ReviewRow}
use Rattle.desk_tables.proofs.lookups.review_in.Goals as goal

pub returns-then-id-eq0 : goal.returns-then-id-eq0
returns-then-id-eq0 c = sym (find_below (λ (r : ReviewRow). r.id) 1 c.args.rows.now c.args.id c.requires (omega arith))

pub returns : goal.returns
returns c = c.item.ensures ∙ sym (find_counts (λ (r : ReviewRow). r.id) 1 c.args.rows.now (c.args.id - 1) c.args.id c.requires (omega arith))
