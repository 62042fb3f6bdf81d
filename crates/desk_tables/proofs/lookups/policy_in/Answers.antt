use Rattle.desk_tables.proofs.TableLemmas.{find_below, find_counts}
use Rattle.std.proofs.Common.{◌∙◌, sym, arith, ◌-◌}
use Rattle.desk_tables.specs.declared.rows.PolicyRow.{PolicyRow}
use Rattle.desk_tables.proofs.lookups.policy_in.Goals as goal

pub returns-then-version-eq0 : goal.returns-then-version-eq0
returns-then-version-eq0 c = sym (find_below (λ (r : PolicyRow). r.version) 1 c.args.rows.now c.args.version c.requires (omega arith))

pub returns : goal.returns
returns c = c.item.ensures ∙ sym (find_counts (λ (r : PolicyRow). r.version) 1 c.args.rows.now (c.args.version - 1) c.args.version c.requires (omega arith))
