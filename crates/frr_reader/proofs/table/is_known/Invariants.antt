use Rattle.std.proofs.Common.{◌≡◌, map, drop}
use Rattle.std.specs.List.{list_any}
use Rattle.frr_reader.specs.declared.rows.LineForm.{LineForm}
use Rattle.frr_reader.specs.Table.{has_head, form}
use Rattle.frr_reader.proofs.table.is_known.Given as goal

abbrev pub invariant-loop-form : goal.invariant-loop-form
invariant-loop-form l = list_any (has_head l.line) (map (λ (f : LineForm). form f.modes.now f.head.now f.row) l.form-items) ≡ list_any (has_head l.line) (map (λ (f : LineForm). form f.modes.now f.head.now f.row) (drop l.form-index l.form-items))
