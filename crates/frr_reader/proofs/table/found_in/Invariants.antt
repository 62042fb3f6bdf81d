use Rattle.std.proofs.Common.{◌≡◌, map, drop}
use Rattle.frr_reader.specs.declared.rows.LineForm.{LineForm}
use Rattle.frr_reader.specs.Table.{first_given, by_form, form}
use Rattle.frr_reader.proofs.table.found_in.Given as goal

abbrev pub invariant-loop-form : goal.invariant-loop-form
invariant-loop-form l = first_given (by_form l.line l.mode) (map (λ (f : LineForm). form f.modes.now f.head.now f.row) l.form-items) ≡ first_given (by_form l.line l.mode) (map (λ (f : LineForm). form f.modes.now f.head.now f.row) (drop l.form-index l.form-items))
