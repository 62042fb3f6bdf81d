use Rattle.std.proofs.Common.{◌≡◌, None, rules}
use Rattle.stored_rows.specs.Stored.{first_bad_row}
use Rattle.stored_rows.proofs.OutLemmas.{good_tables}
use Rattle.review_rules.proofs.restoring.restore.Goals as goal

pub valid_desk-requires : goal.valid_desk-requires
valid_desk-requires c =
    let none : first_bad_row c.args.rows ≡ None = search rules in
    good_tables c.args.rows none
