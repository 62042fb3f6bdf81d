use Rattle.desk_tables.proofs.TableLemmas.{other_length}
use Rattle.std.proofs.Common.{sym}
use Rattle.desk_tables.proofs.lookups.is_same_files.Goals as goal

pub returns-then-rows-files : goal.returns-then-rows-files
returns-then-rows-files c = sym (other_length c.args.rows.now c.args.files.now c.if-rows-files.true)
