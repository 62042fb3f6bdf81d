use Rattle.std.proofs.Common.{◌∙◌}
use Rattle.desk_keeper.proofs.PutLemmas.{put_file_at, put_file_over}
use Rattle.desk_keeper.proofs.puts.put_file.Goals as goal

pub returns-then-is_file_at-clause-put : goal.returns-then-is_file_at-clause-put
returns-then-is_file_at-clause-put c =
    let within = rw c.as_slice-2.ensures.value at (c.is_file_at.ensures.within c.if-is_file_at.true) in
    let here = rw c.as_slice-2.ensures.value at (c.is_file_at.ensures.here c.args.row c.if-is_file_at.true) in
    put_file_over c.args.row c.args.rows.now.items c.file_place-place.result c.args.row c.requires.sorted within here

pub returns-else-is_file_at-clause-put : goal.returns-else-is_file_at-clause-put
returns-else-is_file_at-clause-put c =
    let other = rw c.as_slice-2.ensures.value at (c.is_file_at.ensures.other c.if-is_file_at.false) in
    let split = rw (c.as_bytes.ensures, c.as_slice.ensures.value) at c.file_place-place.ensures in
    c.insert_file.ensures.put ∙ put_file_at c.args.row c.args.rows.now.items c.file_place-place.result c.requires.sorted split other
