use Rattle.std.proofs.Common.{◌∙◌}
use Rattle.desk_keeper.proofs.PutLemmas.{put_approval_at, put_approval_over}
use Rattle.desk_keeper.proofs.puts.put_approval.Goals as goal

pub returns-then-is_approval_at : goal.returns-then-is_approval_at
returns-then-is_approval_at c =
    let within = rw c.as_slice-2.ensures.value at (c.is_approval_at.ensures.within c.if-is_approval_at.true) in
    let here = rw c.as_slice-2.ensures.value at (c.is_approval_at.ensures.here c.args.row c.if-is_approval_at.true) in
    put_approval_over c.args.row c.args.rows.now.items c.approval_place-place.result c.args.row c.requires.sorted within here

pub returns-else-is_approval_at : goal.returns-else-is_approval_at
returns-else-is_approval_at c =
    let other = rw c.as_slice-2.ensures.value at (c.is_approval_at.ensures.other c.if-is_approval_at.false) in
    let split = rw (c.as_bytes.ensures, c.as_slice.ensures.value) at c.approval_place-place.ensures in
    c.insert_approval.ensures ∙ put_approval_at c.args.row c.args.rows.now.items c.approval_place-place.result c.requires.sorted split other
