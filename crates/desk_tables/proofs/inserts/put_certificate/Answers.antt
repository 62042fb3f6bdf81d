use Rattle.std.proofs.Common.{◌∙◌}
use Rattle.desk_tables.proofs.PlaceLemmas.{put_certificate_at, put_certificate_over}
use Rattle.desk_tables.proofs.inserts.put_certificate.Goals as goal

pub returns-then-is_at : goal.returns-then-is_at
returns-then-is_at c =
    let within = rw c.as_slice-2.ensures.value at (c.is_at.ensures.within c.if-is_at.true) in
    let here = rw c.as_slice-2.ensures.value at (c.is_at.ensures.here c.args.row c.if-is_at.true) in
    put_certificate_over c.args.row c.args.rows.now.items c.certificate_place-place.result c.args.row c.requires.sorted within here

pub returns-else-is_at : goal.returns-else-is_at
returns-else-is_at c =
    let other = rw c.as_slice-2.ensures.value at (c.is_at.ensures.other c.if-is_at.false) in
    let split = rw c.as_slice.ensures.value at c.certificate_place-place.ensures in
    c.insert_certificate.ensures ∙ put_certificate_at c.args.row c.args.rows.now.items c.certificate_place-place.result c.requires.sorted split other
