use Rattle.std.proofs.Common.{◌∙◌}
use Rattle.desk_keeper.proofs.PutLemmas.{put_review_at, put_review_over}
use Rattle.desk_keeper.proofs.puts.put_review.Goals as goal

pub returns-then-is_review_at : goal.returns-then-is_review_at
returns-then-is_review_at c =
    let within = rw c.as_slice-2.ensures.value at (c.is_review_at.ensures.within c.if-is_review_at.true) in
    let here = rw c.as_slice-2.ensures.value at (c.is_review_at.ensures.here c.args.row c.if-is_review_at.true) in
    put_review_over c.args.row c.args.rows.now.items c.review_place-place.result c.args.row c.requires.sorted within here

pub returns-else-is_review_at : goal.returns-else-is_review_at
returns-else-is_review_at c =
    let other = rw c.as_slice-2.ensures.value at (c.is_review_at.ensures.other c.if-is_review_at.false) in
    let split = rw c.as_slice.ensures.value at c.review_place-place.ensures in
    c.insert_review.ensures ∙ put_review_at c.args.row c.args.rows.now.items c.review_place-place.result c.requires.sorted split other
