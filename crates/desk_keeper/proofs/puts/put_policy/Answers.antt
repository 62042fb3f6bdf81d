use Rattle.std.proofs.Common.{◌∙◌}
use Rattle.desk_keeper.proofs.PutLemmas.{put_policy_at, put_policy_over}
use Rattle.desk_keeper.proofs.puts.put_policy.Goals as goal

pub returns-then-is_policy_at : goal.returns-then-is_policy_at
returns-then-is_policy_at c =
    let within = rw c.as_slice-2.ensures.value at (c.is_policy_at.ensures.within c.if-is_policy_at.true) in
    let here = rw c.as_slice-2.ensures.value at (c.is_policy_at.ensures.here c.args.row c.if-is_policy_at.true) in
    put_policy_over c.args.row c.args.rows.now.items c.policy_place-place.result c.args.row c.requires.sorted within here

pub returns-else-is_policy_at : goal.returns-else-is_policy_at
returns-else-is_policy_at c =
    let other = rw c.as_slice-2.ensures.value at (c.is_policy_at.ensures.other c.if-is_policy_at.false) in
    let split = rw c.as_slice.ensures.value at c.policy_place-place.ensures in
    c.insert_policy.ensures ∙ put_policy_at c.args.row c.args.rows.now.items c.policy_place-place.result c.requires.sorted split other
