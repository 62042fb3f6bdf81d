use Rattle.std.proofs.Common.{◌≡◌, ◌∙◌, rules}
use Rattle.std.specs.List.{insert}
use Rattle.desk_tables.proofs.PlaceLemmas.{put_approval_at}
use Rattle.desk_tables.proofs.inserts.add_approval.Goals as goal

pub returns : goal.returns
returns c =
    let is : c.insert-added.new.self.items ≡ insert c.args.rows.now.items c.approval_place-place.result c.args.row = search rules in
    is ∙ put_approval_at c.args.row c.args.rows.now.items c.approval_place-place.result (rw (c.as_bytes.ensures, c.as_slice.ensures.value) at c.approval_place-place.ensures) c.requires.fresh
