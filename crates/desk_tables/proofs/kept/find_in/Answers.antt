use Rattle.std.proofs.Common.{◌∙◌, sym, ap, ◌&&◌}
use Rattle.std.specs.Str.{bytes_eq}
use Rattle.desk_tables.specs.Order.{passing}
use Rattle.desk_tables.specs.declared.rows.KeptRow.{KeptRow}
use Rattle.desk_tables.proofs.KeptLemmas.{found_at}
use Rattle.desk_tables.proofs.kept.find_in.Goals as goal

pub returns : goal.returns
returns c =
    let same = λ (k : KeptRow). bytes_eq k.user c.args.user.now && bytes_eq k.key c.args.key.now in
    c.kept_if.ensures ∙ ap (passing same) c.row_at.ensures ∙ sym (found_at c.args.rows.now c.args.order.now c.args.user.now c.args.key.now c.place_in.result c.requires c.place_in.ensures.split)
