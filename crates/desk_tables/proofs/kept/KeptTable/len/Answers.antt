use Rattle.std.proofs.Common.{◌≡◌, ◌∙◌, sym, ap, length, rules}
use Rattle.desk_tables.specs.Kept.{KeptValue}
use Rattle.desk_tables.proofs.KeptLemmas.{length-at_positions}
use Rattle.desk_tables.proofs.kept.KeptTable.len.Goals as goal

pub returns : goal.returns
returns c =
    let is : c.len.result ≡ length c.self.inside.order.items = search rules in
    is ∙ sym (length-at_positions c.self.inside.rows.items c.self.inside.order.items c.self.invariant.within) ∙ ap (λ (v : KeptValue). length v.items) c.self.view_is
