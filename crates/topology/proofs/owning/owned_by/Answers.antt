use Rattle.std.proofs.Common.{map, ap, ◌∙◌}
use Rattle.topology.specs.OwnedTable.{owned_at}
use Rattle.topology.proofs.TableLemmas.{owned-by, take-whole}
use Rattle.topology.proofs.owning.owned_by.Goals as goal

pub returns : goal.returns
returns c =
    c.loop-prefix.invariant ∙
    ap (λ prefixes. map (λ prefix. owned_at c.in_ok-table.table prefix) prefixes)
    (take-whole c.loop-prefix.prefix-index c.deref-prefix-items.result.now c.loop-prefix-test.false ∙ c.deref-prefix-items.ensures.value ∙ c.in_ok-prefixes.ensures) ∙
    owned-by c.args.stubs.now c.args.networks.now c.in_ok-table.table c.in_ok-table.ensures
