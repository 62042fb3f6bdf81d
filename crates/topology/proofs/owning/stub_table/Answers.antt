use Rattle.std.proofs.Common.{ap, sym, ◌∙◌}
use Rattle.topology.specs.OwnedTable.{owned_at}
use Rattle.topology.proofs.TableLemmas.{stubs_onto, owned-stubs, drop-whole}
use Rattle.topology.proofs.owning.stub_table.Goals as goal

pub returns : goal.returns
returns c = λ q.
    ap (λ ports. stubs_onto q (owned_at c.loop-port.table q) ports) (sym (drop-whole c.loop-port.port-index c.args.stubs.now c.loop-port-test.false)) ∙
    c.loop-port.invariant q ∙
    owned-stubs q c.args.stubs.now
