use Rattle.std.proofs.Common.{ap, ◌∙◌}
use Rattle.topology.specs.Groups.{kind_at}
use Rattle.topology.specs.Members.{kind_of_members}
use Rattle.topology.proofs.TableLemmas.{kind-at}
use Rattle.topology.proofs.grouped.GroupedPorts.group_at.Goals as goal

pub returns : goal.returns
returns c =
    c.kind_of_members.ensures ∙
    ap (λ members. kind_of_members members) c.value_at.ensures ∙
    kind-at c.self.inside.items.items c.self.inside.members c.args.subnet.now c.self.invariant ∙
    ap (λ ports. kind_at ports c.args.subnet.now) c.self.view_is
