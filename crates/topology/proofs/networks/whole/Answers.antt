use Rattle.std.proofs.Common.{ap, map, ◌∙◌, arith}
use Rattle.topology.specs.Live.{ports_from}
use Rattle.topology.specs.Groups.{wires}
use Rattle.topology.proofs.NetLemmas.{few_at, numbered_at, configs_at, net_is_at, small_at}
use Rattle.topology.proofs.networks.whole.Goals as goal

pub assemble-requires-clause-routers : goal.assemble-requires-clause-routers
assemble-requires-clause-routers c = few_at (λ y. y.now) c.deref-4.result.now c.args.configs.now (ap (λ xs. map (λ y. y.now) xs) c.deref-4.ensures.value ∙ c.in_ok-in_order.ensures) (omega arith)

pub assemble-requires-clause-numbered : goal.assemble-requires-clause-numbered
assemble-requires-clause-numbered c =
    let sorted = ap (λ xs. map (λ y. y.now) xs) c.deref.ensures.value ∙ c.in_ok-in_order.ensures in
    let all = c.in_ok-ports-2.ensures ∙ c.in_ok-ports.ensures ∙ ap (λ xs. ports_from 0 xs) sorted in
    numbered_at c.args.configs.now c.deref-5.result.now c.requires.valid (omega arith) (c.deref-5.ensures.value ∙ c.in_ok-wires.ensures ∙ ap (λ ps. wires ps) all)

pub assemble-requires-clause-configs : goal.assemble-requires-clause-configs
assemble-requires-clause-configs c = configs_at c.args.configs.now (map (λ y. y.now) c.deref-4.result.now) c.requires.valid (ap (λ xs. map (λ y. y.now) xs) c.deref-4.ensures.value ∙ c.in_ok-in_order.ensures)

pub assemble-requires-clause-valid : goal.assemble-requires-clause-valid
assemble-requires-clause-valid c =
    let sorted = ap (λ xs. map (λ y. y.now) xs) c.deref.ensures.value ∙ c.in_ok-in_order.ensures in
    let all = c.in_ok-ports-2.ensures ∙ c.in_ok-ports.ensures ∙ ap (λ xs. ports_from 0 xs) sorted in
    let found = c.deref-5.ensures.value ∙ c.in_ok-wires.ensures ∙ ap (λ ps. wires ps) all in
    net_is_at c.args.configs.now (map (λ y. y.now) c.deref-4.result.now) _ c.deref-5.result.now c.in_ok-communities.communities.items c.requires.valid c.requires.asns
    (small_at c.args.configs.now c.deref-5.result.now c.in_ok-communities.communities.items found c.in_ok-communities.ensures (omega arith) (omega arith) (omega arith))
    (ap (λ xs. map (λ y. y.now) xs) c.deref-4.ensures.value ∙ c.in_ok-in_order.ensures)
    all
    found
    c.in_ok-communities.ensures
