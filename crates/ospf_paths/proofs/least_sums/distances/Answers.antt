use Rattle.std.proofs.Common.{◌≡◌, ◌∙◌, arith, ap, length}
use Rattle.ospf_paths.specs.OnTheWay.{stub_costs, AreSums}
use Rattle.ospf_paths.proofs.Passes.{start_bounded, start_sums, settled_are_distances, bounded_small, given_back}
use Rattle.ospf_paths.proofs.least_sums.distances.Goals as goal

pub settle-requires : goal.settle-requires
settle-requires c =
    let begun : c.deref_mut.result.now ≡ stub_costs c.args.prefix c.args.net.now.routers = c.deref_mut.ensures.value ∙ c.in_ok-distances.ensures in
    record { bounded = rw begun (start_bounded c.args.net.now c.valid.ensures c.args.prefix) }

pub returns : goal.returns
returns c =
    let begun : c.deref_mut.result.now ≡ stub_costs c.args.prefix c.args.net.now.routers = c.deref_mut.ensures.value ∙ c.in_ok-distances.ensures in
    let long : length c.deref_mut.result.now ≡ length c.in_ok-distances.distances.items = ap length c.deref_mut.ensures.value in
    let k = c.in_ok-distances.distances.ok in
    let n = c.settle.auto.distances in
    let back = c.from_vec.ensures ∙ given_back c.in_ok-distances.distances.len c.settle.new.distances c.in_ok-distances.distances.items (omega arith) (omega arith) in
    let start : AreSums c.args.net.now c.args.prefix c.args.failed c.deref_mut.result.now = rw begun (start_sums c.args.net.now c.args.prefix c.args.failed) in
    record {
      exact = rw back (settled_are_distances c.args.net.now c.args.prefix c.args.failed c.settle.new.distances c.settle.ensures.bounded (c.settle.ensures.sums c.args.prefix start) c.settle.ensures.settled);
      small = rw back (bounded_small c.args.net.now c.valid.ensures c.settle.new.distances c.settle.ensures.bounded);
    }
