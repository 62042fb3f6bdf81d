use Rattle.std.proofs.Common.{◌≡◌, ◌==◌, List, ℕ, length, subst, sym, None}
use Rattle.std.specs.Prelude.{position}
use Rattle.net_types.specs.declared.config.Neighbor.{Neighbor}
use Rattle.frr_reader.proofs.PlaceLemmas.{addresses_push}
use Rattle.frr_reader.proofs.by_key.Neighbors.push.Goals as goal

pub invariant_of-self-2 : goal.invariant_of-self-2
invariant_of-self-2 c = λ address.
    let ns : List Neighbor = c.self.inside.items.items in
    let absent : position (λ (n : Neighbor). n.address == c.args.neighbor.address) ns ≡ None =
    subst (λ ys. position (λ (n : Neighbor). n.address == c.args.neighbor.address) ys ≡ None) (sym c.self.view_is) c.requires in
    let at : c.len-place.result ≡ length ns = subst (λ ys. c.len-place.result ≡ length ys) (sym c.self.view_is) c.len-place.ensures in
    rw (c.push_within.ensures, c.in_ok-reserve.ensures.items)
    (addresses_push ns c.args.neighbor c.self.inside.places c.insert.new.self c.len-place.result c.self.invariant absent at c.in_ok-insert.ensures.updates address)
