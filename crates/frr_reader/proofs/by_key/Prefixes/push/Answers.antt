use Rattle.std.proofs.Common.{◌≡◌, List, ℕ, length, subst, sym, false, Some}
use Rattle.std.specs.List.{list_any}
use Rattle.std.specs.BTreeMap.{Updates}
use Rattle.std.specs.Ordering.{nat_cmp, ordering_then}
use Rattle.net_types.specs.PrefixValue.{PrefixValue}
use Rattle.net_types.specs.Prefixes.{same_prefix}
use Rattle.frr_reader.proofs.PlaceLemmas.{prefixes_push}
use Rattle.frr_reader.proofs.by_key.Prefixes.push.Goals as goal

pub invariant_of-self-2 : goal.invariant_of-self-2
invariant_of-self-2 c = λ p.
    let ps : List PrefixValue = c.self.inside.items.items in
    let absent : list_any (λ q. same_prefix q c.args.prefix) ps ≡ false =
    subst (λ ys. list_any (λ q. same_prefix q c.args.prefix) ys ≡ false) (sym c.self.view_is) c.requires in
    let at : c.len-place.result ≡ length ps = subst (λ ys. c.len-place.result ≡ length ys) (sym c.self.view_is) c.len-place.ensures in
    let updates : Updates (λ a b. ordering_then (nat_cmp a.0 b.0) (nat_cmp a.1 b.1)) c.self.inside.places c.insert.new.self (c.args.prefix.bits, c.args.prefix.len) (Some c.len-place.result) =
    subst (λ (x : PrefixValue). Updates (λ a b. ordering_then (nat_cmp a.0 b.0) (nat_cmp a.1 b.1)) c.self.inside.places c.insert.new.self (x.bits, x.len) (Some c.len-place.result)) c.prefix.view_is c.in_ok-insert.ensures.updates in
    rw (c.push_within.ensures, c.in_ok-reserve.ensures.items)
    (prefixes_push ps c.args.prefix c.self.inside.places c.insert.new.self c.len-place.result c.self.invariant absent at updates p)
