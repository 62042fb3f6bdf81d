use Rattle.std.proofs.Common.{◌≡◌, ◌∙◌, List, ℕ, subst}
use Rattle.std.specs.List.{list_any}
use Rattle.net_types.specs.PrefixValue.{PrefixValue}
use Rattle.net_types.specs.Prefixes.{same_prefix}
use Rattle.frr_reader.proofs.PlaceLemmas.{name_found}
use Rattle.frr_reader.proofs.by_key.Prefixes.has.Goals as goal

pub returns : goal.returns
returns c =
    let ps : List PrefixValue = c.self.inside.items.items in
    let p : PrefixValue = record { bits = c.prefix.inside.bits; len = c.prefix.inside.len } in
    let found : c.contains_key.result ≡ list_any (λ q. same_prefix q p) ps = c.contains_key.ensures ∙ name_found (λ q. same_prefix q p) ps _ (c.self.invariant p) in
    subst (λ ys. c.contains_key.result ≡ list_any (λ q. same_prefix q c.args.prefix.now) ys) c.self.view_is
    (subst (λ (x : PrefixValue). c.contains_key.result ≡ list_any (λ q. same_prefix q x) ps) c.prefix.view_is found)
