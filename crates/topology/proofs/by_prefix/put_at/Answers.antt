use Rattle.std.proofs.Common.{◌≡◌, cond, Some, subst}
use Rattle.net_types.specs.PrefixValue.{PrefixValue}
use Rattle.net_types.specs.Prefixes.{same_prefix}
use Rattle.topology.specs.ByPrefix.{value_at}
use Rattle.topology.proofs.TableLemmas.{put-at}
use Rattle.topology.proofs.by_prefix.put_at.Goals as goal

pub returns : goal.returns
returns g c =
    let P : PrefixValue → Type 0 = λ p. (q : PrefixValue) → value_at c.insert.new.self q ≡ cond (same_prefix p q) (Some c.args.value) (value_at c.args.values.now q) in
    subst P c.prefix.view_is (put-at c.args.values.now c.insert.new.self (record { bits = c.prefix.inside.bits; len = c.prefix.inside.len }) c.args.value c.in_ok-insert.ensures.updates)
