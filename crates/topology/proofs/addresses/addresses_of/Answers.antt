use Rattle.std.proofs.Common.{◌≡◌, length, nat_lt, ap, ◌∙◌, arith}
use Rattle.topology.specs.Live.{has_address_twice}
use Rattle.topology.specs.Communities.{ascending_numbers}
use Rattle.topology.specs.Addresses.{link_addresses}
use Rattle.topology.proofs.AddressLemmas.{repeat-is}
use Rattle.topology.proofs.addresses.addresses_of.Goals as goal

pub returns : goal.returns
returns c =
    let all : c.in_ok-all.all.items ≡ link_addresses c.args.config.now = c.in_ok-all.ensures in
    let each : c.in_ok-each.each ≡ ascending_numbers (link_addresses c.args.config.now) = c.in_ok-each.ensures ∙ ap (λ ns. ascending_numbers ns) all in
    let count : c.len-count.result ≡ length c.in_ok-all.all.items = omega (arith, c.len-count.ensures, c.in_ok-all.all.ok.0) in
    let repeat : nat_lt c.len.result c.len-count.result ≡ has_address_twice c.args.config.now =
    ap (λ n. nat_lt n c.len-count.result) (c.len.ensures ∙ ap (λ ns. length ns) each) ∙
    ap (λ n. nat_lt (length (ascending_numbers (link_addresses c.args.config.now))) n) (count ∙ ap (λ ns. length ns) all) ∙
    repeat-is c.args.config.now in
    λ i. record { each = each i; repeat = repeat i }
