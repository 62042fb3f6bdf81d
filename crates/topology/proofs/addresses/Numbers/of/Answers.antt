use Rattle.std.proofs.Common.{ℕ, List, sym, subst}
use Rattle.std.specs.List.Sorted.{IsNonDecreasing}
use Rattle.topology.proofs.OrderLaws.{number_linear}
use Rattle.topology.proofs.AddressLemmas.{steady-ascending}
use Rattle.topology.proofs.addresses.Numbers.of.Goals as goal

pub ascending-requires : goal.ascending-requires
ascending-requires c = number_linear

pub invariant_of-result : goal.invariant_of-result
invariant_of-result c = let P : List ℕ → Type 0 = λ ns. IsNonDecreasing ns in subst P (sym c.in_ok-items.ensures) (steady-ascending c.args.items.items)
