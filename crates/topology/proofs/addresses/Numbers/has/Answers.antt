use Rattle.std.proofs.Common.{ℕ, ◌==◌, List, ap, sym, subst, ◌∙◌}
use Rattle.std.specs.List.{list_any}
use Rattle.std.specs.List.Sorted.{IsNonDecreasing}
use Rattle.topology.proofs.AddressLemmas.{found-is}
use Rattle.topology.proofs.addresses.Numbers.has.Goals as goal

pub returns : goal.returns
returns c =
    let P : List ℕ → Type 0 = λ ns. IsNonDecreasing ns in
    let steady : IsNonDecreasing c.deref.result.now = subst P (sym c.deref.ensures.value) c.self.invariant in
    c.is_ok.ensures.value ∙ found-is c.deref.result.now c.args.number c.binary_search.result steady c.binary_search.ensures.position ∙ ap (λ ns. list_any (λ n. c.args.number == n) ns) (c.deref.ensures.value ∙ c.self.view_is)
