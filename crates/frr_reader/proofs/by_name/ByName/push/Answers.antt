use Rattle.std.proofs.Common.{◌≡◌, ◌≤◌, ◌∙◌, Bool, List, ℕ, length, subst, sym}
use Rattle.std.specs.List.{position_or_len}
use Rattle.net_types.specs.Order.{same_text}
use Rattle.frr_reader.proofs.PlaceLemmas.{places_push}
use Rattle.frr_reader.proofs.by_name.ByName.push.Goals as goal

pub invariant_of-self-2 : goal.invariant_of-self-2
invariant_of-self-2 g c = λ name.
    let xs : List g.row.T.Denot = c.self.inside.items.items in
    let p : g.row.T.Denot → Bool = λ x. same_text (g.T.Named.name_of x) (g.T.Named.name_of c.args.item) in
    let absent : length xs ≤ position_or_len p xs = subst (λ ys. length ys ≤ position_or_len p ys) (sym c.self.view_is) c.requires in
    let at : c.len-place.result ≡ length xs = subst (λ ys. c.len-place.result ≡ length ys) (sym c.self.view_is) c.len-place.ensures in
    rw (c.push_within.ensures, c.in_ok-reserve.ensures.items)
    (places_push g.T.Named.name_of xs c.args.item c.self.inside.places c.insert.new.self c.in_ok-name.name c.len-place.result
    c.self.invariant absent (c.in_ok-name.ensures.ok ∙ (c.as_str.ensures ∙ c.name.ensures)) at c.in_ok-insert.ensures.updates name)
