use Rattle.std.proofs.Common.{◌≡◌, ◌∙◌, Bool, List, ℕ, None, subst}
use Rattle.std.specs.Prelude.{position}
use Rattle.std.specs.List.{position_or_len}
use Rattle.net_types.specs.Order.{same_text}
use Rattle.frr_reader.proofs.PlaceLemmas.{place_found, place_missing}
use Rattle.frr_reader.proofs.by_name.ByName.place_of.Goals as goal

pub returns-in-Some : goal.returns-in-Some
returns-in-Some g c =
    let p : g.row.T.Denot → Bool = λ x. same_text (g.T.Named.name_of x) c.args.name.now in
    subst (λ xs. c.in-Some.place.now ≡ position_or_len p xs) c.self.view_is
    (place_found p c.self.inside.items.items c.in-Some.place.now (c.in-Some.ensures.value ∙ c.self.invariant c.args.name.now))

pub returns-in-None : goal.returns-in-None
returns-in-None g c =
    let p : g.row.T.Denot → Bool = λ x. same_text (g.T.Named.name_of x) c.args.name.now in
    let none : None ≡ position p c.args.self.now = subst (λ xs. None ≡ position p xs) c.self.view_is (c.in-None.ensures.value ∙ c.self.invariant c.args.name.now) in
    place_missing p c.args.self.now c.len.result none c.len.ensures
