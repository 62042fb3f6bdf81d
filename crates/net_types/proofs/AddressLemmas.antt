-- A text of too many parts is no address and no interface.
use Rattle.std.proofs.Common.{ℕ, ◌≡◌, List, ◌∷◌, None, ap, ◌∙◌, sym}
use Rattle.net_types.specs.Cut.{parts}
use Rattle.net_types.specs.Addresses.{address_of, address_of_parts, interface_of, interface_of_parts}
use Rattle.net_types.proofs.CutLemmas.{first_part}

pub five_parts : (text a r b s c t d u : List ℕ) → parts 46 text ≡ a ∷ parts 46 r → parts 46 r ≡ b ∷ parts 46 s → parts 46 s ≡ c ∷ parts 46 t → parts 46 t ≡ d ∷ parts 46 u → None ≡ address_of text
five_parts text a r b s c t d u e f g h =
    let p = first_part 46 u in
    let all : parts 46 text ≡ a ∷ b ∷ c ∷ d ∷ p.0 ∷ p.1 = e ∙ ap (λ x. a ∷ x) (f ∙ ap (λ x. b ∷ x) (g ∙ ap (λ x. c ∷ x) (h ∙ ap (λ x. d ∷ x) p.2))) in
    sym (ap address_of_parts all)

pub three_parts : (text a r b s : List ℕ) → parts 47 text ≡ a ∷ parts 47 r → parts 47 r ≡ b ∷ parts 47 s → None ≡ interface_of text
three_parts text a r b s e f =
    let p = first_part 47 s in
    let all : parts 47 text ≡ a ∷ b ∷ p.0 ∷ p.1 = e ∙ ap (λ x. a ∷ x) (f ∙ ap (λ x. b ∷ x) p.2) in
    sym (ap interface_of_parts all)
