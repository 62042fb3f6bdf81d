-- A text of too many parts is no community.
use Rattle.std.proofs.Common.{ℕ, ◌≡◌, List, ◌∷◌, None, ap, ◌∙◌, sym}
use Rattle.net_types.specs.Cut.{parts}
use Rattle.net_types.proofs.CutLemmas.{first_part}
use Rattle.net_types.specs.Communities.{community_of_parts}

pub three_parts : (text a r b s : List ℕ) → parts 58 text ≡ a ∷ parts 58 r → parts 58 r ≡ b ∷ parts 58 s → None ≡ community_of_parts (parts 58 text)
three_parts text a r b s e f =
    let p = first_part 58 s in
    let all : parts 58 text ≡ a ∷ b ∷ p.0 ∷ p.1 = e ∙ ap (λ x. a ∷ x) (f ∙ ap (λ x. b ∷ x) p.2) in
    sym (ap community_of_parts all)
