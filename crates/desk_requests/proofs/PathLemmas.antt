-- Paths by their parts, of which there is always one.
use Rattle.std.proofs.Common.{◌≡◌, ℕ, List, [], ◌∷◌, None, ap, sym, refl, ◌∙◌, codes, if◌then◌else◌}
use Rattle.std.specs.Str.{bytes_eq}
use Rattle.net_types.specs.Cut.{parts}
use Rattle.net_types.proofs.CutLemmas.{first_part}
use Rattle.desk_requests.specs.Paths.{behind_id, behind_word, behind_first, in_review}

pub no_path_behind : (id word text : List ℕ) → behind_id id (word ∷ parts 47 text) ≡ None
no_path_behind id word text = let first = first_part 47 text in ap (λ ps. behind_id id (word ∷ ps)) first.2

pub path_behind_word : (word text : List ℕ) → behind_word word (parts 47 text) ≡ (if bytes_eq word (codes "reviews") then in_review (parts 47 text) else None)
path_behind_word word text =
    let first = first_part 47 text in
    ap (behind_word word) first.2 ∙ sym (ap (λ ps. if bytes_eq word (codes "reviews") then in_review ps else None) first.2)

pub no_path_alone : (text : List ℕ) → behind_first text [] ≡ None
no_path_alone [] = refl
no_path_alone (b ∷ text) = refl
