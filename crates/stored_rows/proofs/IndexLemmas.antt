-- The rows of a table from the last to the first.
use Rattle.std.proofs.Common.{◌≡◌, ℕ, zero, suc, ◌+◌, ◌-◌, ◌<◌, List, [], ◌∷◌, length, get_or, drop, refl, ap, ◌∙◌, arith}

drop_row : {X : Type 0} (xs : List X) (k : ℕ) (x : X) → k < length xs → drop k xs ≡ get_or xs k x ∷ drop (suc k) xs
drop_row [] k x low = absurd (omega arith)
drop_row (y ∷ ys) zero x low = refl
drop_row (y ∷ ys) (suc k) x low = drop_row ys k x (omega arith)

pub drop_back : {X : Type 0} (xs : List X) (i : ℕ) (x : X) → i < length xs → get_or xs (length xs - 1 - i) x ≡ x → drop (length xs - (i + 1)) xs ≡ x ∷ drop (length xs - i) xs
drop_back xs i x low is =
    let from : length xs - (i + 1) ≡ length xs - 1 - i = omega arith in
    let next : suc (length xs - 1 - i) ≡ length xs - i = omega arith in
    ap (λ k. drop k xs) from ∙ drop_row xs (length xs - 1 - i) x (omega arith) ∙ ap (λ y. y ∷ drop (suc (length xs - 1 - i)) xs) is ∙ ap (λ k. x ∷ drop k xs) next
