-- A search for the first repeated row, one row further.
use Rattle.std.proofs.Common.{ℕ, ◌≡◌, ◌<◌, ◌+◌, Bool, true, false, List, [], ◌∷◌, ◌++◌, length, take, drop, get_or, Some, refl, add-one}
use Rattle.std.proofs.Math.Seq.{drop-cons}
use Rattle.std.proofs.lemmas.List.{take_more}
use Rattle.std.specs.List.{list_any}
use Rattle.toml_fields.specs.Tables.{first_repeat}

pub first_repeat-here : {A : Type 0} (same : A → A → Bool) (xs : List A) (i n : ℕ) (row : A) → i < length xs → row ≡ get_or xs i row → list_any (λ earlier. same earlier row) (take i xs) ≡ true → first_repeat same n (take i xs) (drop i xs) ≡ Some n
first_repeat-here same xs i n row h is any =
    let e : drop i xs ≡ row ∷ drop (i + 1) xs = rw add-one (rw (← is) at (drop-cons xs i row h)) in
    rw (e, any) refl

pub first_repeat-further : {A : Type 0} (same : A → A → Bool) (xs : List A) (i n : ℕ) (row : A) → i < length xs → row ≡ get_or xs i row → list_any (λ earlier. same earlier row) (take i xs) ≡ false → first_repeat same n (take i xs) (drop i xs) ≡ first_repeat same (n + 1) (take (i + 1) xs) (drop (i + 1) xs)
first_repeat-further same xs i n row h is any =
    let e : drop i xs ≡ row ∷ drop (i + 1) xs = rw add-one (rw (← is) at (drop-cons xs i row h)) in
    let t : take (i + 1) xs ≡ take i xs ++ row ∷ [] = rw (← is) at (take_more xs i row h) in
    rw (e, any, t) refl
