-- Pieces that are given one after another.
use Rattle.std.proofs.Common.{◌≡◌, ℕ, ◌+◌, ◌-◌, List, ◌++◌, take, drop, length, append_assoc, length-drop, Option, Some, ap, ◌∙◌, arith}
use Rattle.std.proofs.Math.Seq.{take-add}
use Rattle.std.proofs.lemmas.List.{take_all}

-- the first n and then the next k are the first n + k
pub take_more : (b xs : List ℕ) (n k : ℕ) → (b ++ take n xs) ++ take k (drop n xs) ≡ b ++ take (n + k) xs
take_more b xs n k = rw (take-add n k xs) (append_assoc b (take n xs) (take k (drop n xs)))

-- the rest as a range that ends at the length
pub rest_range : (xs : List ℕ) (n : ℕ) → take (length xs - n) (drop n xs) ≡ drop n xs
rest_range xs n = take_all (length xs - n) (drop n xs) (omega (arith, length-drop n xs))

-- what is told after a call that took the next k bytes of the rest
pub told_more : (now : Option (List ℕ)) (b xs : List ℕ) (n k : ℕ) → now ≡ Some ((b ++ take n xs) ++ take k (take (length xs - n) (drop n xs))) → now ≡ Some (b ++ take (n + k) xs)
told_more now b xs n k e =
    let whole = rest_range xs n in
    e ∙ ap (λ rest. Some ((b ++ take n xs) ++ take k rest)) whole ∙ ap Some (take_more b xs n k)
