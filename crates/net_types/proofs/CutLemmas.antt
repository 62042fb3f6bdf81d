-- Where a text is cut: what stands before the first such byte, and behind it.
use Rattle.std.proofs.Common.{ℕ, ◌≡◌, ◌<◌, ◌≤◌, ◌+◌, ◌-◌, ◌==◌, Bool, true, false, List, [], ◌∷◌, length, take, drop, arith, ap, refl, ◌∙◌}
use Rattle.std.specs.List.{position_or_len, onto_first}
use Rattle.std.proofs.lemmas.List.{take_rest}
use Rattle.std.proofs.lemmas.List.Splits.{slice_split_first, slice_split-cons_no, slice_split-cons_yes}
use Rattle.net_types.specs.Cut.{parts}

pub cut_at : (c n : ℕ) (xs : List ℕ) → n ≡ position_or_len (λ b. b == c) xs → n < length xs → parts c xs ≡ take n xs ∷ parts c (take (length xs - (n + 1)) (drop (n + 1) xs))
cut_at c n xs e h = rw (take_rest xs (n + 1), e) (slice_split_first (λ b. b == c) xs 0 (let h' : n < length xs = h in rw e at h'))

pub cut_none : (c n : ℕ) (xs : List ℕ) → n ≡ position_or_len (λ b. b == c) xs → length xs ≤ n → parts c xs ≡ xs ∷ []
cut_none c n [] e h = refl
cut_none c n (x ∷ xs) e h = go (λ g. cut_none c (position_or_len (λ b. b == c) xs) xs refl g) (x == c) refl where
  go : (length xs ≤ position_or_len (λ b. b == c) xs → parts c xs ≡ xs ∷ []) → (b : Bool) → (x == c) ≡ b → parts c (x ∷ xs) ≡ (x ∷ xs) ∷ []
  go i true t = grind arith
  go i false t = slice_split-cons_no (λ b. b == c) x xs t ∙ ap (onto_first x) (i (grind arith))

-- there is always a first part
pub first_part : (c : ℕ) (xs : List ℕ) → (first : List ℕ) × (more : List (List ℕ)) × (parts c xs ≡ first ∷ more)
first_part c [] = ([], [], refl)
first_part c (x ∷ xs) = go (first_part c xs) (x == c) refl where
  go : ((first : List ℕ) × (more : List (List ℕ)) × (parts c xs ≡ first ∷ more)) → (b : Bool) → (x == c) ≡ b → (first : List ℕ) × (more : List (List ℕ)) × (parts c (x ∷ xs) ≡ first ∷ more)
  go i true t = ([], parts c xs, slice_split-cons_yes (λ b. b == c) x xs t)
  go i false t = (x ∷ i.0, i.1, slice_split-cons_no (λ b. b == c) x xs t ∙ ap (onto_first x) i.2)
