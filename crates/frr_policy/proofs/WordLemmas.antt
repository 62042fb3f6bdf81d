-- Where a line is cut at a blank.
use Rattle.std.proofs.Common.{ℕ, ◌≡◌, ◌<◌, ◌≤◌, ◌+◌, ◌-◌, Bool, true, false, List, [], ◌∷◌, length, take, drop, arith, ap, refl, ◌∙◌}
use Rattle.std.specs.List.{position_or_len, onto_first, slice_split}
use Rattle.std.proofs.lemmas.List.{take_rest}
use Rattle.std.proofs.lemmas.List.Splits.{slice_split_first, slice_split-cons_no}
use Rattle.frr_policy.specs.Words.{is_blank}

pub cut_at_blank : (n : ℕ) (xs : List ℕ) → n ≡ position_or_len is_blank xs → n < length xs → slice_split is_blank xs ≡ take n xs ∷ slice_split is_blank (take (length xs - (n + 1)) (drop (n + 1) xs))
cut_at_blank n xs e h = rw (take_rest xs (n + 1), e) (slice_split_first is_blank xs 0 (let h' : n < length xs = h in rw e at h'))

pub no_blank : (n : ℕ) (xs : List ℕ) → n ≡ position_or_len is_blank xs → length xs ≤ n → slice_split is_blank xs ≡ xs ∷ []
no_blank n [] e h = refl
no_blank n (x ∷ xs) e h = go (λ g. no_blank (position_or_len is_blank xs) xs refl g) (is_blank x) refl where
  go : (length xs ≤ position_or_len is_blank xs → slice_split is_blank xs ≡ xs ∷ []) → (b : Bool) → is_blank x ≡ b → slice_split is_blank (x ∷ xs) ≡ (x ∷ xs) ∷ []
  go i true t = grind arith
  go i false t = slice_split-cons_no is_blank x xs t ∙ ap (onto_first x) (i (grind arith))
