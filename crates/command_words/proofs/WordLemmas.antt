-- Words by their number and their places, and the range of a number that a word says.
use Rattle.std.proofs.Common.{ℕ, ◌≡◌, ◌≤◌, ◌<◌, ◌&&◌, nat_le, Bool, true, false, cond, List, [], ◌∷◌, length, slice_index_or, Option, Some, None, arith, ap, sym, ◌∙◌, refl, subst}
use Rattle.std.proofs.lemmas.Bool.Decides.{nat_tests}
use Rattle.net_types.specs.Numerals.{is_numeral, number_in, value}

pub number_within : (low high number : ℕ) (text : List ℕ) → number_in low high text ≡ Some number → (low ≤ number) × (number ≤ high)
number_within low high number text is = go (is_numeral text) (nat_le low (value text)) refl (nat_le (value text) high) refl is where
  go : (numeral lower : Bool) → nat_le low (value text) ≡ lower → (upper : Bool) → nat_le (value text) high ≡ upper → cond (numeral && lower && upper) (Some (value text)) None ≡ Some number → (low ≤ number) × (number ≤ high)
  go true true a true b e =
      let same : value text ≡ number = (let f : Some (value text) ≡ Some number = e in cc) in
      (subst (λ (n : ℕ). low ≤ n) same (grind (arith, nat_tests)), subst (λ (n : ℕ). n ≤ high) same (grind (arith, nat_tests)))
  go true true a false b e = absurd (let f : None ≡ Some number = e in cc)
  go true false a upper b e = absurd (let f : None ≡ Some number = e in cc)
  go false lower a upper b e = absurd (let f : None ≡ Some number = e in cc)

-- what is chosen where a test is met
pub chosen : {A : Type 0} (test : Bool) (found wanted : Option A) → test ≡ true → found ≡ wanted → found ≡ cond test wanted None
chosen test found wanted met is = is ∙ sym (ap (λ t. cond t wanted None) met)

-- a list of six words, by its places
pub six : (xs : List (List ℕ)) (a b c d e f : List ℕ) → 6 ≤ length xs → length xs < 7 → a ≡ slice_index_or xs 0 a → b ≡ slice_index_or xs 1 b → c ≡ slice_index_or xs 2 c → d ≡ slice_index_or xs 3 d → e ≡ slice_index_or xs 4 e → f ≡ slice_index_or xs 5 f → xs ≡ a ∷ b ∷ c ∷ d ∷ e ∷ f ∷ []
six (x0 ∷ x1 ∷ x2 ∷ x3 ∷ x4 ∷ x5 ∷ []) a b c d e f least most h0 h1 h2 h3 h4 h5 = λ i. sym h0 i ∷ sym h1 i ∷ sym h2 i ∷ sym h3 i ∷ sym h4 i ∷ sym h5 i ∷ []
six (x0 ∷ x1 ∷ x2 ∷ x3 ∷ x4 ∷ x5 ∷ x6 ∷ xs) a b c d e f least most h0 h1 h2 h3 h4 h5 = absurd (omega arith)
six (x0 ∷ x1 ∷ x2 ∷ x3 ∷ x4 ∷ []) a b c d e f least most h0 h1 h2 h3 h4 h5 = absurd (omega arith)
six (x0 ∷ x1 ∷ x2 ∷ x3 ∷ []) a b c d e f least most h0 h1 h2 h3 h4 h5 = absurd (omega arith)
six (x0 ∷ x1 ∷ x2 ∷ []) a b c d e f least most h0 h1 h2 h3 h4 h5 = absurd (omega arith)
six (x0 ∷ x1 ∷ []) a b c d e f least most h0 h1 h2 h3 h4 h5 = absurd (omega arith)
six (x0 ∷ []) a b c d e f least most h0 h1 h2 h3 h4 h5 = absurd (omega arith)
six [] a b c d e f least most h0 h1 h2 h3 h4 h5 = absurd (omega arith)
