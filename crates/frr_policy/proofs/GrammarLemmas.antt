-- The values in front of some words, one after another.
use Rattle.std.proofs.Common.{ℕ, ◌≡◌, ◌++◌, List, [], ◌∷◌, Option, Some, None, option_map, append_assoc, append-nil, ap, sym, ◌∙◌, refl}
use Rattle.frr_policy.specs.Grammar.{first, leading, value_before}

-- the values that are taken, before those that are left, and the words behind them all
abbrev pub values_before : List ℕ → List ℕ × List (List ℕ) → List ℕ × List (List ℕ)
values_before done behind = (done ++ behind.0, behind.1)

some_same : {A : Type 0} (x y : A) → Some x ≡ Some y → x ≡ y
some_same x y e = cc

value_taken : (value : List ℕ → Option ℕ) (words more : List (List ℕ)) (o : Option ℕ) (p : ℕ × List (List ℕ)) → option_map {U = ℕ × List (List ℕ)} (λ a. (a, more)) o ≡ Some p → value_before words o (leading value more) ≡ (p.0 ∷ (leading value p.1).0, (leading value p.1).1)
value_taken value words more None p e = cc
value_taken value words more (Some a) p e =
    let x : ℕ × List (List ℕ) = (a, more) in
    ap (λ (q : ℕ × List (List ℕ)). (q.0 ∷ (leading value q.1).0, (leading value q.1).1)) (some_same x p e)

leading_taken : (value : List ℕ → Option ℕ) (words : List (List ℕ)) (p : ℕ × List (List ℕ)) → first value words ≡ Some p → leading value words ≡ (p.0 ∷ (leading value p.1).0, (leading value p.1).1)
leading_taken value [] p e = cc
leading_taken value (word ∷ more) p e = value_taken value (word ∷ more) more (value word) p e

no_value : (words more : List (List ℕ)) (o : Option ℕ) (behind : List ℕ × List (List ℕ)) → option_map {U = ℕ × List (List ℕ)} (λ a. (a, more)) o ≡ None → value_before words o behind ≡ ([], words)
no_value words more None behind e = refl
no_value words more (Some a) behind e = cc

leading_none : (value : List ℕ → Option ℕ) (words : List (List ℕ)) → first value words ≡ None → leading value words ≡ ([], words)
leading_none value [] e = refl
leading_none value (word ∷ more) e = no_value (word ∷ more) more (value word) (leading value more) e

-- one more value is taken
pub leading_step : (value : List ℕ → Option ℕ) (done now : List ℕ) (words left all : List (List ℕ)) (v : ℕ) → first value words ≡ Some (v, left) → now ≡ done ++ v ∷ [] → values_before done (leading value words) ≡ leading value all → values_before now (leading value left) ≡ leading value all
leading_step value done now words left all v e n i =
    let f = leading_taken value words (v, left) e in
    let g : values_before (done ++ v ∷ []) (leading value left) ≡ values_before done (v ∷ (leading value left).0, (leading value left).1) = ap (λ xs. (xs, (leading value left).1)) (append_assoc done (v ∷ []) (leading value left).0) in
    ap (λ xs. values_before xs (leading value left)) n ∙ g ∙ sym (ap (values_before done) f) ∙ i

-- no more value is there
pub leading_end : (value : List ℕ → Option ℕ) (done result : List ℕ) (words left all : List (List ℕ)) → first value words ≡ None → left ≡ words → result ≡ done → values_before done (leading value words) ≡ leading value all → leading value all ≡ (result, left)
leading_end value done result words left all e w r i =
    let f = leading_none value words e in
    let g : values_before done (leading value words) ≡ (done, words) = ap (values_before done) f ∙ ap (λ xs. (xs, words)) (append-nil done) in
    sym i ∙ g ∙ cc
