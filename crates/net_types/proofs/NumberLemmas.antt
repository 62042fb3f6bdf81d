-- Decimal numbers: what is written is read back, and what is read was written so.
use Rattle.std.proofs.Common.{ℕ, suc, ◌≡◌, ◌<◌, ◌≤◌, ◌+◌, ◌*◌, ◌-◌, ◌==◌, ◌&&◌, ◌⊎◌, inl, inr, Bool, true, false, List, [], ◌∷◌, length, get_or, Some, None, fold, nat_le, arith, rules, ap, ◌∙◌, refl, sym, if◌then◌else◌, ◌^◌, not}
use Rattle.std.specs.Fmt.{decimal}
use Rattle.std.specs.List.{list_all}
use Rattle.std.proofs.lemmas.Bool.{eq-eqb, and_parts, and_from, le-leb, leb-true, ne_eqb, cases_eq, not-true}
use Rattle.std.proofs.lemmas.Fmt.{digits_decimal, digits_value-decimal, decimal_nonempty, first_decimal, decimal_digit, decimal-digits_value}
use Rattle.std.proofs.lemmas.Option.{cond_some}
use Rattle.std.proofs.lemmas.Str.Parse.{IsNumeralModel, numerals_by_fold}
use Rattle.net_types.specs.Numerals.{is_digit, is_numeral, value}
use Rattle.net_types.specs.Laws.{NumbersReadBack, NumbersHaveOneText}

-- the digits of std's texts are ours
pub own : IsNumeralModel (λ ds. list_all is_digit ds ≡ true) value
own = numerals_by_fold _ (search rules) (λ (n : ℕ) (ds : List ℕ). fold (λ (v d : ℕ). v * 10 + (d - 48)) n ds) (search rules)

-- a numeral: digits, at least one, and no zero before another
numeral_from : (ds : List ℕ) → list_all is_digit ds ≡ true → 0 < length ds → (get_or ds 0 0 ≡ 48 → length ds ≡ 1) → is_numeral ds ≡ true
numeral_from [] h some first = absurd (omega arith)
numeral_from (d ∷ []) h some first = (and_parts (is_digit d) true h).0
numeral_from (d ∷ e ∷ more) h some first = and_from (not (d == 48)) (list_all is_digit (d ∷ e ∷ more)) (no_zero (cases_eq d 48)) h where
  no_zero : (d ≡ 48) ⊎ (d ≡ 48 → ⊥) → not (d == 48) ≡ true
  no_zero (inl same) = absurd (let l = first same in let m : suc (suc (length more)) ≡ 1 = l in omega arith)
  no_zero (inr differ) = let t = ne_eqb d 48 differ in rw t refl

numeral_is : (ds : List ℕ) → is_numeral ds ≡ true → (list_all is_digit ds ≡ true) × (0 < length ds) × (get_or ds 0 0 ≡ 48 → length ds ≡ 1)
numeral_is [] h = absurd (let d : ⊥ = cc in d)
numeral_is (d ∷ []) h = (and_from (is_digit d) true h refl, omega arith, λ _. refl)
numeral_is (d ∷ e ∷ more) h =
    let p = and_parts (not (d == 48)) (list_all is_digit (d ∷ e ∷ more)) h in
    (p.1, omega arith, λ same. absurd (let t = eq-eqb d 48 same in let u = not-true (d == 48) p.0 in let d : true ≡ false = sym t ∙ u in let f : ⊥ = cc in f))

first_digit : (n : ℕ) → n < 2 ^ 64 → get_or (decimal n) 0 0 ≡ 48 → length (decimal n) ≡ 1
first_digit n small e = elim (cases_eq n 0) [
  | inl none ↦ (let d = decimal_digit n (omega arith) in ap (length {A = ℕ}) d)
  | inr some ↦ absurd (let f = first_decimal n (omega arith) small in omega arith)
]

pub decimal_is_numeral : (n : ℕ) → n < 2 ^ 64 → is_numeral (decimal n) ≡ true
decimal_is_numeral n small = numeral_from (decimal n) (digits_decimal own n small) (decimal_nonempty n small) (first_digit n small)

in_range : (t : Bool) (v low high n : ℕ) → t ≡ true → v ≡ n → low ≤ n → n ≤ high → (if t && nat_le low v && nat_le v high then Some v else None) ≡ Some n
in_range t v low high n e f l h = let a = le-leb low n l in let b = le-leb n high h in rw (e, f, a, b) refl

pub numbers_read_back : NumbersReadBack
numbers_read_back low high n small l h = in_range (is_numeral (decimal n)) (value (decimal n)) low high n (decimal_is_numeral n (omega arith)) (digits_value-decimal own n (omega arith)) l h

pub numbers_have_one_text : NumbersHaveOneText
numbers_have_one_text low high n text small is =
    let p = cond_some (is_numeral text && nat_le low (value text) && nat_le (value text) high) (value text) n is in
    let r = and_parts (is_numeral text && nat_le low (value text)) (nat_le (value text) high) p.0 in
    let t = and_parts (is_numeral text) (nat_le low (value text)) r.0 in
    let least = leb-true low (value text) t.1 in
    let most = leb-true (value text) high r.1 in
    let same : value text ≡ n = p.1 in
    let d = numeral_is text t.0 in (
      sym (decimal-digits_value own text d.0 d.1 d.2 (omega arith)) ∙ ap decimal same,
      omega arith,
      omega arith,
    )
