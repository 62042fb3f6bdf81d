-- Words as sets of numbers below 64.
use Rattle.std.proofs.Common.{ℕ, ◌≡◌, ◌<◌, ◌-◌, ◌^◌, ◌==◌, ◌&&◌, ◌||◌, inl, inr, Bool, true, not, bit_and, arith, ap, ◌∙◌, refl, sym, subst}
use Rattle.std.specs.Int.{bit_at, bit_not, w64}
use Rattle.std.proofs.lemmas.Bool.{cases_eq}
use Rattle.std.proofs.lemmas.Bool.Decides.{nat_tests}
use Rattle.std.proofs.lemmas.Nat.{pow_below}
use Rattle.std.proofs.lemmas.Nat.Bits.{bit_at_not, bit_at-lt, bit_at-zero, bit_at_ones, bit_at-pow_same, bit_at-pow_other, same_from_bits_below}
use Rattle.net_types.specs.Laws.{WordsAreSets, WordsChangeByOne, WordsHaveEnds, SameMembersAreOneSet}
use Rattle.net_types.specs.Sets.{has}
use Rattle.net_types.proofs.SetLemmas.{has_union, has_common}

-- what is not in a word is in the others' word
pub has_others : (c x : ℕ) → c < 2 ^ 64 → x < 64 → has (bit_not w64 c) x ≡ not (has c x)
has_others c x small low = let e = bit_at_not w64 c x small low in let l = bit_at-lt c x in go (bit_at (bit_not w64 c) x) (bit_at c x) e l where
  go : (n b : ℕ) → n ≡ 1 - b → b < 2 → (n == 1) ≡ not (b == 1)
  go n b e l = grind (arith, nat_tests)

has_minus : (a b x : ℕ) → b < 2 ^ 64 → x < 64 → has (bit_and a (bit_not w64 b)) x ≡ (has a x && not (has b x))
has_minus a b x small low = has_common a (bit_not w64 b) x ∙ ap (λ (t : Bool). has a x && t) (has_others b x small low)

-- a power of two has one number
has_one : (number x : ℕ) → has (2 ^ number) x ≡ (x == number)
has_one number x = elim (cases_eq x number) [
  | inl e ↦ (let same = bit_at-pow_same number in let b : bit_at (2 ^ number) x ≡ 1 = subst (λ (k : ℕ). bit_at (2 ^ number) k ≡ 1) (sym e) same in go (bit_at (2 ^ number) x) 1 b (λ _. refl) (λ _. e))
  | inr differ ↦ (let b = bit_at-pow_other number x differ in go (bit_at (2 ^ number) x) 0 b (λ e. absurd (differ e)) (λ e. absurd (let d : ⊥ = cc in d)))
] where
  go : (n b : ℕ) → n ≡ b → (x ≡ number → b ≡ 1) → (b ≡ 1 → x ≡ number) → (n == 1) ≡ (x == number)
  go n b e f g = grind (arith, nat_tests)

pub words_are_sets : WordsAreSets
words_are_sets a b x small low = record {
  union = has_union a b x;
  common = has_common a b x;
  minus = has_minus a b x small low;
}

pub words_change_by_one : WordsChangeByOne
words_change_by_one a number x small low = record {
  «with» = has_union a (2 ^ number) x ∙ ap (λ (t : Bool). has a x || t) (has_one number x);
  without = has_minus a (2 ^ number) x (pow_below number 64 small) low ∙ ap (λ (t : Bool). has a x && not t) (has_one number x);
}

pub words_have_ends : WordsHaveEnds
words_have_ends x low = ((let e = bit_at-zero x in grind (arith, nat_tests)), (let e = bit_at_ones 64 x low in go (bit_at (2 ^ 64 - 1) x) e)) where
  go : (n : ℕ) → n ≡ 1 → (n == 1) ≡ true
  go n e = grind (arith, nat_tests)

pub same_members_are_one_set : SameMembersAreOneSet
same_members_are_one_set a b small other same =
    same_from_bits_below 64 a b small other (λ x low. let e = same x low in let p = bit_at-lt a x in let q = bit_at-lt b x in go (bit_at a x) (bit_at b x) e p q) where
      go : (m n : ℕ) → (m == 1) ≡ (n == 1) → m < 2 → n < 2 → m ≡ n
      go m n e p q = grind (arith, nat_tests)
