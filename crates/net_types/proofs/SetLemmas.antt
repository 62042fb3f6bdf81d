-- Sets of numbers: what is in a union and in a common part, when two sets are one, and the test for a part.
use Rattle.std.proofs.Common.{ℕ, ◌≡◌, ◌≤◌, ◌||◌, ◌&&◌, true, false, bit_or, bit_and, arith, IsTrue, ap, eqb, ◌⊎◌}
use Rattle.std.proofs.lemmas.Bool.Decides.{nat_tests}
use Rattle.std.proofs.lemmas.Nat.{and_le_r}
use Rattle.std.proofs.lemmas.Nat.Bits.{bit_at_and, bit_at_or, bit_at-lt, same_from_bits}
use Rattle.std.specs.Int.{bit_at}
use Rattle.net_types.specs.Sets.{has, IsPart}

-- a bit is 1 or 0
bit_cases : (s x : ℕ) → (bit_at s x ≡ 1) ⊎ (bit_at s x ≡ 0)
bit_cases s x = let h = bit_at-lt s x in grind arith

-- a bit by the test
pub bit_from : (s x : ℕ) → has s x ≡ true → bit_at s x ≡ 1
bit_from s x h = grind (arith, nat_tests)

pub bit_off : (s x : ℕ) → has s x ≡ false → bit_at s x ≡ 0
bit_off s x h = let c = bit_at-lt s x in grind (arith, nat_tests)

pub has_union : (a b x : ℕ) → has (bit_or a b) x ≡ (has a x || has b x)
has_union a b x = let e = bit_at_or a b x in let p = bit_at-lt a x in let q = bit_at-lt b x in grind (arith, nat_tests)

pub has_common : (a b x : ℕ) → has (bit_and a b) x ≡ (has a x && has b x)
has_common a b x = let e = bit_at_and a b x in let p = bit_at-lt a x in let q = bit_at-lt b x in grind (arith, nat_tests)

pub same_sets : (a b : ℕ) → ((x : ℕ) → has a x ≡ has b x) → a ≡ b
same_sets a b h = same_from_bits a b (λ x. let e = h x in let p = bit_at-lt a x in let q = bit_at-lt b x in grind (arith, nat_tests))

pub part_from_common : (a b : ℕ) → bit_and a b ≡ a → IsPart a b
part_from_common a b e = record { members = λ x h. let f = has_common a b x in let g : has (bit_and a b) x ≡ has a x = ap (λ n. has n x) e in grind (arith, nat_tests) }

pub common_from_part : (a b : ℕ) → IsPart a b → bit_and a b ≡ a
common_from_part a b h = same_sets (bit_and a b) a (λ x. let f = has_common a b x in let g = h.members x in grind (arith, nat_tests))

-- a part is no greater a number
pub part_le : (a b : ℕ) → IsPart a b → a ≤ b
part_le a b h = let e = common_from_part a b h in let l = and_le_r a b in grind arith

pub part_test : (a b : ℕ) → (IsTrue (eqb (bit_and a b) a) → IsPart a b) × (IsPart a b → IsTrue (eqb (bit_and a b) a))
part_test a b = ((λ t. part_from_common a b (let t' : IsTrue (eqb (bit_and a b) a) = t in grind (arith, nat_tests))), (λ h. let e = common_from_part a b h in grind (arith, nat_tests)))
