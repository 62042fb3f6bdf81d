-- Prefixes as sets of addresses, and their order.
use Rattle.std.proofs.Common.{ℕ, ◌≡◌, ◌<◌, ◌≤◌, ◌+◌, ◌*◌, ◌/◌, ◌%◌, ◌^◌, ◌-◌, inl, inr, true, arith, ap, sym, subst, refl, ◌∙◌}
use Rattle.std.proofs.lemmas.Bool.{and_parts, and_from, or_cases, or_left, or_right, leb-true, le-leb, eqb-true, eq-eqb, cases_lt}
use Rattle.std.proofs.lemmas.Bool.Decides.{nat_tests}
use Rattle.std.proofs.lemmas.Nat.{shl-shr, shr-shr, shr_split, div-mul-add, mod_below, div-add-mod', pow_pos, pow_below, pow-add, shr_below, row_fits}
use Rattle.std.proofs.Math.Nat.{div-mul-le_self}
use Rattle.net_types.specs.PrefixValue.{PrefixValue, IsPrefix}
use Rattle.net_types.specs.Prefixes.{covers}
use Rattle.net_types.specs.Laws.{IsIn, AddressesLieInTheirSubnets, CoversEachAddress, OverlapsAtAnAddress, SamePrefixIsOne, PrefixesAreApart, OnePrefixIsFirst, EarlierIsEarlier, CoveringComesFirst}
use Rattle.net_types.proofs.MaskLemmas.{masked_is_prefix}

-- where more first bits are the same, fewer are
wider : (a b j k n : ℕ) → j + k ≡ n → a / 2 ^ j ≡ b / 2 ^ j → a / 2 ^ n ≡ b / 2 ^ n
wider a b j k n e h = subst (λ (m : ℕ). a / 2 ^ m ≡ b / 2 ^ m) e (sym (shr-shr a j k) ∙ ap (λ (x : ℕ). x / 2 ^ k) h ∙ shr-shr b j k)

-- the bits of a prefix are those of its quotient
whole : (b k : ℕ) → b % 2 ^ k ≡ 0 → b / 2 ^ k * 2 ^ k ≡ b
whole b k e = let h = shr_split b k in omega arith

-- one span further is another quotient
next_span : (b s : ℕ) → 0 < s → (b + s) / s ≡ b / s + 1
next_span b s pos =
    let split = div-add-mod' b s in
    let e : b + s ≡ (b / s + 1) * s + b % s = omega arith in
    ap (λ (x : ℕ). x / s) e ∙ div-mul-add (b / s + 1) s (b % s) (mod_below b s pos)

pub addresses_lie_in_their_subnets : AddressesLieInTheirSubnets
addresses_lie_in_their_subnets address len small few = (
  masked_is_prefix address (2 ^ (32 - len)) len small few refl,
  record { word = small; first = sym (shl-shr (address / 2 ^ (32 - len)) (32 - len)) },
)

-- what the test for covering says
covers_len : (p q : PrefixValue) → covers p q ≡ true → p.len ≤ q.len
covers_len p q h = leb-true p.len q.len (and_parts _ _ h).0

covers_bits : (p q : PrefixValue) → covers p q ≡ true → q.bits / 2 ^ (32 - p.len) * 2 ^ (32 - p.len) ≡ p.bits
covers_bits p q h = eqb-true _ _ (and_parts _ _ h).1

covers_from : (p q : PrefixValue) → p.len ≤ q.len → q.bits / 2 ^ (32 - p.len) * 2 ^ (32 - p.len) ≡ p.bits → covers p q ≡ true
covers_from p q l e = and_from _ _ (le-leb p.len q.len l) (eq-eqb _ _ e)

covered : (p q : PrefixValue) → IsPrefix q → covers p q ≡ true → (a : ℕ) → IsIn a q → IsIn a p
covered p q valid h a inside =
    let l = covers_len p q h in
    let few = valid.len in
    let same = wider a q.bits (32 - q.len) (q.len - p.len) (32 - p.len) (omega arith) inside.first in
    let own : q.bits / 2 ^ (32 - p.len) ≡ p.bits / 2 ^ (32 - p.len) = sym (shl-shr (q.bits / 2 ^ (32 - p.len)) (32 - p.len)) ∙ ap (λ (x : ℕ). x / 2 ^ (32 - p.len)) (covers_bits p q h) in
    record { word = inside.word; first = same ∙ own }

-- the address one span of the other prefix further, while the prefix is the shorter one
further : (q : PrefixValue) (k : ℕ) → IsPrefix q → k < 32 - q.len → IsIn (q.bits + 2 ^ k) q
further q k valid low =
    let few = valid.len in
    let whole_length : q.len + (32 - q.len) ≡ 32 = omega arith in
    let e = whole q.bits (32 - q.len) valid.cleared in
    let wide : 2 ^ q.len * 2 ^ (32 - q.len) ≡ 2 ^ 32 = sym (pow-add 2 q.len (32 - q.len)) ∙ ap (λ (x : ℕ). 2 ^ x) whole_length in
    let small : q.bits < 2 ^ (q.len + (32 - q.len)) = subst (λ (x : ℕ). q.bits < 2 ^ x) (sym whole_length) valid.bits in
    let below = shr_below q.bits q.len (32 - q.len) small in
    let fits = row_fits (q.bits / 2 ^ (32 - q.len)) (2 ^ (32 - q.len)) (2 ^ q.len) (2 ^ (32 - q.len)) below (omega arith) in
    let less = pow_below k (32 - q.len) low in
    record {
      word = omega arith;
      first = ap (λ (x : ℕ). (x + 2 ^ k) / 2 ^ (32 - q.len)) (sym e) ∙ div-mul-add (q.bits / 2 ^ (32 - q.len)) (2 ^ (32 - q.len)) (2 ^ k) less;
    }

first_address : (q : PrefixValue) → IsPrefix q → IsIn q.bits q
first_address q valid = record { word = valid.bits; first = refl }

-- a test by an address that both have
meets : (p q : PrefixValue) → IsPrefix p → IsPrefix q → p.len ≤ q.len → (a : ℕ) → IsIn a p → IsIn a q → covers p q ≡ true
meets p q valid other l a in_p in_q =
    let few = other.len in
    let same = wider a q.bits (32 - q.len) (q.len - p.len) (32 - p.len) (omega arith) in_q.first in
    covers_from p q l (ap (λ (x : ℕ). x * 2 ^ (32 - p.len)) (sym same ∙ in_p.first) ∙ whole p.bits (32 - p.len) valid.cleared)

covering : (p q : PrefixValue) → IsPrefix p → IsPrefix q → ((a : ℕ) → IsIn a q → IsIn a p) → covers p q ≡ true
covering p q valid other each = elim (cases_lt q.len p.len) [
  | inl less ↦ (
      let few = valid.len in
      let near = (each q.bits (first_address q other)).first in
      let far = (each (q.bits + 2 ^ (32 - p.len)) (further q (32 - p.len) other (omega arith))).first in
      let next = next_span q.bits (2 ^ (32 - p.len)) (pow_pos (32 - p.len)) in
      absurd (let c : ⊥ = omega arith in c))
  | inr l ↦ meets p q valid other l q.bits (each q.bits (first_address q other)) (first_address q other)
]

pub covers_each_address : CoversEachAddress
covers_each_address p q valid other = (λ h a inside. covered p q other h a inside, covering p q valid other)

pub overlaps_at_an_address : OverlapsAtAnAddress
overlaps_at_an_address p q valid other = (
  λ h. elim (or_cases (covers p q) (covers q p) h) [
    | inl c ↦ (q.bits, covered p q other c q.bits (first_address q other), first_address q other)
    | inr c ↦ (p.bits, first_address p valid, covered q p valid c p.bits (first_address p valid))
  ],
  λ (a, in_p, in_q). elim (cases_lt q.len p.len) [
    | inl less ↦ or_right (covers p q) (covers q p) (meets q p other valid (omega arith) a in_q in_p)
    | inr l ↦ or_left (covers p q) (covers q p) (meets p q valid other l a in_p in_q)
  ],
)

pub same_prefix_is_one : SamePrefixIsOne
same_prefix_is_one p q = (λ h. grind (arith, nat_tests), λ e. grind (arith, nat_tests))

pub prefixes_are_apart : PrefixesAreApart
prefixes_are_apart p q differ = grind (arith, nat_tests)

pub one_prefix_is_first : OnePrefixIsFirst
one_prefix_is_first p q h = grind (arith, nat_tests)

pub earlier_is_earlier : EarlierIsEarlier
earlier_is_earlier p q r h k = grind (arith, nat_tests)

pub covering_comes_first : CoveringComesFirst
covering_comes_first p q h differ =
    let l = covers_len p q h in
    let e = covers_bits p q h in
    let below = div-mul-le_self q.bits (2 ^ (32 - p.len)) in
    grind (arith, nat_tests)
