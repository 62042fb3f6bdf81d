-- Heads that are distinct and at most as many as they are come each once.
use Rattle.std.proofs.Common.{◌≡◌, ℕ, zero, suc, ◌+◌, ◌<◌, ◌≤◌, Bool, true, false, List, [], ◌∷◌, count_by, ◌&&◌, ◌==◌, if◌then◌else◌, inl, inr, refl, subst, arith}
use Rattle.std.specs.List.{All}
use Rattle.std.proofs.lemmas.Bool.Decides.{nat_tests}
use Rattle.std.proofs.lemmas.Bool.{cases_lt}
use Rattle.std.proofs.lemmas.List.Elements.{All-head, All-tail}
use Rattle.std.proofs.lemmas.List.Sums.{sum_by-cons}
use Rattle.desk_tables.specs.Tables.{is_merged, has_head}
use Rattle.desk_tables.specs.Valid.{IsUpTo}
use Rattle.desk_tables.specs.declared.rows.ReviewRow.{ReviewRow}

-- one or none
abbrev one_if : Bool → ℕ
one_if b = if b then 1 else 0

-- how many reviews have one of the first heads
total : ℕ → List ReviewRow → ℕ
total zero xs = 0
total (suc n) xs = total n xs + count_by (has_head (suc n)) xs

-- how many of the first heads a review has
single : ℕ → ReviewRow → ℕ
single zero x = 0
single (suc n) x = single n x + one_if (has_head (suc n) x)

total_nil : (n : ℕ) → total n [] ≡ 0
unfolding total
total_nil zero = refl
total_nil (suc n) = omega (arith, total_nil n)

total_cons : (n : ℕ) (x : ReviewRow) (xs : List ReviewRow) → total n (x ∷ xs) ≡ single n x + total n xs
unfolding total single
total_cons zero x xs = refl
total_cons (suc n) x xs =
    let rest = total_cons n x xs in
    let first : count_by (has_head (suc n)) (x ∷ xs) ≡ one_if (has_head (suc n) x) + count_by (has_head (suc n)) xs = sum_by-cons (λ y. one_if (has_head (suc n) y)) x xs in
    omega (arith, rest, first)

-- an open review has none of them, and a merged one has one
-- a review of another head does not have this one
other_head : (head : ℕ) (x : ReviewRow) → (x.head ≡ head → ⊥) → has_head head x ≡ false
other_head head x apart = by_case (is_merged x)
  where
    by_case : (b : Bool) → (b && x.head == head) ≡ false
    by_case true = grind (arith, nat_tests)
    by_case false = refl

single_open : (n : ℕ) (x : ReviewRow) → is_merged x ≡ false → single n x ≡ 0
unfolding single
single_open zero x is = refl
single_open (suc n) x is =
    let rest = single_open n x is in
    let no' : has_head (suc n) x ≡ false = rw is refl in
    rw no' (omega (arith, rest))

single_high : (n : ℕ) (x : ReviewRow) → n < x.head → single n x ≡ 0
unfolding single
single_high zero x high = refl
single_high (suc n) x high =
    let rest = single_high n x (omega arith) in
    let no' : has_head (suc n) x ≡ false = other_head (suc n) x (omega arith) in
    rw no' (omega (arith, rest))

single_merged : (n : ℕ) (x : ReviewRow) → is_merged x ≡ true → 1 ≤ x.head → x.head ≤ n → single n x ≡ 1
unfolding single
single_merged zero x is low high = absurd (omega arith)
single_merged (suc n) x is low high = by_case (x.head == suc n) refl (single_merged n x is low)
  where
    by_case : (b : Bool) → (x.head == suc n) ≡ b → (x.head ≤ n → single n x ≡ 1) → single n x + one_if (has_head (suc n) x) ≡ 1
    by_case true same rest =
        let here : x.head ≡ suc n = grind (arith, nat_tests) in
        let has : has_head (suc n) x ≡ true = rw (is, same) refl in
        let before' = single_high n x (omega arith) in
        rw has (omega (arith, before'))
    by_case false same rest =
        let lower : x.head ≤ n = grind (arith, nat_tests) in
        let has : has_head (suc n) x ≡ false = rw (is, same) refl in
        let before' = rest lower in
        rw has (omega (arith, before'))

-- all merged reviews have one of the first heads
total_merged : (n : ℕ) (xs : List ReviewRow) → All (λ r. r.state ≡ 1 → IsUpTo n r.head) xs → total n xs ≡ count_by is_merged xs
total_merged n [] all = total_nil n
total_merged n (x ∷ xs) all =
    let here = All-head (λ (r : ReviewRow). r.state ≡ 1 → IsUpTo n r.head) x xs all in
    let rest = total_merged n xs (All-tail (λ (r : ReviewRow). r.state ≡ 1 → IsUpTo n r.head) x xs all) in
    let first : count_by is_merged (x ∷ xs) ≡ one_if (is_merged x) + count_by is_merged xs = sum_by-cons (λ y. one_if (is_merged y)) x xs in
    by_case (is_merged x) refl here (total_cons n x xs) rest first
  where
    by_case : (b : Bool) → is_merged x ≡ b → (x.state ≡ 1 → IsUpTo n x.head) → total n (x ∷ xs) ≡ single n x + total n xs → total n xs ≡ count_by is_merged xs → count_by is_merged (x ∷ xs) ≡ one_if b + count_by is_merged xs → total n (x ∷ xs) ≡ count_by is_merged (x ∷ xs)
    by_case true is here cons rest first =
        let one : x.state ≡ 1 = grind (arith, nat_tests) in
        let single' = single_merged n x is (here one).0 (here one).1 in
        omega (arith, single', cons, rest, first)
    by_case false is here cons rest first = omega (arith, single_open n x is, cons, rest, first)

-- numbers of at most one that come to as many as they are, are each one
total_low : (n : ℕ) (xs : List ReviewRow) → ((head : ℕ) → count_by (has_head head) xs ≤ 1) → total n xs ≤ n
unfolding total
total_low zero xs once = omega arith
total_low (suc n) xs once = omega (arith, total_low n xs once, once (suc n))

total_each : (n : ℕ) (xs : List ReviewRow) → ((head : ℕ) → count_by (has_head head) xs ≤ 1) → total n xs ≡ n → (head : ℕ) → 1 ≤ head → head ≤ n → count_by (has_head head) xs ≡ 1
unfolding total
total_each zero xs once all head low high = absurd (omega arith)
total_each (suc n) xs once all head low high =
    let most = total_low n xs once in
    let last = once (suc n) in
    let here : count_by (has_head (suc n)) xs ≡ 1 = omega (arith, all, most, last) in
    let rest : total n xs ≡ n = omega (arith, all, most, last) in
    elim (cases_lt head (suc n)) [
      | inl lower ↦ total_each n xs once rest head low (omega arith)
      | inr same ↦ subst (λ h. count_by (has_head h) xs ≡ 1) {x = suc n} (omega arith) here
    ]

pub heads_are_each : (xs : List ReviewRow) → All (λ r. r.state ≡ 1 → IsUpTo (count_by is_merged xs) r.head) xs → ((head : ℕ) → count_by (has_head head) xs ≤ 1) → (head : ℕ) → IsUpTo (count_by is_merged xs) head → count_by (has_head head) xs ≡ 1
heads_are_each xs all once head within = total_each (count_by is_merged xs) xs once (total_merged (count_by is_merged xs) xs all) head within.0 within.1
