-- Rows and their words.
use Rattle.std.proofs.Common.{◌≡◌, ℕ, zero, suc, ◌+◌, ◌*◌, ◌%◌, ◌<◌, ◌≤◌, true, List, [], ◌∷◌, ◌++◌, length, get_or, min, sym, refl, ap, ◌∙◌, subst, arith, inl, inr, ◌⊎◌, length-append, zero-add}
use Rattle.std.proofs.Math.Nat.{mul-add-mod_self_left}
use Rattle.std.proofs.lemmas.List.{get_or-append-add, get_or_append_left}
use Rattle.std.proofs.lemmas.Bool.Decides.{nat_tests}
use Rattle.std.specs.Int.{bit_at}
use Rattle.std.proofs.lemmas.Nat.Bits.{bit_at-lt}
use Rattle.abstract_route.specs.declared.rows.Row.{Row}
use Rattle.net_types.specs.Sets.{has, IsPart}
use Rattle.abstract_route.specs.Rows.{IsBelow, bottom, hull_of, joined, row_at}
use Rattle.abstract_route.proofs.RowLemmas.{row_same, range_same}
use Rattle.net_types.proofs.SetLemmas.{bit_from}
use Rattle.flow_board.specs.RowLists.{AreBelow}
use Rattle.std.proofs.lemmas.List.FromFn.{length-map-range_with_len, get_or-map-range_with_len}
use Rattle.flow_board.specs.Order.{Kind, kind_at, kind_of, Below, merged, AllBelow}
use Rattle.flow_board.specs.RowWords.{row_words, words_of, row_from, rows_of}

-- a place in a row, at each of its fourteen numbers
pub each_word : (P : ℕ → Type 0) → P 0 → P 1 → P 2 → P 3 → P 4 → P 5 → P 6 → P 7 → P 8 → P 9 → P 10 → P 11 → P 12 → P 13 → (k : ℕ) → k < 14 → P k
each_word P p0 p1 p2 p3 p4 p5 p6 p7 p8 p9 p10 p11 p12 p13 zero h = p0
each_word P p0 p1 p2 p3 p4 p5 p6 p7 p8 p9 p10 p11 p12 p13 (suc zero) h = p1
each_word P p0 p1 p2 p3 p4 p5 p6 p7 p8 p9 p10 p11 p12 p13 (suc (suc zero)) h = p2
each_word P p0 p1 p2 p3 p4 p5 p6 p7 p8 p9 p10 p11 p12 p13 (suc (suc (suc zero))) h = p3
each_word P p0 p1 p2 p3 p4 p5 p6 p7 p8 p9 p10 p11 p12 p13 (suc (suc (suc (suc zero)))) h = p4
each_word P p0 p1 p2 p3 p4 p5 p6 p7 p8 p9 p10 p11 p12 p13 (suc (suc (suc (suc (suc zero))))) h = p5
each_word P p0 p1 p2 p3 p4 p5 p6 p7 p8 p9 p10 p11 p12 p13 (suc (suc (suc (suc (suc (suc zero)))))) h = p6
each_word P p0 p1 p2 p3 p4 p5 p6 p7 p8 p9 p10 p11 p12 p13 (suc (suc (suc (suc (suc (suc (suc zero))))))) h = p7
each_word P p0 p1 p2 p3 p4 p5 p6 p7 p8 p9 p10 p11 p12 p13 (suc (suc (suc (suc (suc (suc (suc (suc zero)))))))) h = p8
each_word P p0 p1 p2 p3 p4 p5 p6 p7 p8 p9 p10 p11 p12 p13 (suc (suc (suc (suc (suc (suc (suc (suc (suc zero))))))))) h = p9
each_word P p0 p1 p2 p3 p4 p5 p6 p7 p8 p9 p10 p11 p12 p13 (suc (suc (suc (suc (suc (suc (suc (suc (suc (suc zero)))))))))) h = p10
each_word P p0 p1 p2 p3 p4 p5 p6 p7 p8 p9 p10 p11 p12 p13 (suc (suc (suc (suc (suc (suc (suc (suc (suc (suc (suc zero))))))))))) h = p11
each_word P p0 p1 p2 p3 p4 p5 p6 p7 p8 p9 p10 p11 p12 p13 (suc (suc (suc (suc (suc (suc (suc (suc (suc (suc (suc (suc zero)))))))))))) h = p12
each_word P p0 p1 p2 p3 p4 p5 p6 p7 p8 p9 p10 p11 p12 p13 (suc (suc (suc (suc (suc (suc (suc (suc (suc (suc (suc (suc (suc zero))))))))))))) h = p13
each_word P p0 p1 p2 p3 p4 p5 p6 p7 p8 p9 p10 p11 p12 p13 (suc (suc (suc (suc (suc (suc (suc (suc (suc (suc (suc (suc (suc (suc k)))))))))))))) h = absurd (omega arith)

-- the kind of a word goes by its place in the row
pub kind_in_row : (u k : ℕ) → k < 14 → kind_of (14 * u + k) ≡ kind_at k
kind_in_row u k h = ap kind_at (mul-add-mod_self_left 14 u k ∙ small k h)
  where
    small : (k : ℕ) → k < 14 → k % 14 ≡ k
    small k h = omega arith

-- sets, by bits
pub part_from_bits : (a b : ℕ) → ((j : ℕ) → bit_at a j ≤ bit_at b j) → IsPart a b
part_from_bits a b h = record { members = λ x t. let e = h x in let p = bit_at-lt b x in grind (arith, nat_tests) }

pub bits_from_part : (a b : ℕ) → IsPart a b → (j : ℕ) → bit_at a j ≤ bit_at b j
bits_from_part a b h j = elim (one_or_none a j) [
  | inl one ↦ let t : has b j ≡ true = h.members j (grind (arith, nat_tests)) in let e = bit_from b j t in let p = bit_at-lt a j in omega arith
  | inr none ↦ omega arith
] where
  one_or_none : (s x : ℕ) → (bit_at s x ≡ 1) ⊎ (bit_at s x ≡ 0)
  one_or_none s x = let h = bit_at-lt s x in grind arith

-- words below words are rows below rows
pub row_from_below : (a b : List ℕ) (i j : ℕ) → ((k : ℕ) → k < 14 → Below (kind_at k) (get_or a (i + k) 0) (get_or b (j + k) 0)) → IsBelow (row_from a i) (row_from b j)
unfolding row_from
row_from_below a b i j all = record {
  weight = (zeroth.0, all 5 (omega arith));
  preference = (all 1 (omega arith), all 6 (omega arith));
  length = (all 2 (omega arith), all 7 (omega arith));
  origin = (all 3 (omega arith), all 8 (omega arith));
  med = (all 4 (omega arith), all 9 (omega arith));
  has = part_from_bits (get_or a (i + 10) 0) (get_or b (j + 10) 0) (all 10 (omega arith));
  lacks = part_from_bits (get_or a (i + 11) 0) (get_or b (j + 11) 0) (all 11 (omega arith));
  may = part_from_bits (get_or a (i + 12) 0) (get_or b (j + 12) 0) (all 12 (omega arith));
  must = part_from_bits (get_or b (j + 13) 0) (get_or a (i + 13) 0) (all 13 (omega arith));
} where
  plain : (x : ℕ) → x + 0 ≡ x
  plain x = omega arith

  zeroth : (get_or b j 0 ≤ get_or a i 0) × Unit {0}
  zeroth = (subst (λ (m : ℕ). get_or b m 0 ≤ get_or a i 0) (plain j) (subst (λ (m : ℕ). get_or b (j + 0) 0 ≤ get_or a m 0) (plain i) (all 0 (omega arith))), tt)

-- and back
pub words_below : (r : Row) (b : List ℕ) (j : ℕ) → IsBelow r (row_from b j) → (k : ℕ) → k < 14 → Below (kind_at k) (get_or (row_words r) k 0) (get_or b (j + k) 0)
unfolding row_from
words_below r b j h = each_word (λ k. Below (kind_at k) (get_or (row_words r) k 0) (get_or b (j + k) 0))
    (subst (λ (m : ℕ). get_or b m 0 ≤ r.weight.low) (plain j) h.weight.0) h.preference.0 h.length.0 h.origin.0 h.med.0
    h.weight.1 h.preference.1 h.length.1 h.origin.1 h.med.1
    (bits_from_part r.has (get_or b (j + 10) 0) h.has)
    (bits_from_part r.lacks (get_or b (j + 11) 0) h.lacks)
    (bits_from_part r.may (get_or b (j + 12) 0) h.may)
    (bits_from_part (get_or b (j + 13) 0) r.must h.must)
  where
    plain : (x : ℕ) → x ≡ x + 0
    plain x = omega arith

-- the words of a row give the row
pub row_from_words : (r : Row) → row_from (row_words r) 0 ≡ r
unfolding row_from
row_from_words r = refl

-- words that agree give one row
pub row_from_same : (a b : List ℕ) (i j : ℕ) → ((k : ℕ) → k < 14 → get_or a (i + k) 0 ≡ get_or b (j + k) 0) → row_from a i ≡ row_from b j
unfolding row_from
row_from_same a b i j all = row_same (row_from a i) (row_from b j)
    (range_same (row_from a i).weight (row_from b j).weight zeroth (all 5 (omega arith)))
    (range_same (row_from a i).preference (row_from b j).preference (all 1 (omega arith)) (all 6 (omega arith)))
    (range_same (row_from a i).length (row_from b j).length (all 2 (omega arith)) (all 7 (omega arith)))
    (range_same (row_from a i).origin (row_from b j).origin (all 3 (omega arith)) (all 8 (omega arith)))
    (range_same (row_from a i).med (row_from b j).med (all 4 (omega arith)) (all 9 (omega arith)))
    (all 10 (omega arith)) (all 11 (omega arith)) (all 12 (omega arith)) (all 13 (omega arith))
  where
    plain : (x : ℕ) → x + 0 ≡ x
    plain x = omega arith

    zeroth : get_or a i 0 ≡ get_or b j 0
    zeroth = ap (λ (m : ℕ). get_or a m 0) (sym (plain i)) ∙ all 0 (omega arith) ∙ ap (λ (m : ℕ). get_or b m 0) (plain j)

-- a merge of words is the join of rows
pub row_from_merged : (c a : List ℕ) (r : Row) (i : ℕ) → ((k : ℕ) → k < 14 → get_or c (i + k) 0 ≡ merged (kind_at k) (get_or a (i + k) 0) (get_or (row_words r) k 0)) → row_from c i ≡ joined (row_from a i) r
unfolding row_from
row_from_merged c a r i all = row_same (row_from c i) (joined (row_from a i) r)
    (range_same (row_from c i).weight (hull_of (row_from a i).weight r.weight) zeroth (all 5 (omega arith)))
    (range_same (row_from c i).preference (hull_of (row_from a i).preference r.preference) (all 1 (omega arith)) (all 6 (omega arith)))
    (range_same (row_from c i).length (hull_of (row_from a i).length r.length) (all 2 (omega arith)) (all 7 (omega arith)))
    (range_same (row_from c i).origin (hull_of (row_from a i).origin r.origin) (all 3 (omega arith)) (all 8 (omega arith)))
    (range_same (row_from c i).med (hull_of (row_from a i).med r.med) (all 4 (omega arith)) (all 9 (omega arith)))
    (all 10 (omega arith)) (all 11 (omega arith)) (all 12 (omega arith)) (all 13 (omega arith))
  where
    plain : (x : ℕ) → x + 0 ≡ x
    plain x = omega arith

    zeroth : get_or c i 0 ≡ min (get_or a i 0) r.weight.low
    zeroth = ap (λ (m : ℕ). get_or c m 0) (sym (plain i)) ∙ all 0 (omega arith) ∙ ap (λ (m : ℕ). min (get_or a m 0) r.weight.low) (plain i)

pub length-rows_of : (n : ℕ) (ws : List ℕ) → length (rows_of n ws) ≡ n
unfolding rows_of
length-rows_of n ws = length-map-range_with_len (λ u. row_from ws (14 * u)) 0 n

pub row_at-rows_of : (n : ℕ) (ws : List ℕ) (u : ℕ) → u < n → row_at (rows_of n ws) u ≡ row_from ws (14 * u)
unfolding rows_of
row_at-rows_of n ws u h = get_or-map-range_with_len (λ u. row_from ws (14 * u)) 0 n u u bottom h (omega arith)

pub length-words_of : (rows : List Row) → length (words_of rows) ≡ 14 * length rows
unfolding words_of
length-words_of [] = refl
length-words_of (r ∷ rs) = length-append (row_words r) (words_of rs) ∙ (let e = length-words_of rs in omega arith)

pub words_at : (rows : List Row) (u k : ℕ) → u < length rows → k < 14 → get_or (words_of rows) (14 * u + k) 0 ≡ get_or (row_words (row_at rows u)) k 0
unfolding words_of
words_at [] u k h l = absurd (omega arith)
words_at (r ∷ rs) zero k h l =
    let e : 14 * zero + k ≡ k = omega arith in
    ap (λ (m : ℕ). get_or (row_words r ++ words_of rs) m 0) e ∙ get_or_append_left (row_words r) (words_of rs) 0 k l
words_at (r ∷ rs) (suc u) k h l =
    let e : 14 * suc u + k ≡ 14 + (14 * u + k) = omega arith in
    ap (λ (m : ℕ). get_or (row_words r ++ words_of rs) m 0) e ∙ get_or-append-add (row_words r) (words_of rs) (14 * u + k) 0 ∙ words_at rs u k (omega arith) l

pub row_from-words_of : (rows : List Row) (u : ℕ) → u < length rows → row_from (words_of rows) (14 * u) ≡ row_at rows u
row_from-words_of rows u h = row_from_same (words_of rows) (row_words (row_at rows u)) (14 * u) 0 (λ k l. rw (zero-add k) (words_at rows u k h l)) ∙ row_from_words (row_at rows u)

-- two lists with the same rows
pub same_rows : (xs ys : List Row) → length xs ≡ length ys → ((u : ℕ) → u < length xs → row_at xs u ≡ row_at ys u) → xs ≡ ys
same_rows [] [] long all = refl
same_rows [] (y ∷ ys) long all = absurd (omega arith)
same_rows (x ∷ xs) [] long all = absurd (omega arith)
same_rows (x ∷ xs) (y ∷ ys) long all =
    let first : x ≡ y = all zero (omega arith) in
    let rest = same_rows xs ys (omega arith) (λ u h. all (suc u) (omega arith)) in
    λ i. first i ∷ rest i

pub rows_of_words : (rows : List Row) (n : ℕ) → length rows ≡ n → rows_of n (words_of rows) ≡ rows
rows_of_words rows n long = same_rows (rows_of n (words_of rows)) rows (length-rows_of n (words_of rows) ∙ sym long) (λ u h.
    let low : u < n = let e = length-rows_of n (words_of rows) in omega arith in
    row_at-rows_of n (words_of rows) u low ∙ row_from-words_of rows u (omega arith))

-- all words below all words
pub rows_of_below : (n : ℕ) (a b : List ℕ) → length b ≡ 14 * n → AllBelow a b → AreBelow (rows_of n a) (rows_of n b)
rows_of_below n a b long all = record {
  long = length-rows_of n a ∙ sym (length-rows_of n b);
  each = λ u h.
      let low : u < n = let e = length-rows_of n a in omega arith in
      rw (row_at-rows_of n a u low, row_at-rows_of n b u low) (row_from_below a b (14 * u) (14 * u) (λ k l.
      subst (λ (q : Kind). Below q (get_or a (14 * u + k) 0) (get_or b (14 * u + k) 0)) (kind_in_row u k l) (all (14 * u + k) (omega arith))));
}
