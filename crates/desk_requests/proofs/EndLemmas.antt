-- Where a head ends.
use Rattle.std.proofs.Common.{◌≡◌, ℕ, suc, ◌+◌, ◌-◌, ◌<◌, ◌≤◌, List, [], ◌∷◌, ◌++◌, take, drop, length, get_or, Option, None, Some, option_map, ap, sym, refl, ◌∙◌, arith, drop-cons, ◌==◌, ◌&&◌, Bool, true, false, if◌then◌else◌}
use Rattle.std.proofs.Math.Seq.{take-add}
use Rattle.std.proofs.lemmas.List.{take_all}
use Rattle.desk_requests.specs.Head.{blank_behind, or_later, head_len, end_of, most_bytes}

-- one byte further
pub head_step : (xs : List ℕ) (i : ℕ) → i < length xs → head_len (drop i xs) ≡ or_later (blank_behind (get_or xs i 0) (drop (i + 1) xs)) (head_len (drop (i + 1) xs))
head_step xs i h = let e : suc i ≡ i + 1 = omega arith in ap head_len (drop-cons xs i 0 h ∙ ap (λ m. get_or xs i 0 ∷ drop m xs) e)

further : (o : Option ℕ) (i : ℕ) → option_map (λ n. i + n) (option_map (λ n. 1 + n) o) ≡ option_map (λ n. i + 1 + n) o
further None i = refl
further (Some n) i = let e : i + (1 + n) ≡ i + 1 + n = omega arith in ap Some e

pub head_later : (xs : List ℕ) (i : ℕ) → i < length xs → blank_behind (get_or xs i 0) (drop (i + 1) xs) ≡ None → head_len xs ≡ option_map (λ n. i + n) (head_len (drop i xs)) → head_len xs ≡ option_map (λ n. i + 1 + n) (head_len (drop (i + 1) xs))
head_later xs i h none e =
    e ∙ ap (option_map (λ n. i + n)) (head_step xs i h ∙ ap (λ o. or_later o (head_len (drop (i + 1) xs))) none)
    ∙ further (head_len (drop (i + 1) xs)) i

later_more : (x o p : Option ℕ) (n : ℕ) → ((m : ℕ) → o ≡ Some m → p ≡ Some m) → or_later x o ≡ Some n → or_later x p ≡ Some n
later_more (Some k) o p n h e = e
later_more None None p n h e = cc
later_more None (Some m) p n h e = ap (option_map (λ n. 1 + n)) (h m refl) ∙ e

first_more : (x y o p : Option ℕ) (n : ℕ) → o ≡ None → ((k : ℕ) → x ≡ Some k → y ≡ Some k) → or_later x o ≡ Some n → or_later y p ≡ Some n
first_more (Some k) y o p n none h e = ap (λ v. or_later v p) (h k refl) ∙ e
first_more None y o p n none h e = let f : or_later None None ≡ Some n = ap (or_later None) (sym none) ∙ e in cc

one_line : (p q : Bool) (x : Option ℕ) (k : ℕ) → (if p then (if q then Some 1 else None) else None) ≡ Some k → (if p then (if q then Some 1 else x) else None) ≡ Some k
one_line true true x k e = e
one_line true false x k e = cc
one_line false q x k e = cc

blank_more : (b a : ℕ) (ys : List ℕ) (k : ℕ) → blank_behind b (a ∷ []) ≡ Some k → blank_behind b (a ∷ ys) ≡ Some k
blank_more b a [] k e = e
blank_more b a (y ∷ ys) k e = one_line (b == 10) (a == 10) (if a == 13 && y == 10 then Some 2 else None) k e

no_blank : (p : Bool) → or_later (if p then None else None) None ≡ None
no_blank true = refl
no_blank false = refl

-- a head that is there stays, whatever follows
pub head_more : (xs ys : List ℕ) (n : ℕ) → head_len xs ≡ Some n → head_len (xs ++ ys) ≡ Some n
head_more [] ys n e = cc
head_more (b ∷ []) ys n e = let f = no_blank (b == 10) in cc
head_more (b ∷ a ∷ []) ys n e = first_more (blank_behind b (a ∷ [])) (blank_behind b (a ∷ ys)) (head_len (a ∷ [])) (head_len (a ∷ ys)) n (no_blank (a == 10)) (blank_more b a ys) e
head_more (b ∷ a ∷ c ∷ more) ys n e = later_more (blank_behind b (a ∷ c ∷ more)) (head_len (a ∷ c ∷ more)) (head_len ((a ∷ c ∷ more) ++ ys)) n (λ m. head_more (a ∷ c ∷ more) ys m) e

-- a head in what was read is that of the input
pub end_in : (c bytes : List ℕ) (n : ℕ) → bytes ≡ take (length bytes) c → length bytes ≤ most_bytes → head_len bytes ≡ Some n → end_of c ≡ Some n
end_in c bytes n same few e =
    let k = length bytes in
    let sum : k + (most_bytes - k) ≡ most_bytes = omega arith in
    let whole : take most_bytes c ≡ bytes ++ take (most_bytes - k) (drop k c) =
    ap (λ m. take m c) (sym sum) ∙ take-add k (most_bytes - k) c ∙ ap (λ xs. xs ++ take (most_bytes - k) (drop k c)) (sym same) in
    ap head_len whole ∙ head_more bytes (take (most_bytes - k) (drop k c)) n e

-- the same where all was read, or as much as may be
pub read_whole : (c bytes : List ℕ) → bytes ≡ c → length bytes ≤ most_bytes → bytes ≡ take most_bytes c
read_whole c bytes same few = same ∙ sym (take_all most_bytes c (omega (arith, ap length same)))

pub read_most : (c bytes : List ℕ) → bytes ≡ take (length bytes) c → length bytes ≡ most_bytes → bytes ≡ take most_bytes c
read_most c bytes same size = same ∙ ap (λ m. take m c) size

pub whole_map : (o : Option ℕ) → o ≡ option_map (λ n. 0 + n) o
whole_map None = refl
whole_map (Some n) = let e : n ≡ 0 + n = omega arith in ap Some e

map_twice : (o : Option ℕ) (k : ℕ) → option_map (λ n. 1 + n) (option_map (λ n. k + n) o) ≡ option_map (λ n. suc k + n) o
map_twice None k = refl
map_twice (Some n) k = let e : 1 + (k + n) ≡ suc k + n = omega arith in ap Some e

none_later : (x o p q : Option ℕ) → or_later x o ≡ None → (o ≡ None → p ≡ q) → or_later x p ≡ option_map (λ n. 1 + n) q
none_later (Some k) o p q e h = cc
none_later None None p q e h = ap (option_map (λ n. 1 + n)) (h refl)
none_later None (Some m) p q e h = cc

-- where no head was found, none begins to end before the last two bytes
pub scan_from : (xs ys : List ℕ) → head_len xs ≡ None
    → head_len (xs ++ ys) ≡ option_map (λ n. length xs - 2 + n) (head_len (drop (length xs - 2) (xs ++ ys)))
scan_from [] ys e = whole_map (head_len ys)
scan_from (b ∷ []) ys e = whole_map (head_len (b ∷ ys))
scan_from (b ∷ a ∷ []) ys e = whole_map (head_len (b ∷ a ∷ ys))
scan_from (b ∷ a ∷ c ∷ more) ys e =
    let k = length (a ∷ c ∷ more) - 2 in
    let next : length (b ∷ a ∷ c ∷ more) - 2 ≡ suc k = omega arith in
    let rest = (a ∷ c ∷ more) ++ ys in
    none_later (blank_behind b (a ∷ c ∷ more)) (head_len (a ∷ c ∷ more)) (head_len rest) (option_map (λ n. k + n) (head_len (drop k rest))) e (scan_from (a ∷ c ∷ more) ys)
    ∙ map_twice (head_len (drop k rest)) k
    ∙ ap (λ m. option_map (λ n. m + n) (head_len (drop m (b ∷ rest)))) (sym next)
