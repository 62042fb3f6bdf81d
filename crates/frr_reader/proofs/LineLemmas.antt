-- How long the parts of a file are, and its lines from one on.
use Rattle.std.proofs.Common.{ℕ, ◌≡◌, ◌+◌, ◌==◌, Bool, true, false, List, [], ◌∷◌, ◌++◌, length, arith, ap, subst, refl, ◌∙◌, Option, Some, None, MatchOption}
use Rattle.std.specs.Borrow.{Bor}
use Rattle.std.specs.List.{onto_first}
use Rattle.std.proofs.lemmas.List.Splits.{slice_split-cons_no, slice_split-cons_yes}
use Rattle.net_types.specs.Cut.{parts}
use Rattle.net_types.proofs.CutLemmas.{first_part}
use Rattle.frr_reader.specs.Lines.{LineValue, numbered, lines, line_at}
use Rattle.frr_reader.specs.LineLaws.{IsPlaced}

-- the bytes of the parts, and one for each
abbrev sizes : List (List ℕ) → ℕ
sizes [] = 0
sizes (part ∷ more) = length part + 1 + sizes more

-- the parts have as many bytes as the text, but for the bytes between them
sizes-parts : (c : ℕ) (xs : List ℕ) → sizes (parts c xs) ≡ length xs + 1
sizes-parts c [] = refl
sizes-parts c (x ∷ xs) = go (sizes-parts c xs) (first_part c xs) (x == c) refl where
  go : sizes (parts c xs) ≡ length xs + 1 → ((first : List ℕ) × (more : List (List ℕ)) × (parts c xs ≡ first ∷ more)) → (b : Bool) → (x == c) ≡ b → sizes (parts c (x ∷ xs)) ≡ length (x ∷ xs) + 1
  go i f true t =
      let e : sizes (parts c (x ∷ xs)) ≡ 0 + 1 + sizes (parts c xs) = ap sizes (slice_split-cons_yes (λ b. b == c) x xs t) in
      omega arith
  go i f false t =
      let e : parts c (x ∷ xs) ≡ (x ∷ f.0) ∷ f.1 = slice_split-cons_no (λ b. b == c) x xs t ∙ ap (onto_first x) f.2 in
      let g : sizes (parts c (x ∷ xs)) ≡ length (x ∷ f.0) + 1 + sizes f.1 = ap sizes e in
      let h : sizes (parts c xs) ≡ length f.0 + 1 + sizes f.1 = ap sizes f.2 in
      omega arith

-- the text up to the first such byte, that byte, and what is behind it
pub length-cut : (c : ℕ) (xs part rest : List ℕ) → parts c xs ≡ part ∷ parts c rest → length xs ≡ length part + 1 + length rest
length-cut c xs part rest e =
    let a = sizes-parts c xs in
    let b = sizes-parts c rest in
    let h : sizes (parts c xs) ≡ length part + 1 + sizes (parts c rest) = ap sizes e in
    omega arith

pub sizes-cut : (c : ℕ) (xs : List ℕ) (r : Option (Bor (List ℕ) × Bor (List ℕ))) → MatchOption r (parts c xs ≡ xs ∷ []) (λ p. parts c xs ≡ p.0.now ∷ parts c p.1.now) → MatchOption r (parts c xs ≡ xs ∷ []) (λ p. length xs ≡ length p.0.now + 1 + length p.1.now)
sizes-cut c xs None h = h
sizes-cut c xs (Some p) h = length-cut c xs p.0.now p.1.now h

-- a part that is not the last is a line that an LF ends
pub numbered_part : (number before : ℕ) (part rest : List ℕ) → numbered number before (part ∷ parts 10 rest) ≡ line_at number part (before + length part + 1) ∷ numbered (number + 1) (before + length part + 1) (parts 10 rest)
numbered_part number before part rest = let f = first_part 10 rest in rw f.2 refl

-- lines that are numbered one after another, behind n lines
abbrev pub Counted : ℕ → List LineValue → Type 0
Counted n [] = Unit {0}
Counted n (line ∷ more) = (line.number ≡ n + 1) × Counted (n + 1) more

counted-numbered : (ps : List (List ℕ)) (number before n : ℕ) → number ≡ n + 1 → Counted n (numbered number before ps)
counted-numbered [] number before n e = tt
counted-numbered (last ∷ []) number before n e = (e, tt)
counted-numbered (part ∷ next ∷ more) number before n e = (e, counted-numbered (next ∷ more) (number + 1) (before + length part + 1) (n + 1) (omega arith))

pub counted-lines : (text : List ℕ) → Counted 0 (lines text)
unfolding lines
counted-lines text = counted-numbered (parts 10 text) 1 0 0 refl

pub counted-left : (n : ℕ) (xs ys : List LineValue) → Counted n (xs ++ ys) → Counted n xs
counted-left n [] ys h = tt
counted-left n (x ∷ xs) ys h = (h.0, counted-left (n + 1) xs ys h.1)

-- the number of a line is by its place, and the last one reaches to the end of the file

counted_at : (n : ℕ) (xs ys : List LineValue) (line : LineValue) → Counted n (xs ++ line ∷ ys) → line.number ≡ n + length xs + 1
counted_at n [] ys line h = let e = h.0 in omega arith
counted_at n (x ∷ xs) ys line h = let e = counted_at (n + 1) xs ys line h.1 in omega arith

no_line : (xs : List LineValue) (line : LineValue) → [] ≡ xs ++ line ∷ [] → ⊥
no_line [] line e = cc
no_line (x ∷ xs) line e = cc

same_tail : (x y : LineValue) (xs ys : List LineValue) → x ∷ xs ≡ y ∷ ys → xs ≡ ys
same_tail x y xs ys e = cc

same_head : (x y : LineValue) (xs ys : List LineValue) → x ∷ xs ≡ y ∷ ys → x ≡ y
same_head x y xs ys e = cc

last_reaches : (ps : List (List ℕ)) (number before : ℕ) (xs : List LineValue) (line : LineValue) → numbered number before ps ≡ xs ++ line ∷ [] → line.reach + 1 ≡ before + sizes ps
last_reaches [] number before xs line e = absurd (no_line xs line e)
last_reaches (last ∷ []) number before [] line e =
    let h = ap (λ (l : LineValue). l.reach) (same_head (line_at number last (before + length last)) line [] [] e) in
    omega arith
last_reaches (last ∷ []) number before (x ∷ xs) line e = absurd (no_line xs line (same_tail (line_at number last (before + length last)) x [] (xs ++ line ∷ []) e))
last_reaches (part ∷ next ∷ []) number before [] line e = absurd (let f = same_tail _ line (numbered (number + 1) (before + length part + 1) (next ∷ [])) [] e in cc)
last_reaches (part ∷ next ∷ other ∷ more) number before [] line e = absurd (let f = same_tail _ line (numbered (number + 1) (before + length part + 1) (next ∷ other ∷ more)) [] e in cc)
last_reaches (part ∷ next ∷ more) number before (x ∷ xs) line e =
    let h = last_reaches (next ∷ more) (number + 1) (before + length part + 1) xs line (same_tail _ x (numbered (number + 1) (before + length part + 1) (next ∷ more)) (xs ++ line ∷ []) e) in
    omega arith

last_of : (text : List ℕ) (xs : List LineValue) (line : LineValue) → lines text ≡ xs ++ line ∷ [] → line.reach ≡ length text
unfolding lines
last_of text xs line e =
    let h = last_reaches (parts 10 text) 1 0 xs line e in
    let s = sizes-parts 10 text in
    omega arith

pub is_placed : (text : List ℕ) (before behind : List LineValue) (line : LineValue) → lines text ≡ before ++ line ∷ behind → IsPlaced text before behind line
is_placed text before behind line e = record {
  number = (let n = counted_at 0 before behind line (subst (Counted 0) e (counted-lines text)) in omega arith);
  last = λ f. last_of text before line (e ∙ ap (λ xs. before ++ line ∷ xs) f);
}
