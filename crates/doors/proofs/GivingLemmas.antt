-- Pieces that are given one after another.
use Rattle.std.proofs.Common.{◌≡◌, ℕ, ◌+◌, ◌-◌, List, [], ◌++◌, take, drop, length, append_assoc, append-nil, length-drop, Option, Some, None, option_map, ap, sym, refl, ◌∙◌, arith}
use Rattle.std.proofs.Math.Seq.{take-add, take-append-add}
use Rattle.std.proofs.lemmas.List.{take_all, take-append-le}
use Rattle.std.proofs.Common.{◌<◌, ◌≤◌, Result, Ok, Err, length-append}
use Rattle.doors.specs.Door.{Talk, Told, adding, giving, GivesAll}
use Rattle.outside.specs.declared.sink.Failed.{Failed}

talk_more : (o : Option Talk) (xs ys : List ℕ) → option_map (adding ys) (option_map (adding xs) o) ≡ option_map (adding (xs ++ ys)) o
talk_more None xs ys = refl
talk_more (Some a) xs ys = let e = append_assoc a.given xs ys in λ i. Some (record { left = a.left; given = e i })

talk_none : (o : Option Talk) → option_map (adding []) o ≡ o
talk_none None = refl
talk_none (Some a) = let e = append-nil a.given in λ i. Some (record { left = a.left; given = e i })

pub giving_nothing : (t : Told) → giving [] t ≡ t
giving_nothing t = let e = talk_none t.talk in λ i. record { port = t.port; talk = e i; ended = t.ended; coming = t.coming }

pub giving_more : (t : Told) (xs ys : List ℕ) → giving ys (giving xs t) ≡ giving (xs ++ ys) t
giving_more t xs ys = let e = talk_more t.talk xs ys in λ i. record { port = t.port; talk = e i; ended = t.ended; coming = t.coming }

pub rest_range : (xs : List ℕ) (n : ℕ) → take (length xs - n) (drop n xs) ≡ drop n xs
rest_range xs n = take_all (length xs - n) (drop n xs) (omega (arith, length-drop n xs))

pub told_more : (now : Option Told) (t : Told) (xs : List ℕ) (n k : ℕ) → now ≡ Some (giving (take k (take (length xs - n) (drop n xs))) (giving (take n xs) t)) → now ≡ Some (giving (take (n + k) xs) t)
told_more now t xs n k e =
    e ∙ ap (λ rest. Some (giving (take k rest) (giving (take n xs) t))) (rest_range xs n)
    ∙ ap Some (giving_more t (take n xs) (take k (drop n xs)))
    ∙ ap (λ all. Some (giving all t)) (sym (take-add n k xs))

-- a piece was given, and then the next
pub gives_then : (t : Told) (xs ys : List ℕ) (r : Result (Unit {0}) Failed) (between now : Option Told) → between ≡ Some (giving xs t)
    → ((u : Told) → between ≡ Some u → GivesAll u ys r now) → GivesAll t (xs ++ ys) r now
gives_then t xs ys (Ok a) between now e h = h (giving xs t) e ∙ ap Some (giving_more t xs ys)
gives_then t xs ys (Err f) between now e h =
    let x = h (giving xs t) e in
    let k = length xs + x.0 in
    let less : k < length (xs ++ ys) = omega (arith, length-append xs ys, x.1) in
    let front : xs ++ take x.0 ys ≡ take k (xs ++ ys) = sym (take-append-add xs ys x.0) in
    (k, less, x.2 ∙ ap Some (giving_more t xs (take x.0 ys)) ∙ ap (λ zs. Some (giving zs t)) front)

-- the first piece was not given whole
pub gives_stop : (t : Told) (xs ys : List ℕ) (f : Failed) (now : Option Told) → GivesAll {E = Failed} t xs (Err f) now → GivesAll {E = Failed} t (xs ++ ys) (Err f) now
gives_stop t xs ys f now x =
    let less : x.0 < length (xs ++ ys) = omega (arith, length-append xs ys, x.1) in
    let few : x.0 ≤ length xs = omega (arith, x.1) in
    let front : take x.0 xs ≡ take x.0 (xs ++ ys) = sym (take-append-le x.0 xs ys few) in
    (x.0, less, x.2 ∙ ap (λ zs. Some (giving zs t)) front)
