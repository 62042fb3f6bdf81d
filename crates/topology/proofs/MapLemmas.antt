-- Looking up and putting an item in a list that is seen through a function, as references are.
use Rattle.std.proofs.Common.{ℕ, zero, suc, ◌≡◌, ◌<◌, ◌+◌, ◌||◌, Bool, true, false, not, cond, List, [], ◌∷◌, map, length, get_or, All, refl, ap, sym, subst, ◌∙◌}
use Rattle.std.proofs.lemmas.List.{map-append, take-map, drop-map, length-map}
use Rattle.std.specs.List.{list_any, position_or_len, insert}
use Rattle.topology.specs.Ascending.{put}

pub list_any-map : {A B : Type 0} (f : A → B) (p : B → Bool) (xs : List A) → list_any p (map f xs) ≡ list_any (λ x. p (f x)) xs
list_any-map f p [] = refl
list_any-map f p (x ∷ xs) = ap (λ b. p (f x) || b) (list_any-map f p xs)

pub position_or_len-map : {A B : Type 0} (f : A → B) (p : B → Bool) (xs : List A) → position_or_len p (map f xs) ≡ position_or_len (λ x. p (f x)) xs
position_or_len-map f p [] = refl
position_or_len-map f p (x ∷ xs) = ap (λ n. cond (not (p (f x))) (1 + n) 0) (position_or_len-map f p xs)

-- the list after an item was put into it at its place, or was there, seen through the function
pub put-there : {A B : Type 0} (f : A → B) (same before : B → B → Bool) (xs : List A) (x : A) → list_any (λ y. same (f y) (f x)) xs ≡ true → put same before (map f xs) (f x) ≡ map f xs
put-there f same before xs x h = rw (list_any-map f (λ y. same y (f x)) xs, h) refl

pub put-new : {A B : Type 0} (f : A → B) (same before : B → B → Bool) (xs : List A) (x : A) → list_any (λ y. same (f y) (f x)) xs ≡ false → put same before (map f xs) (f x) ≡ map f (insert xs (position_or_len (λ y. before (f x) (f y)) xs) x)
put-new f same before xs x h = rw (list_any-map f (λ y. same y (f x)) xs, h, position_or_len-map f (λ y. before (f x) y) xs) (insert-map f xs (position_or_len (λ y. before (f x) (f y)) xs) x) where
  insert-map : {A B : Type 0} (f : A → B) (xs : List A) (i : ℕ) (x : A) → insert (map f xs) i (f x) ≡ map f (insert xs i x)
  insert-map f xs i x = simp (map-append, take-map, drop-map)

-- what is true of all that is seen is true of one that is seen
pub All-seen : {A B : Type 0} (f : A → B) (P : B → Type 0) (xs : List A) (k : ℕ) (x : A) → All P (map f xs) → k < length xs → x ≡ get_or xs k x → P (f x)
All-seen f P xs k x a h e =
    let at : get_or (map f xs) k (f x) ≡ f x = get_or-map f xs k x ∙ ap f (sym e) in
    subst P at (a k (f x) (rw (length-map xs f) h)) where
      get_or-map : {A B : Type 0} (f : A → B) (xs : List A) (k : ℕ) (x : A) → get_or (map f xs) k (f x) ≡ f (get_or xs k x)
      get_or-map f [] k x = refl
      get_or-map f (y ∷ ys) zero x = refl
      get_or-map f (y ∷ ys) (suc k) x = get_or-map f ys k x
