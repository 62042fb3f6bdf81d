-- Where a value that is there comes from.
use Rattle.std.proofs.Common.{◌≡◌, ◌⊎◌, inl, inr, ℕ, Bool, true, false, List, Option, Some, None, All, slice_get, refl, subst, if◌then◌else◌}
use Rattle.std.specs.Option.{option_map, option_and_then}
use Rattle.std.proofs.lemmas.Option.{slice_get_within, get_or_from_slice_get}
use Rattle.std.proofs.lemmas.List.Elements.{All-get_or}

pub of_map : {A B : Type 0} (f : A → B) (o : Option A) (y : B) → option_map f o ≡ Some y → (x : A) × (o ≡ Some x) × (f x ≡ y)
of_map f None y e = absurd (cc)
of_map f (Some x) y e = (x, refl, cc)

pub of_and_then : {A B : Type 0} (f : A → Option B) (o : Option A) (y : B) → option_and_then f o ≡ Some y → (x : A) × (o ≡ Some x) × (f x ≡ Some y)
of_and_then f None y e = absurd (cc)
of_and_then f (Some x) y e = (x, refl, e)

pub of_none_if : {A : Type 0} (test : Bool) (o : Option A) (y : A) → (if test then None else o) ≡ Some y → (test ≡ false) × (o ≡ Some y)
of_none_if true o y e = absurd (cc)
of_none_if false o y e = (refl, e)

pub of_some_if : {A : Type 0} (test : Bool) (x y : A) → (if test then Some x else None) ≡ Some y → x ≡ y
of_some_if true x y e = cc
of_some_if false x y e = absurd (cc)

pub of_either : {A : Type 0} (test : Bool) (o p : Option A) (y : A) → (if test then o else p) ≡ Some y → (o ≡ Some y) ⊎ (p ≡ Some y)
of_either true o p y e = inl e
of_either false o p y e = inr e

-- the element at a position
pub at_place : {A : Type 0} (P : A → Type 0) (xs : List A) (k : ℕ) (x : A) → All P xs → slice_get xs k ≡ Some x → P x
at_place P xs k x all e = subst P (get_or_from_slice_get xs k x x e) (All-get_or P xs k x (slice_get_within xs k x e) all)
