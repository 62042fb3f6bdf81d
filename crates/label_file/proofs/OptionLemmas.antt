-- What is true of every value that a chain of tests lets through.
use Rattle.std.proofs.Common.{ℕ, ◌≡◌, ◌+◌, Bool, true, false, List, [], ◌∷◌, All, Option, Some, None, IfSome, Result, Ok, Err, IfOk, option_map, option_and_then, find, if◌then◌else◌, refl}
use Rattle.std.proofs.lemmas.List.Elements.{All-nil, All-cons, All-head, All-tail}
use Rattle.toml.specs.Data.{Data, Items, no_items, item, Members, as_table}
use Rattle.net_types.specs.declared.refusals.FormRefusal.{FormRefusal}
use Rattle.toml_fields.specs.Tables.{in_front, each_of, or_bad_field, rows_from}

pub IfSome-test : {A : Type 0} (P : A → Type 0) (b : Bool) (a : A) → (b ≡ true → P a) → IfSome (if b then Some a else None) P
IfSome-test P true a h = h refl
IfSome-test P false a h = tt

pub IfSome-else : {A : Type 0} (P : A → Type 0) (b : Bool) (o : Option A) (p : Option A) → IfSome o P → IfSome p P → IfSome (if b then o else p) P
IfSome-else P true o p h k = h
IfSome-else P false o p h k = k

pub IfSome-and_then : {A B : Type 0} (P : A → Type 0) (Q : B → Type 0) (f : A → Option B) (o : Option A) → IfSome o P → ((a : A) → P a → IfSome (f a) Q) → IfSome (option_and_then f o) Q
IfSome-and_then P Q f (Some a) h k = k a h
IfSome-and_then P Q f None h k = tt

-- the same where nothing is known of the first value
pub IfSome-behind : {A B : Type 0} (Q : B → Type 0) (f : A → Option B) (o : Option A) → ((a : A) → IfSome (f a) Q) → IfSome (option_and_then f o) Q
IfSome-behind Q f (Some a) k = k a
IfSome-behind Q f None k = tt

pub IfSome-map : {A B : Type 0} (P : A → Type 0) (Q : B → Type 0) (f : A → B) (o : Option A) → IfSome o P → ((a : A) → P a → Q (f a)) → IfSome (option_map f o) Q
IfSome-map P Q f (Some a) h k = k a h
IfSome-map P Q f None h k = tt

pub IfSome-at : {A : Type 0} (P : A → Type 0) (o : Option A) (a : A) → IfSome o P → o ≡ Some a → P a
IfSome-at P o a h e = rw e at h

-- what is found is one of the list, and passes the test
pub IfSome-find : {A : Type 0} (P : A → Type 0) (test : A → Bool) (xs : List A) → All P xs → IfSome (find test xs) (λ a. (test a ≡ true) × P a)
IfSome-find P test [] all = tt
IfSome-find P test (x ∷ xs) all = go (test x) refl (IfSome-find P test xs (All-tail P x xs all)) where
  go : (b : Bool) → test x ≡ b → IfSome (find test xs) (λ a. (test a ≡ true) × P a) → IfSome (if b then Some x else find test xs) (λ a. (test a ≡ true) × P a)
  go true e later = (e, All-head P x xs all)
  go false e later = later

pub IfSome-found : {A : Type 0} (test : A → Bool) (xs : List A) → IfSome (find test xs) (λ a. test a ≡ true)
IfSome-found test [] = tt
IfSome-found test (x ∷ xs) = go (test x) refl (IfSome-found test xs) where
  go : (b : Bool) → test x ≡ b → IfSome (find test xs) (λ a. test a ≡ true) → IfSome (if b then Some x else find test xs) (λ a. test a ≡ true)
  go true e later = e
  go false e later = later

in_front_all : {A : Type 0} (P : A → Type 0) (o : Option A) (more : Option (List A)) → IfSome o P → IfSome more (All P) → IfSome (in_front o more) (All P)
in_front_all P (Some a) (Some more) h k = All-cons P a more h k
in_front_all P (Some a) None h k = tt
in_front_all P None more h k = tt

pub IfSome-each_of : {A : Type 0} (P : A → Type 0) (read : Data → Option A) (items : Items) → ((value : Data) → IfSome (read value) P) → IfSome (each_of read items) (All P)
IfSome-each_of P read no_items h = All-nil P
IfSome-each_of P read (item value more) h = in_front_all P (read value) (each_of read more) (h value) (IfSome-each_of P read more h)

or_bad_field_all : {A : Type 0} (P : A → Type 0) (o : Option A) (place : ℕ) (more : Result (List A) FormRefusal) → IfSome o P → IfOk more (All P) → IfOk (or_bad_field o place more) (All P)
or_bad_field_all P (Some a) place (Ok more) h k = All-cons P a more h k
or_bad_field_all P (Some a) place (Err refusal) h k = tt
or_bad_field_all P None place more h k = tt

pub IfOk-rows_from : {A : Type 0} (P : A → Type 0) (read : Members → Option A) (place : ℕ) (items : Items) → ((fields : Members) → IfSome (read fields) P) → IfOk (rows_from read place items) (All P)
IfOk-rows_from P read place no_items h = All-nil P
IfOk-rows_from P read place (item value more) h =
    or_bad_field_all P (option_and_then read (as_table value)) place (rows_from read (place + 1) more)
    (IfSome-behind P read (as_table value) h) (IfOk-rows_from P read (place + 1) more h)
