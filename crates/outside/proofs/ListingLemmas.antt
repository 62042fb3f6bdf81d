-- A listing of a folder has the names of its files, each once.
use Rattle.std.proofs.Common.{ℕ, zero, suc, ◌≡◌, ◌≢◌, ◌<◌, ◌⊎◌, inl, inr, Bool, true, false, cond, List, [], ◌∷◌, Option, Some, None, refl, sym, ap, ◌∙◌, length, get_or, arith}
use Rattle.std.specs.Prelude.{Result, Ok, Err, IfOk, if◌then◌else◌, filter_map, find, option_map, is_some, Contains, All, AllPairs}
use Rattle.std.specs.List.{cons_option}
use Rattle.std.proofs.lemmas.Bool.{or_parts, or_cases, true≢false, false≢true}
use Rattle.std.proofs.lemmas.Option.{option_and_then_some}
use Rattle.std.proofs.lemmas.List.Elements.{All-nil, All-cons, All-head, All-tail}
use Rattle.std.proofs.lemmas.List.Kept.{AllPairs-cons}
use Rattle.std.proofs.lemmas.List.Sorted.{IsPermutation-refl}
use Rattle.std.proofs.lemmas.Slice.Eq.{bytes_eq-Decides}
use Rattle.net_types.specs.declared.config.SourceFile.{SourceFile}
use Rattle.net_types.specs.Order.{same_text}
use Rattle.outside.specs.Content.{IsListing, path_of, has_slash, plain, below, name_in, names_in, is_folder}
use Rattle.outside.specs.Entries.{content_of, names_folder, entry_name, IsDistinct, has_name, are_distinct}
use Rattle.outside.proofs.PathLemmas.{below-is, below-some}
use Rattle.outside.proofs.EntryLemmas.{names_of-entries}

-- a name without '/' is plain
pub plain-some : (name x : List ℕ) → plain name ≡ Some x → (has_slash name ≡ false) × (name ≡ x)
plain-some name x e = go (has_slash name) refl e where
  go : (v : Bool) → has_slash name ≡ v → (if v then None else Some name) ≡ Some x → (has_slash name ≡ false) × (name ≡ x)
  go true is e = absurd (let f : ⊥ = cc in f)
  go false is e = (is, cc)

-- the name of a path in a folder
pub name_in-is : (folder path name : List ℕ) → name_in folder path ≡ Some name → (has_slash name ≡ false) × (path ≡ path_of folder name)
name_in-is folder path name e = option_and_then_some plain (below folder path) name e (λ rest is p.
    let q = plain-some rest name p in
    (rw q.1 at q.0, below-is folder path rest is ∙ ap (path_of folder) q.1))

pub name_in-some : (folder path name : List ℕ) → has_slash name ≡ false → path ≡ path_of folder name → name_in folder path ≡ Some name
name_in-some folder path name s e = rw (below-some folder path name e, s) refl

-- an element of a list is the first or a later one
pub Contains-here : {X : Type 0} (x : X) (xs : List X) → Contains (x ∷ xs) x
Contains-here x xs = (0, omega arith, refl)

pub Contains-there : {X : Type 0} (y x : X) (xs : List X) → Contains xs x → Contains (y ∷ xs) x
Contains-there y x xs c = (suc c.0, (let l : c.0 < length xs = c.1 in omega arith), c.2)

pub Contains-cases : {X : Type 0} (y x : X) (xs : List X) → Contains (y ∷ xs) x → (y ≡ x) ⊎ Contains xs x
Contains-cases {X} y x xs c = go c.0 c.1 c.2 where
  go : (k : ℕ) → k < length (y ∷ xs) → get_or (y ∷ xs) k x ≡ x → (y ≡ x) ⊎ Contains xs x
  go zero l e = inl e
  go (suc k) l e = inr (k, omega arith, e)

pub Contains-cons_option : {X : Type 0} (o : Option X) (x : X) (xs : List X) → Contains xs x → Contains (cons_option o xs) x
Contains-cons_option None x xs c = c
Contains-cons_option (Some y) x xs c = Contains-there y x xs c

-- the bytes at a path in a list of files
abbrev pub lookup : List (List ℕ × List ℕ) → List ℕ → Option (List ℕ)
lookup files path = option_map (λ file. file.1) (find (λ file. same_text file.0 path) files)

pub lookup-here : (f : List ℕ × List ℕ) (fs : List (List ℕ × List ℕ)) (path : List ℕ) → f.0 ≡ path → is_some (lookup (f ∷ fs) path) ≡ true
lookup-here f fs path e = rw ((bytes_eq-Decides f.0 path).1 e) refl

pub lookup-there : (f : List ℕ × List ℕ) (fs : List (List ℕ × List ℕ)) (path : List ℕ) → is_some (lookup fs path) ≡ true → is_some (lookup (f ∷ fs) path) ≡ true
lookup-there f fs path h = go (same_text f.0 path) where
  go : (v : Bool) → is_some (option_map (λ file. file.1) (cond v (Some f) (find (λ file. same_text file.0 path) fs))) ≡ true
  go true = refl
  go false = h

-- each name that is listed is that of a file
pub names_sound : (files : List (List ℕ × List ℕ)) (folder name : List ℕ) → Contains (filter_map (λ file. name_in folder file.0) files) name → (has_slash name ≡ false) × (is_some (lookup files (path_of folder name)) ≡ true)
names_sound [] folder name c = absurd (let l : c.0 < 0 = c.1 in omega arith)
names_sound (f ∷ fs) folder name c = go (names_sound fs folder name) (name_in folder f.0) refl c where
  go : (Contains (filter_map (λ file. name_in folder file.0) fs) name → (has_slash name ≡ false) × (is_some (lookup fs (path_of folder name)) ≡ true)) → (o : Option (List ℕ)) → name_in folder f.0 ≡ o → Contains (cons_option o (filter_map (λ file. name_in folder file.0) fs)) name → (has_slash name ≡ false) × (is_some (lookup (f ∷ fs) (path_of folder name)) ≡ true)
  go rest None is c = let r = rest c in (r.0, lookup-there f fs (path_of folder name) r.1)
  go rest (Some y) is c = elim (Contains-cases y name (filter_map (λ file. name_in folder file.0) fs) c) [
    | inl e ↦ (let q = name_in-is folder f.0 y is in (rw e at q.0, lookup-here f fs (path_of folder name) (q.1 ∙ ap (path_of folder) e)))
    | inr d ↦ (let r = rest d in (r.0, lookup-there f fs (path_of folder name) r.1))
  ]

-- each file of the folder is listed
pub names_complete : (files : List (List ℕ × List ℕ)) (folder name : List ℕ) → has_slash name ≡ false → is_some (lookup files (path_of folder name)) ≡ true → Contains (filter_map (λ file. name_in folder file.0) files) name
names_complete [] folder name s h = absurd (let f : ⊥ = cc in f)
names_complete (f ∷ fs) folder name s h = go (names_complete fs folder name s) (same_text f.0 (path_of folder name)) refl h where
  go : (is_some (lookup fs (path_of folder name)) ≡ true → Contains (filter_map (λ file. name_in folder file.0) fs) name) → (v : Bool) → same_text f.0 (path_of folder name) ≡ v → is_some (option_map (λ file. file.1) (cond v (Some f) (find (λ file. same_text file.0 (path_of folder name)) fs))) ≡ true → Contains (filter_map (λ file. name_in folder file.0) (f ∷ fs)) name
  go rest true is h = rw (name_in-some folder f.0 name s ((bytes_eq-Decides f.0 (path_of folder name)).0 is)) (Contains-here name (filter_map (λ file. name_in folder file.0) fs))
  go rest false is h = Contains-cons_option (name_in folder f.0) name (filter_map (λ file. name_in folder file.0) fs) (rest h)

-- pairs of elements, first by first
pub AllPairs-head : {X : Type 0} (R : X → X → Type 0) (x : X) (xs : List X) → AllPairs R (x ∷ xs) → All (R x) xs
AllPairs-head R x xs p = λ k d l. p 0 (suc k) d (omega arith) (omega arith)

pub AllPairs-tail : {X : Type 0} (R : X → X → Type 0) (x : X) (xs : List X) → AllPairs R (x ∷ xs) → AllPairs R xs
AllPairs-tail R x xs p = λ i j d l m. p (suc i) (suc j) d (omega arith) (omega arith)

pub All-filter_map : {X Y : Type 0} (P : X → Type 0) (Q : Y → Type 0) (h : X → Option Y) → ((x : X) (a : Y) → P x → h x ≡ Some a → Q a) → (xs : List X) → All P xs → All Q (filter_map h xs)
All-filter_map P Q h step [] p = All-nil Q
All-filter_map {X} {Y} P Q h step (x ∷ xs) p = go (All-filter_map P Q h step xs (All-tail P x xs p)) (h x) refl where
  go : All Q (filter_map h xs) → (o : Option Y) → h x ≡ o → All Q (cons_option o (filter_map h xs))
  go rest None is = rest
  go rest (Some a) is = All-cons Q a (filter_map h xs) (step x a (All-head P x xs p) is) rest

pub AllPairs-filter_map : {X Y : Type 0} (R : X → X → Type 0) (S : Y → Y → Type 0) (h : X → Option Y) → ((x y : X) (a b : Y) → R x y → h x ≡ Some a → h y ≡ Some b → S a b) → (xs : List X) → AllPairs R xs → AllPairs S (filter_map h xs)
AllPairs-filter_map R S h step [] p = λ i j d l m. absurd (omega arith)
AllPairs-filter_map {X} {Y} R S h step (x ∷ xs) p = go (AllPairs-filter_map R S h step xs (AllPairs-tail R x xs p)) (h x) refl where
  go : AllPairs S (filter_map h xs) → (o : Option Y) → h x ≡ o → AllPairs S (cons_option o (filter_map h xs))
  go rest None is = rest
  go rest (Some a) is = AllPairs-cons S a (filter_map h xs) (All-filter_map (R x) (S a) h (λ y b r f. step x y a b r is f) xs (AllPairs-head R x xs p)) rest

-- the name of an entry in a folder tells its path
pub entry_name-is : (folder : List ℕ) (entry : SourceFile) (name : List ℕ) → entry_name folder entry ≡ Some name → entry.name ≡ path_of folder name
entry_name-is folder entry name e = go (names_folder entry.name) e where
  go : (v : Bool) → (if v then None else name_in folder entry.name) ≡ Some name → entry.name ≡ path_of folder name
  go true f = absurd (let g : ⊥ = cc in g)
  go false f = (name_in-is folder entry.name name f).1

-- entries with distinct names have distinct names in a folder
pub entry_names-once : (folder : List ℕ) (entries : List SourceFile) → IsDistinct entries → AllPairs (λ a b. a ≢ b) (filter_map (entry_name folder) entries)
entry_names-once folder entries p = AllPairs-filter_map (λ x y. x.name ≢ y.name) (λ a b. a ≢ b) (entry_name folder) (λ x y a b apart ex ey same. apart (entry_name-is folder x a ex ∙ ap (path_of folder) same ∙ sym (entry_name-is folder y b ey))) entries p

-- the names, entry by entry, are a listing
pub listing_of-entries : (entries : List SourceFile) (folder : List ℕ) (names : List (List ℕ)) → IsDistinct entries → is_folder (content_of entries) folder ≡ true → names ≡ filter_map (entry_name folder) entries → IsListing (content_of entries) folder names
listing_of-entries entries folder names p there is =
    let same : names ≡ names_in (content_of entries) folder = is ∙ sym (names_of-entries entries folder) in
    record {
      there = there;
      each = λ name. rw same (
        (λ c. let r = names_sound (content_of entries).files folder name c in record { no_slash = r.0; file = r.1 }),
        (λ q. names_complete (content_of entries).files folder name q.no_slash q.file),
      );
      once = rw is (entry_names-once folder entries p);
      same = rw same (IsPermutation-refl (names_in (content_of entries) folder));
    }

-- the same of an answer
pub listing_of-answer : {E : Type 0} (r : Result (List (List ℕ)) E) (entries : List SourceFile) (folder : List ℕ) → IsDistinct entries → is_folder (content_of entries) folder ≡ true → IfOk r (λ names. names ≡ filter_map (entry_name folder) entries) → IfOk r (λ names. IsListing (content_of entries) folder names)
listing_of-answer (Ok names) entries folder p there is = listing_of-entries entries folder names p there is
listing_of-answer (Err e) entries folder p there is = tt

pub names_of-answer : {E : Type 0} (r : Result (List (List ℕ)) E) (entries : List SourceFile) (folder : List ℕ) → IfOk r (λ names. names ≡ filter_map (entry_name folder) entries) → IfOk r (λ names. names ≡ names_in (content_of entries) folder)
names_of-answer (Ok names) entries folder is = is ∙ sym (names_of-entries entries folder)
names_of-answer (Err e) entries folder is = tt

-- the test of distinct names
pub has_name-none : (name : List ℕ) (entries : List SourceFile) → has_name name entries ≡ false → All (λ entry. name ≢ entry.name) entries
has_name-none name [] h = All-nil (λ (entry : SourceFile). name ≢ entry.name)
has_name-none name (e ∷ es) h =
    let q = or_parts (same_text e.name name) (has_name name es) h in
    All-cons (λ entry. name ≢ entry.name) e es (λ same. true≢false (sym ((bytes_eq-Decides e.name name).1 (sym same)) ∙ q.0)) (has_name-none name es q.1)

pub has_name-some : (name : List ℕ) (entries : List SourceFile) → has_name name entries ≡ true → All (λ entry. name ≢ entry.name) entries → ⊥
has_name-some name [] h all = false≢true h
has_name-some name (e ∷ es) h all = elim (or_cases (same_text e.name name) (has_name name es) h) [
  | inl q ↦ All-head (λ entry. name ≢ entry.name) e es all (sym ((bytes_eq-Decides e.name name).0 q))
  | inr q ↦ has_name-some name es q (All-tail (λ entry. name ≢ entry.name) e es all)
]

pub are_distinct-true : (entries : List SourceFile) → are_distinct entries ≡ true → IsDistinct entries
are_distinct-true [] h = λ i j d l m. absurd (omega arith)
are_distinct-true (e ∷ es) h = go (are_distinct-true es) (has_name e.name es) refl h where
  go : (are_distinct es ≡ true → IsDistinct es) → (v : Bool) → has_name e.name es ≡ v → (if v then false else are_distinct es) ≡ true → IsDistinct (e ∷ es)
  go rest true is h = absurd (false≢true h)
  go rest false is h = AllPairs-cons (λ a b. a.name ≢ b.name) e es (has_name-none e.name es is) (rest h)

pub true-are_distinct : (entries : List SourceFile) → IsDistinct entries → are_distinct entries ≡ true
true-are_distinct [] p = refl
true-are_distinct (e ∷ es) p = go (true-are_distinct es (AllPairs-tail (λ a b. a.name ≢ b.name) e es p)) (has_name e.name es) refl where
  go : are_distinct es ≡ true → (v : Bool) → has_name e.name es ≡ v → (if v then false else are_distinct es) ≡ true
  go rest true is = absurd (has_name-some e.name es is (AllPairs-head (λ a b. a.name ≢ b.name) e es p))
  go rest false is = rest
