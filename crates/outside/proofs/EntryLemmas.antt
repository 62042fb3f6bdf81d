-- The content that entries make, entry by entry.
use Rattle.std.proofs.Common.{ℕ, ◌≡◌, ◌-◌, Bool, true, false, cond, List, [], ◌∷◌, ◌||◌, Some, refl, length, take}
use Rattle.std.specs.Prelude.{filter_map, find, option_map, is_some}
use Rattle.std.specs.List.{list_any}
use Rattle.net_types.specs.declared.config.SourceFile.{SourceFile}
use Rattle.net_types.specs.Order.{same_text}
use Rattle.outside.specs.Content.{names_in, is_folder, bytes_at, below}
use Rattle.outside.specs.Entries.{content_of, folder_of, file_of, names_folder, entry_name, makes_folder, is_file_at}

-- the names in a folder
pub names_of-entries : (entries : List SourceFile) (folder : List ℕ) → names_in (content_of entries) folder ≡ filter_map (entry_name folder) entries
names_of-entries [] folder = refl
names_of-entries (e ∷ es) folder = go (names_of-entries es folder) (names_folder e.name) refl where
  go : names_in (content_of es) folder ≡ filter_map (entry_name folder) es → (v : Bool) → names_folder e.name ≡ v → names_in (content_of (e ∷ es)) folder ≡ filter_map (entry_name folder) (e ∷ es)
  go i true is = rw is i
  go i false is = rw (is, i)

or_assoc : (a b c : Bool) → ((a || b) || c) ≡ (a || (b || c))
or_assoc true b c = refl
or_assoc false b c = refl

or_swap : (a b c : Bool) → (a || (b || c)) ≡ (b || (a || c))
or_swap true true c = refl
or_swap true false c = refl
or_swap false b c = refl

-- whether a folder is there
pub is_folder-entries : (entries : List SourceFile) (folder : List ℕ) → is_folder (content_of entries) folder ≡ list_any (makes_folder folder) entries
is_folder-entries [] folder = refl
is_folder-entries (e ∷ es) folder = go (is_folder-entries es folder) (names_folder e.name) refl where
  go : is_folder (content_of es) folder ≡ list_any (makes_folder folder) es → (v : Bool) → names_folder e.name ≡ v → is_folder (content_of (e ∷ es)) folder ≡ list_any (makes_folder folder) (e ∷ es)
  go i true is = rw (is, ← i) (or_assoc (same_text (take (length e.name - 1) e.name) folder) (list_any (λ named. same_text named folder) (filter_map folder_of es)) (list_any (λ file. is_some (below folder file.0)) (filter_map file_of es)))
  go i false is = rw (is, ← i) (or_swap (list_any (λ named. same_text named folder) (filter_map folder_of es)) (is_some (below folder e.name)) (list_any (λ file. is_some (below folder file.0)) (filter_map file_of es)))

-- the bytes at a path
pub bytes_at-entries : (entries : List SourceFile) (path : List ℕ) → bytes_at (content_of entries) path ≡ option_map (λ e. e.text) (find (is_file_at path) entries)
bytes_at-entries [] path = refl
bytes_at-entries (e ∷ es) path = go (bytes_at-entries es path) (names_folder e.name) refl where
  go : bytes_at (content_of es) path ≡ option_map (λ e. e.text) (find (is_file_at path) es) → (v : Bool) → names_folder e.name ≡ v → bytes_at (content_of (e ∷ es)) path ≡ option_map (λ e. e.text) (find (is_file_at path) (e ∷ es))
  go i true is = rw is i
  go i false is = rw is (pick i (same_text e.name path)) where
    pick : bytes_at (content_of es) path ≡ option_map (λ e. e.text) (find (is_file_at path) es) → (v : Bool) → option_map (λ file. file.1) (cond v (Some (e.name, e.text)) (find (λ file. same_text file.0 path) (filter_map file_of es))) ≡ option_map (λ e. e.text) (cond v (Some e) (find (is_file_at path) es))
    pick i true = refl
    pick i false = i
