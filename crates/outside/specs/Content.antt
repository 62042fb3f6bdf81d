-- What a shelf holds. A path is a folder, '/' and a name.
use Rattle.std.specs.Prelude.{◌≡◌, ◌≢◌, ℕ, ◌==◌, Bool, ◌||◌, false, List, [], ◌∷◌, ◌++◌, Option, None, Some, is_some, IsTrue, take, Contains, AllPairs, IsPermutation, filter_map, find, option_map, option_and_then, if◌then◌else◌, ◌↔◌}
use Rattle.std.specs.List.{list_any}
use Rattle.net_types.specs.Order.{same_text}

-- the folders that are named, and the files: a finite map from path to bytes, as pairs with each path once
pub record Content : Type 0 where
  pub folders : List (List ℕ)
  pub files : List (List ℕ × List ℕ)

-- the path of a file in a folder
abbrev pub path_of : List ℕ → List ℕ → List ℕ
path_of folder name = folder ++ 47 ∷ name

-- a text has a '/'
abbrev pub has_slash : List ℕ → Bool
has_slash text = list_any (λ b. b == 47) text

-- what stands behind a beginning, or none where the text does not begin so
abbrev pub behind : List ℕ → List ℕ → Option (List ℕ)
behind [] text = Some text
behind (b ∷ beginning) [] = None
behind (b ∷ beginning) (c ∷ text) = if c == b then behind beginning text else None

-- what a path has behind a folder and '/', or none where it is not in the folder, at any depth
abbrev pub below : List ℕ → List ℕ → Option (List ℕ)
below folder path = behind (path_of folder []) path

-- a name as it is, or none where it has a '/'
abbrev pub plain : List ℕ → Option (List ℕ)
plain name = if has_slash name then None else Some name

-- the name that a path has in a folder, or none where it is not of the folder itself
abbrev pub name_in : List ℕ → List ℕ → Option (List ℕ)
name_in folder path = option_and_then plain (below folder path)

-- the names of the files in a folder, in the order of the files
abbrev pub names_in : Content → List ℕ → List (List ℕ)
names_in content folder = filter_map (λ file. name_in folder file.0) content.files

-- the bytes of the file at a path, or none where there is no such file
abbrev pub bytes_at : Content → List ℕ → Option (List ℕ)
bytes_at content path = option_map (λ file. file.1) (find (λ file. same_text file.0 path) content.files)

-- what a read of a path gives: the first bytes of its file up to a limit, or none where there is no such file
abbrev pub first_bytes_at : Content → List ℕ → ℕ → Option (List ℕ)
first_bytes_at content path limit = option_map (λ all. take limit all) (bytes_at content path)

-- a folder is there: it is named, or a file lies in it at some depth
abbrev pub is_folder : Content → List ℕ → Bool
is_folder content folder = list_any (λ named. same_text named folder) content.folders ||
    list_any (λ file. is_some (below folder file.0)) content.files

-- a name of a file in a folder: it has no '/', and its path is that of a file
pub record IsNameIn (content : Content) (folder name : List ℕ) : Type 0 where
  pub no_slash : has_slash name ≡ false
  pub file : IsTrue (is_some (bytes_at content (path_of folder name)))

-- a listing of a folder: the folder is there, and the names of its files stand in it, each once, in any order
pub record IsListing (content : Content) (folder : List ℕ) (names : List (List ℕ)) : Type 0 where
  pub there : IsTrue (is_folder content folder)
  pub each : (name : List ℕ) → Contains names name ↔ IsNameIn content folder name
  pub once : AllPairs (λ a b. a ≢ b) names
  pub same : IsPermutation (names_in content folder) names
