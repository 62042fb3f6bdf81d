-- The entries of a shelf in memory, and the content that they make.
use Rattle.std.specs.Prelude.{◌≢◌, ℕ, Bool, false, true, List, [], ◌∷◌, Option, None, Some, nat_eq, AllPairs, filter_map, length, take, ◌-◌, if◌then◌else◌, is_some}
use Rattle.std.specs.List.{ends_with, list_any}
use Rattle.net_types.specs.declared.config.SourceFile.{SourceFile}
use Rattle.net_types.specs.Order.{same_text}
use Rattle.outside.specs.Content.{Content, name_in, below}

-- the name of an entry ends in '/': it is no file, and makes the folder that is named before it be there
abbrev pub names_folder : List ℕ → Bool
names_folder name = ends_with nat_eq name (47 ∷ [])

-- the folder that an entry names
abbrev pub folder_of : SourceFile → Option (List ℕ)
folder_of entry = if names_folder entry.name then Some (take (length entry.name - 1) entry.name) else None

-- the file that an entry is, by its path
abbrev pub file_of : SourceFile → Option (List ℕ × List ℕ)
file_of entry = if names_folder entry.name then None else Some (entry.name, entry.text)

-- the content that the entries make
abbrev pub content_of : List SourceFile → Content
content_of entries = record { folders = filter_map folder_of entries; files = filter_map file_of entries }

-- no two entries have the same name
abbrev pub IsDistinct : List SourceFile → Type 0
IsDistinct entries = AllPairs (λ a b. a.name ≢ b.name) entries

-- The same facts entry by entry, for the code.

-- an entry has a name
abbrev pub has_name : List ℕ → List SourceFile → Bool
has_name name entries = list_any (λ entry. same_text entry.name name) entries

-- no two entries have the same name, as a test
abbrev pub are_distinct : List SourceFile → Bool
are_distinct [] = true
are_distinct (entry ∷ entries) = if has_name entry.name entries then false else are_distinct entries

-- the name that an entry has in a folder, where it is a file of the folder itself
abbrev pub entry_name : List ℕ → SourceFile → Option (List ℕ)
entry_name folder entry = if names_folder entry.name then None else name_in folder entry.name

-- an entry makes a folder be there
abbrev pub makes_folder : List ℕ → SourceFile → Bool
makes_folder folder entry =
    if names_folder entry.name then same_text (take (length entry.name - 1) entry.name) folder
    else is_some (below folder entry.name)

-- an entry is the file at a path
abbrev pub is_file_at : List ℕ → SourceFile → Bool
is_file_at path entry = if names_folder entry.name then false else same_text entry.name path
