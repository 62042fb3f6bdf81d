-- The configuration files of a folder, and what a shelf's content holds of them.
use Rattle.std.specs.Prelude.{ℕ, nat_lt, nat_eq, Bool, List as Seq, [], ◌∷◌, ◌++◌, length, codes, filter, Result, Ok, Err, if◌then◌else◌}
use Rattle.std.specs.Option.{ok_or}
use Rattle.std.specs.List.{ends_with}
use Rattle.net_types.specs.declared.config.SourceFile.{SourceFile}
use Rattle.net_types.specs.declared.refusals.BundleRefusal.TheVariants.{TooManyFiles}
use Rattle.net_types.specs.Order.{same_text, text_before}
use Rattle.topology.specs.Ascending.{ascending}
use Rattle.outside.specs.Content.{Content, path_of, names_in, is_folder, first_bytes_at}
use Rattle.commands.specs.declared.refusals.Bundle.{Bundle}
use Rattle.commands.specs.declared.refusals.Refusal.{Refusal}
use Rattle.commands.specs.declared.refusals.Refusal.TheVariants as Cause

-- the name of a configuration file
abbrev pub is_config : Seq ℕ → Bool
is_config name = ends_with nat_eq name (codes ".conf")

-- the names of the configuration files among these, in byte order, each once
abbrev pub config_names : Seq (Seq ℕ) → Seq (Seq ℕ)
config_names names = ascending same_text text_before (filter is_config names)

-- how much of a file is read: one byte more than a file may have
abbrev pub read_limit : ℕ
read_limit = 262145

-- what is at a path, unless nothing is
unfoldable pub bytes_of : Content → Seq ℕ → Result (Seq ℕ) Refusal
bytes_of content path = ok_or (first_bytes_at content path read_limit) (Cause.NoPath path)

-- one file in front of others, unless one of both is not there
abbrev pub in_front : Seq ℕ → Result (Seq ℕ) Refusal → Result (Seq SourceFile) Refusal → Result (Seq SourceFile) Refusal
in_front name (Err refusal) files = Err refusal
in_front name (Ok text) (Err refusal) = Err refusal
in_front name (Ok text) (Ok files) = Ok (record { name = name; text = text } ∷ files)

-- the files of these names in a folder
abbrev pub files_of : Content → Seq ℕ → Seq (Seq ℕ) → Result (Seq SourceFile) Refusal
files_of content folder [] = Ok []
files_of content folder (name ∷ names) = in_front name (bytes_of content (path_of folder name)) (files_of content folder names)

-- files that are read, and those behind them
abbrev pub after_files : Seq SourceFile → Result (Seq SourceFile) Refusal → Result (Seq SourceFile) Refusal
after_files before (Ok files) = Ok (before ++ files)
after_files before (Err refusal) = Err refusal

-- the same, unless there are too many
abbrev pub few_files_of : Content → Bundle → Seq ℕ → Seq (Seq ℕ) → Result (Seq SourceFile) Refusal
few_files_of content bundle folder names =
    if nat_lt 64 (length names) then Err (Cause.Bundle bundle [] (TooManyFiles (length names)))
    else files_of content folder names

-- the configuration files of a bundle's folder, or the refusal of the first step that refuses: the folder is
-- not there, it has too many of them, or one is not there
unfoldable pub folder_of : Content → Bundle → Seq ℕ → Result (Seq SourceFile) Refusal
folder_of content bundle folder =
    if is_folder content folder then few_files_of content bundle folder (config_names (names_in content folder))
    else Err (Cause.NoPath folder)
