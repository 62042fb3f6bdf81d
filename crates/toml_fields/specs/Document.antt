-- The top level of a TOML file, or its first refusal: too long, then no TOML in UTF-8.
use Rattle.std.specs.Prelude.{ℕ, ◌≡◌, nat_lt, List as Seq, length, Option, Some, None, Result, Ok, Err, if◌then◌else◌}
use Rattle.std.specs.Str.{is_utf8}
use Rattle.toml.specs.Data.{Members}
use Rattle.toml.specs.Parse.{parse_document}
use Rattle.net_types.specs.declared.refusals.FormRefusal.{FormRefusal}
use Rattle.net_types.specs.declared.refusals.FormRefusal.TheVariants.{TooLong, NotToml, NoMemory}

abbrev pub or_no_toml : Option Members → Result Members FormRefusal
or_no_toml None = Err NotToml
or_no_toml (Some top) = Ok top

abbrev pub short_document_of : Seq ℕ → Result Members FormRefusal
short_document_of text = if is_utf8 text then or_no_toml (parse_document text) else Err NotToml

-- the fields of the top level; a file has at most 262,144 bytes
unfoldable pub document_of : Seq ℕ → Result Members FormRefusal
document_of text = if nat_lt 262144 (length text) then Err TooLong else short_document_of text

-- what is read behind a value, if there is one
abbrev pub then_form : {A B : Type 0} → Result A FormRefusal → (A → Result B FormRefusal) → Result B FormRefusal
then_form (Ok a) next = next a
then_form (Err refusal) next = Err refusal

-- the answer is the value or the refusal that is meant, a value being seen by `view`; memory may be wanting at any time
abbrev pub Shows : {A B : Type 0} → (B → A) → Result A FormRefusal → Result B FormRefusal → Type 0
Shows view meant (Ok b) = meant ≡ Ok (view b)
Shows view meant (Err NoMemory) = Unit {0}
Shows view meant (Err refusal) = meant ≡ Err refusal

-- the answer is the value or the refusal that is meant; memory may be wanting at any time
abbrev pub Answers : {A : Type 0} → Result A FormRefusal → Result A FormRefusal → Type 0
Answers meant (Ok a) = meant ≡ Ok a
Answers meant (Err NoMemory) = Unit {0}
Answers meant (Err refusal) = meant ≡ Err refusal
