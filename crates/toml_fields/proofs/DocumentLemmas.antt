-- What a TOML file says, from what `toml` says of its text.
use Rattle.std.proofs.Common.{ℕ, ◌≡◌, List, Some, None, Ok, Err, Bool, true, false, if◌then◌else◌, refl}
use Rattle.std.specs.Str.{is_utf8, IsUtf8}
use Rattle.std.proofs.lemmas.Str.{is_utf8-from_IsUtf8, IsUtf8-from_is_utf8}
use Rattle.toml.specs.Data.{Members}
use Rattle.toml.specs.Parse.{parse_document}
use Rattle.net_types.specs.declared.refusals.FormRefusal.TheVariants.{NotToml}
use Rattle.toml_fields.specs.Document.{or_no_toml, short_document_of}

pub short_document_of-some : (text : List ℕ) (top : Members) → IsUtf8 text → parse_document text ≡ Some top → short_document_of text ≡ Ok top
short_document_of-some text top utf8 is = rw (is_utf8-from_IsUtf8 text utf8, is) refl

pub short_document_of-none : (text : List ℕ) → (IsUtf8 text → parse_document text ≡ None) → short_document_of text ≡ Err NotToml
short_document_of-none text none = go (is_utf8 text) refl where
  go : (b : Bool) → is_utf8 text ≡ b → (if b then or_no_toml (parse_document text) else Err NotToml) ≡ Err NotToml
  go true e = rw (none (IsUtf8-from_is_utf8 text e)) refl
  go false e = refl
