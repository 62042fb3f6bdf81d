-- The value of a body, and its files.
use Rattle.std.proofs.Common.{◌≡◌, ℕ, Bool, true, false, List, None, Some, ap, refl, ◌∙◌}
use Rattle.std.specs.Prelude.{IsUtf8, if◌then◌else◌}
use Rattle.std.specs.Str.{is_utf8}
use Rattle.std.proofs.lemmas.Str.{is_utf8-from_IsUtf8, IsUtf8-from_is_utf8}
use Rattle.serde_json.specs.Data.{Data}
use Rattle.serde_json.specs.Read.{read}
use Rattle.desk_requests.specs.Bodies.{data_of}

pub data_is : (text : List ℕ) (d : Data) → IsUtf8 text → read text ≡ Some d → data_of text ≡ Some d
data_is text d h e = ap (λ b. if b then read text else None) (is_utf8-from_IsUtf8 text h) ∙ e

data_at : (text : List ℕ) (b : Bool) → is_utf8 text ≡ b → (IsUtf8 text → read text ≡ None) → (if b then read text else None) ≡ None
data_at text true e h = h (IsUtf8-from_is_utf8 text e)
data_at text false e h = refl

pub data_none : (text : List ℕ) → (IsUtf8 text → read text ≡ None) → data_of text ≡ None
data_none text h = data_at text (is_utf8 text) refl h
