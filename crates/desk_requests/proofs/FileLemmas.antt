-- The files of a body: their names are those of hosts, and ascend as the keys of a map do.
use Rattle.std.proofs.Common.{◌≡◌, ◌&&◌, ℕ, Bool, true, false, List, [], ◌∷◌, ◌++◌, append_assoc, Option, None, Some, String, Global, Less, string_bytes, string_cmp, ap, ap₂, refl, ◌∙◌, if◌then◌else◌, option_and_then}
use Rattle.std.specs.List.{list_all, AllByRecursion}
use Rattle.std.proofs.lemmas.List.Elements.{All-cons, All-nil}
use Rattle.std.specs.List.Sorted.{IsStrictlySortedBy}
use Rattle.std.specs.Ordering.{is_lt}
use Rattle.std.specs.Map.{keys_of}
use Rattle.serde_json.specs.Data.{Data, Members, member}
use Rattle.serde_json.specs.Find.{as_str, as_object, get_member}
use Rattle.serde_json.specs.View.{view, members_view}
use Rattle.serde_json.proofs.Views.{Entry}
use Rattle.net_types.specs.Names.{is_host}
use Rattle.net_types.specs.declared.config.SourceFile.{SourceFile}
use Rattle.desk_tables.specs.Order.{text_cmp, after}
use Rattle.review_rules.specs.Judging.{HasHostName}
use Rattle.desk_requests.specs.Bodies.{file_with, with_file, files_in, files_at, behind, AreFiles}

-- one more file behind those that are done
push_more : (done : List SourceFile) (f : SourceFile) (o : Option (List SourceFile)) → behind (done ++ (f ∷ [])) o ≡ behind done (with_file (Some f) o)
push_more done f None = refl
push_more done f (Some fs) = ap Some (append_assoc done (f ∷ []) fs)

pub files_more : (done : List SourceFile) (f : SourceFile) (key : List ℕ) (value : Data) (more : Members) (whole : Option (List SourceFile))
    → Some f ≡ file_with key (as_str value) → behind done (files_in (member key value more)) ≡ whole → behind (done ++ (f ∷ [])) (files_in more) ≡ whole
files_more done f key value more whole e h = push_more done f (files_in more) ∙ ap (λ o. behind done (with_file o (files_in more))) e ∙ h

-- ---- the names ascend

abbrev name_of : SourceFile → List ℕ
name_of f = f.name

abbrev IsAbove : List ℕ → Option (List SourceFile) → Type 0
IsAbove k None = Unit {0}
IsAbove k (Some files) = list_all (after text_cmp name_of k) files ≡ true

above_with : (k key text : List ℕ) (b : Bool) (rest : Option (List SourceFile)) → text_cmp k key ≡ Less → IsAbove k rest → IsAbove k (with_file (if b then Some (record { name = key; text = text }) else None) rest)
above_with k key text false rest less h = tt
above_with k key text true None less h = tt
above_with k key text true (Some files) less h = ap₂ (λ a b. a && b) (ap is_lt less) h

above_more : (k key : List ℕ) (v : Option (List ℕ)) (rest : Option (List SourceFile)) → text_cmp k key ≡ Less → IsAbove k rest → IsAbove k (with_file (file_with key v) rest)
above_more k key None rest less h = tt
above_more k key (Some text) rest less h = above_with k key text (is_host key) rest less h

above : (k : String Global) (es : List Entry) → AllByRecursion (λ y. string_cmp k y ≡ Less) (keys_of es) → IsAbove (string_bytes k) (files_in (members_view es))
above k [] h = refl
above k (e ∷ es) h = above_more (string_bytes k) (string_bytes e.0) (as_str (view e.1)) (files_in (members_view es)) h.0 (above k es h.1)

sound_with : (key text : List ℕ) (b : Bool) (rest : Option (List SourceFile)) → is_host key ≡ b → IsAbove key rest → AreFiles rest → AreFiles (with_file (if b then Some (record { name = key; text = text }) else None) rest)
sound_with key text false rest e a h = tt
sound_with key text true None e a h = tt
sound_with key text true (Some files) e a h = ((a, h.0), All-cons HasHostName (record { name = key; text = text }) files e h.1)

sound_more : (key : List ℕ) (v : Option (List ℕ)) (rest : Option (List SourceFile)) → IsAbove key rest → AreFiles rest → AreFiles (with_file (file_with key v) rest)
sound_more key None rest a h = tt
sound_more key (Some text) rest a h = sound_with key text (is_host key) rest refl a h

-- the files of a map's entries, whose keys are in order
pub files_sound : (es : List Entry) → IsStrictlySortedBy string_cmp (keys_of es) → AreFiles (files_in (members_view es))
unfolding IsStrictlySortedBy
files_sound [] h = (tt, All-nil HasHostName)
files_sound (e ∷ es) h =
    sound_more (string_bytes e.0) (as_str (view e.1)) (files_in (members_view es)) (above e.0 es h.0) (files_sound es h.1)

-- ---- the files at a key

pub files_found : (key : List ℕ) (m : Members) (d : Data) (x : Members) → Some d ≡ get_member key m → Some x ≡ as_object d → files_in x ≡ files_at key m
unfolding files_at
files_found key m d x e f = ap (option_and_then files_in) f ∙ ap (λ o. option_and_then files_in (option_and_then as_object o)) e

pub files_no_object : (key : List ℕ) (m : Members) (d : Data) → Some d ≡ get_member key m → None ≡ as_object d → None ≡ files_at key m
unfolding files_at
files_no_object key m d e f = ap (option_and_then files_in) f ∙ ap (λ o. option_and_then files_in (option_and_then as_object o)) e

pub files_none : (key : List ℕ) (m : Members) → None ≡ get_member key m → None ≡ files_at key m
unfolding files_at
files_none key m e = ap (λ o. option_and_then files_in (option_and_then as_object o)) e
