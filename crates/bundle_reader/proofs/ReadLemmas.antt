-- The files are read one after the other.
use Rattle.std.proofs.Common.{ℕ, suc, ◌≡◌, ◌+◌, ◌<◌, ◌++◌, List, [], ◌∷◌, length, drop, get_or, drop-cons, add-one, append_assoc, ◌∙◌, Result, Ok, Err, refl, ap, sym}
use Rattle.net_types.specs.declared.config.RouterConfig.{RouterConfig}
use Rattle.net_types.specs.declared.config.SourceFile.{SourceFile}
use Rattle.net_types.specs.declared.refusals.ReadRefusal.{ReadRefusal}
use Rattle.net_types.specs.declared.refusals.BundleRefusal.{BundleRefusal}
use Rattle.frr_reader.specs.Reading.{reading}
use Rattle.bundle_reader.specs.Bundle.{before, configs_of}

-- configurations behind others
abbrev pub behind : List RouterConfig → Result (List RouterConfig) BundleRefusal → Result (List RouterConfig) BundleRefusal
behind done (Ok configs) = Ok (done ++ configs)
behind done (Err refusal) = Err refusal

behind-before : (at : ℕ) (done : List RouterConfig) (config : RouterConfig) (read : Result RouterConfig ReadRefusal) (later : Result (List RouterConfig) BundleRefusal) → read ≡ Ok config → behind (done ++ config ∷ []) later ≡ behind done (before at read later)
behind-before at done config read (Ok configs) e = rw e (ap (λ xs. Ok xs) (append_assoc done (config ∷ []) configs))
behind-before at done config read (Err refusal) e = rw e refl

-- one more file is read
pub next_file : (files : List SourceFile) (at : ℕ) (file : SourceFile) (config : RouterConfig) (done now : List RouterConfig) (whole : Result (List RouterConfig) BundleRefusal) → at < length files → file ≡ get_or files at file → reading file.text ≡ Ok config → now ≡ done ++ config ∷ [] → behind done (configs_of at (drop at files)) ≡ whole → behind now (configs_of (at + 1) (drop (at + 1) files)) ≡ whole
next_file files at file config done now whole h is r e i =
    let cut : drop at files ≡ file ∷ drop (at + 1) files = rw add-one (drop-cons files at file h ∙ ap (λ f. f ∷ drop (suc at) files) (sym is)) in
    rw e (behind-before at done config (reading file.text) (configs_of (at + 1) (drop (at + 1) files)) r ∙ ap (λ fs. behind done (configs_of at fs)) (sym cut) ∙ i)
