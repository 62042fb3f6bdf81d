-- What the files of a folder say, and which of them is the first that is refused.
use Rattle.std.proofs.Common.{ℕ, zero, suc, ◌≡◌, ◌≢◌, ◌+◌, ◌<◌, List, [], ◌∷◌, Some, None, slice_get, Result, Ok, Err, refl, ap, sym, subst, ◌∙◌, arith}
use Rattle.std.proofs.lemmas.Bool.{false≢true}
use Rattle.net_types.specs.declared.config.RouterConfig.{RouterConfig}
use Rattle.net_types.specs.declared.config.SourceFile.{SourceFile}
use Rattle.net_types.specs.declared.refusals.ReadRefusal.{ReadRefusal}
use Rattle.net_types.specs.declared.refusals.ReadRefusal.TheVariants.{NoMemory as NoMemoryInFile}
use Rattle.net_types.specs.declared.refusals.BundleRefusal.{BundleRefusal}
use Rattle.net_types.specs.declared.refusals.BundleRefusal.TheVariants.{TooManyFiles, TooLarge, InFile, InNet, NoMemory}
use Rattle.net_types.specs.NetValue.{NetValue}
use Rattle.frr_reader.specs.Reading.{reading}
use Rattle.frr_reader.proofs.FirstRefusalLemmas.{read_once}
use Rattle.bundle_reader.specs.Bundle.{before, configs_of, BundleAnswers}
use Rattle.topology.specs.Resolved.{AreAlike}
use Rattle.bundle_reader.specs.Files.{AreSaid, IsFirstRefused, IsRefusalOf, IsNetAnswer, IsAnswerOn}

inside : {A : Type 0} (a b : A) → Some a ≡ Some b → a ≡ b
inside a b e = cc

AreAlike-cons : {A B : Type 0} (R : A → B → Type 0) (x : A) (y : B) (xs : List A) (ys : List B) → R x y → AreAlike R xs ys → AreAlike R (x ∷ xs) (y ∷ ys)
AreAlike-cons {A = A} {B = B} R x y xs ys r rest = record { long = ap suc rest.long; each = each } where
  each : (k : ℕ) (a : A) (b : B) → slice_get (x ∷ xs) k ≡ Some a → slice_get (y ∷ ys) k ≡ Some b → R a b
  each zero a b e f = subst (λ (c : B). R a c) (inside y b f) (subst (λ (c : A). R c y) (inside x a e) r)
  each (suc k) a b e f = rest.each k a b e f

no_file : {R : Type 0} (x : SourceFile) → None ≡ Some x → R
no_file x e = absurd (false≢true cc)

same_configs : (a b : List RouterConfig) → (let r : Result (List RouterConfig) BundleRefusal = Ok a in r) ≡ Ok b → a ≡ b
same_configs a b e = cc

same_refusal : (a b : BundleRefusal) → (let r : Result (List RouterConfig) BundleRefusal = Err a in r) ≡ Err b → a ≡ b
same_refusal a b e = cc

apart : {R : Type 0} (r : BundleRefusal) (a : List RouterConfig) → (let r : Result (List RouterConfig) BundleRefusal = Err r in r) ≡ Ok a → R
apart r a e = absurd (false≢true cc)

apart_too : {R : Type 0} (r : BundleRefusal) (a : List RouterConfig) → (let r : Result (List RouterConfig) BundleRefusal = Ok a in r) ≡ Err r → R
apart_too r a e = absurd (false≢true cc)

abbrev Says : SourceFile → RouterConfig → Type 0
Says file config = reading file.text ≡ Ok config

pub said : (files : List SourceFile) (from : ℕ) (configs : List RouterConfig) → configs_of from files ≡ Ok configs → AreSaid files configs
said [] from configs e = subst (λ (cs : List RouterConfig). AreSaid [] cs) (same_configs [] configs e) (record { long = refl; each = λ k file config f g. no_file file f })
said (file ∷ files) from configs e = go (said files (from + 1)) (reading file.text) refl (configs_of (from + 1) files) refl e where
  go : ((cs : List RouterConfig) → configs_of (from + 1) files ≡ Ok cs → AreSaid files cs) → (r : Result RouterConfig ReadRefusal) → reading file.text ≡ r → (later : Result (List RouterConfig) BundleRefusal) → configs_of (from + 1) files ≡ later → before from r later ≡ Ok configs → AreSaid (file ∷ files) configs
  go rest (Err refusal) f later g h = apart (InFile from refusal) configs h
  go rest (Ok config) f (Err refusal) g h = apart refusal configs h
  go rest (Ok config) f (Ok cs) g h = subst (λ (all : List RouterConfig). AreSaid (file ∷ files) all) (same_configs (config ∷ cs) configs h) (AreAlike-cons Says file config files cs f (rest cs g))

-- a refusal of files from this number on names the first that is refused
record IsRefusedAt (files : List SourceFile) (from : ℕ) (r : BundleRefusal) : Type 0 where
  k : ℕ
  refusal : ReadRefusal
  is : r ≡ InFile (from + k) refusal
  first : IsFirstRefused files k refusal

not_memory : (text : List ℕ) (refusal : ReadRefusal) → reading text ≡ Err refusal → refusal ≢ NoMemoryInFile
not_memory text refusal e n = (read_once text).no_memory (((read_once text).ref NoMemoryInFile).0 (e ∙ ap (λ (r : ReadRefusal). Err r) n))

refused_at : (files : List SourceFile) (from : ℕ) (r : BundleRefusal) → configs_of from files ≡ Err r → IsRefusedAt files from r
refused_at [] from r e = apart_too r [] e
refused_at (file ∷ files) from r e = go (refused_at files (from + 1) r) (reading file.text) refl (configs_of (from + 1) files) refl e where
  none_before : (k : ℕ) (other : SourceFile) → k < 0 → slice_get (file ∷ files) k ≡ Some other → (config : RouterConfig) × (reading other.text ≡ Ok config)
  none_before k other l f = absurd (omega arith)

  later_too : (config : RouterConfig) → reading file.text ≡ Ok config → IsRefusedAt files (from + 1) r → IsRefusedAt (file ∷ files) from r
  later_too config f i = record {
    k = suc i.k;
    refusal = i.refusal;
    is = i.is ∙ ap (λ (n : ℕ). InFile n i.refusal) (let n : from + 1 + i.k ≡ from + suc i.k = omega arith in n);
    first = record { file = i.first.file; there = i.first.there; refused = i.first.refused; before = earlier; cause = i.first.cause };
  } where
    earlier : (k : ℕ) (other : SourceFile) → k < suc i.k → slice_get (file ∷ files) k ≡ Some other → (config : RouterConfig) × (reading other.text ≡ Ok config)
    earlier zero other l g = (config, ap (λ (x : SourceFile). reading x.text) (sym (inside file other g)) ∙ f)
    earlier (suc k) other l g = i.first.before k other (omega arith) g

  go : (configs_of (from + 1) files ≡ Err r → IsRefusedAt files (from + 1) r) → (read : Result RouterConfig ReadRefusal) → reading file.text ≡ read → (later : Result (List RouterConfig) BundleRefusal) → configs_of (from + 1) files ≡ later → before from read later ≡ Err r → IsRefusedAt (file ∷ files) from r
  go rest (Err refusal) f later g h = record {
    k = 0;
    refusal = refusal;
    is = sym (same_refusal (InFile from refusal) r h) ∙ ap (λ (n : ℕ). InFile n refusal) (let n : from ≡ from + 0 = omega arith in n);
    first = record { file = file; there = refl; refused = f; before = none_before; cause = not_memory file.text refusal f };
  }
  go rest (Ok config) f (Ok cs) g h = apart_too r (config ∷ cs) h
  go rest (Ok config) f (Err refusal) g h = later_too config f (rest (g ∙ ap (λ (x : BundleRefusal). Err x) (same_refusal refusal r h)))

refused_from : (files : List SourceFile) (r : BundleRefusal) → configs_of 0 files ≡ Err r → IsRefusalOf files r
refused_from files r e =
    let i = refused_at files 0 r e in
    let is : r ≡ InFile i.k i.refusal = i.is ∙ ap (λ (n : ℕ). InFile n i.refusal) (let n : 0 + i.k ≡ i.k = omega arith in n) in
    subst (λ (x : BundleRefusal). IsRefusalOf files x) (sym is) i.first

pub IsRefusalOf-answer : (files : List SourceFile) (r : BundleRefusal) → BundleAnswers (configs_of 0 files) (Err r) → IsRefusalOf files r
IsRefusalOf-answer files (TooManyFiles n) e = refused_from files (TooManyFiles n) e
IsRefusalOf-answer files (TooLarge n) e = refused_from files (TooLarge n) e
IsRefusalOf-answer files (InFile at refusal) e = refused_from files (InFile at refusal) e
IsRefusalOf-answer files (InNet refusal) e = refused_from files (InNet refusal) e
IsRefusalOf-answer files NoMemory e = tt

-- what is answered on the configurations is answered on the files that say them
pub IsAnswerOn-said : (files : List SourceFile) (configs : List RouterConfig) (result : Result NetValue BundleRefusal) → configs_of 0 files ≡ Ok configs → IsNetAnswer configs result → IsAnswerOn files result
IsAnswerOn-said files configs (Ok net) e h = (configs, said files 0 configs e, h)
IsAnswerOn-said files configs (Err (TooManyFiles n)) e h = absurd h
IsAnswerOn-said files configs (Err (TooLarge n)) e h = absurd h
IsAnswerOn-said files configs (Err (InFile at refusal)) e h = absurd h
IsAnswerOn-said files configs (Err (InNet refusal)) e h = (configs, said files 0 configs e, h)
IsAnswerOn-said files configs (Err NoMemory) e h = tt
