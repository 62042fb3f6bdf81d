-- What the answer on the files of a folder means, as relations to what each file says.
use Rattle.std.specs.Prelude.{ℕ, ◌≡◌, ◌≢◌, ◌<◌, List, Some, length, Result, Ok, Err, slice_get}
use Rattle.net_types.specs.declared.config.RouterConfig.{RouterConfig}
use Rattle.net_types.specs.declared.config.SourceFile.{SourceFile}
use Rattle.net_types.specs.declared.refusals.NetRefusal.{NetRefusal}
use Rattle.net_types.specs.declared.refusals.NetRefusal.TheVariants.{NoMemory as NoMemoryInNet}
use Rattle.net_types.specs.declared.refusals.ReadRefusal.{ReadRefusal}
use Rattle.net_types.specs.declared.refusals.ReadRefusal.TheVariants.{NoMemory as NoMemoryInFile}
use Rattle.net_types.specs.declared.refusals.BundleRefusal.{BundleRefusal}
use Rattle.net_types.specs.declared.refusals.BundleRefusal.TheVariants.{TooManyFiles, TooLarge, InFile, InNet, NoMemory}
use Rattle.net_types.specs.NetValue.{NetValue}
use Rattle.frr_reader.specs.Reading.{reading}
use Rattle.bundle_reader.specs.Bundle.{max_files, max_bytes, bytes_of, named}
use Rattle.topology.specs.Meaning.{IsNetworkOf, NamesLeastPair, NamesWhole}
use Rattle.topology.specs.Resolved.{AreAlike}

-- each file says the configuration at its position
abbrev pub AreSaid : List SourceFile → List RouterConfig → Type 0
AreSaid files configs = AreAlike (λ (file : SourceFile) (config : RouterConfig). reading file.text ≡ Ok config) files configs

-- the file at this position is refused, and each before it says something; want of memory is no refusal of a file
pub record IsFirstRefused (files : List SourceFile) (at : ℕ) (refusal : ReadRefusal) : Type 0 where
  pub file : SourceFile
  pub there : slice_get files at ≡ Some file
  pub refused : reading file.text ≡ Err refusal
  pub before : (k : ℕ) (other : SourceFile) → k < at → slice_get files k ≡ Some other →
      (config : RouterConfig) × (reading other.text ≡ Ok config)
  pub cause : refusal ≢ NoMemoryInFile

-- the configurations make no network for this cause, which is not want of memory
pub record IsNetRefusal (configs : List RouterConfig) (refusal : NetRefusal) : Type 0 where
  pub pair : NamesLeastPair {A = NetValue} configs (Err refusal)
  pub whole : NamesWhole configs (Err refusal)
  pub cause : refusal ≢ NoMemoryInNet

-- what is answered on configurations
abbrev pub IsNetAnswer : List RouterConfig → Result NetValue BundleRefusal → Type 0
IsNetAnswer configs (Ok net) = IsNetworkOf configs net
IsNetAnswer configs (Err (InNet refusal)) = IsNetRefusal configs refusal
IsNetAnswer configs (Err NoMemory) = Unit {0}
IsNetAnswer configs (Err refusal) = ⊥

-- what each refusal of files says
abbrev pub IsRefusalOf : List SourceFile → BundleRefusal → Type 0
IsRefusalOf files (TooManyFiles n) = (n ≡ length files) × (max_files < n)
IsRefusalOf files (TooLarge n) = (n ≡ named (bytes_of files)) × (max_bytes < n)
IsRefusalOf files (InFile at refusal) = IsFirstRefused files at refusal
IsRefusalOf files (InNet refusal) = (configs : List RouterConfig) × AreSaid files configs × IsNetRefusal configs refusal
IsRefusalOf files NoMemory = Unit {0}

-- what is answered on files: the network of what they say, or a refusal
abbrev pub IsAnswerOn : List SourceFile → Result NetValue BundleRefusal → Type 0
IsAnswerOn files (Ok net) = (configs : List RouterConfig) × AreSaid files configs × IsNetworkOf configs net
IsAnswerOn files (Err refusal) = IsRefusalOf files refusal
