-- The network of the files of a folder, or their first refusal.
use Rattle.std.specs.Prelude.{ℕ, ◌≡◌, ◌+◌, ◌-◌, ◌^◌, min, nat_lt, List, [], ◌∷◌, length, sum_by, Result, Ok, Err, if◌then◌else◌}
use Rattle.net_types.specs.declared.config.RouterConfig.{RouterConfig}
use Rattle.net_types.specs.declared.config.SourceFile.{SourceFile}
use Rattle.net_types.specs.declared.refusals.NetRefusal.{NetRefusal}
use Rattle.net_types.specs.declared.refusals.ReadRefusal.{ReadRefusal}
use Rattle.net_types.specs.declared.refusals.BundleRefusal.{BundleRefusal}
use Rattle.net_types.specs.declared.refusals.BundleRefusal.TheVariants.{TooManyFiles, TooLarge, InFile, InNet, NoMemory}
use Rattle.net_types.specs.NetValue.{NetValue}
use Rattle.frr_reader.specs.Reading.{reading}
use Rattle.topology.specs.Network.{network_of}

abbrev pub max_files : ℕ
max_files = 64

abbrev pub max_bytes : ℕ
max_bytes = 4194304

-- the bytes of all texts
abbrev pub bytes_of : List SourceFile → ℕ
bytes_of files = sum_by (λ (file : SourceFile). length file.text) files

-- a number as a refusal names it, which ends at the greatest u64
abbrev pub named : ℕ → ℕ
named n = min n (2 ^ 64 - 1)

-- the configurations of a file and of those behind it
abbrev pub before : ℕ → Result RouterConfig ReadRefusal → Result (List RouterConfig) BundleRefusal →
    Result (List RouterConfig) BundleRefusal
before at (Err refusal) later = Err (InFile at refusal)
before at (Ok config) (Ok configs) = Ok (config ∷ configs)
before at (Ok config) (Err refusal) = Err refusal

-- what the files say, or the first of them that is refused; files are numbered from `at` on
abbrev pub configs_of : ℕ → List SourceFile → Result (List RouterConfig) BundleRefusal
configs_of at [] = Ok []
configs_of at (file ∷ files) = before at (reading file.text) (configs_of (at + 1) files)

abbrev pub in_net : Result NetValue NetRefusal → Result NetValue BundleRefusal
in_net (Ok net) = Ok net
in_net (Err refusal) = Err (InNet refusal)

abbrev pub net_of_configs : Result (List RouterConfig) BundleRefusal → Result NetValue BundleRefusal
net_of_configs (Ok configs) = in_net (network_of configs)
net_of_configs (Err refusal) = Err refusal

-- the network of the files, or the first refusal that stands
abbrev pub bundle_of : List SourceFile → Result NetValue BundleRefusal
bundle_of files =
    if nat_lt max_files (length files) then Err (TooManyFiles (length files)) else
    (if nat_lt max_bytes (bytes_of files) then Err (TooLarge (named (bytes_of files))) else
    net_of_configs (configs_of 0 files))

-- what is answered: this value or refusal, or want of memory
abbrev pub BundleAnswers : {A : Type 0} → Result A BundleRefusal → Result A BundleRefusal → Type 0
BundleAnswers value (Ok found) = value ≡ Ok found
BundleAnswers value (Err NoMemory) = Unit {0}
BundleAnswers value (Err refusal) = value ≡ Err refusal
