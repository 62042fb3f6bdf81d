-- Why bundles and forms are refused, in words: a name for each cause, and its place or number. This project's own.
use Rattle.std.specs.Prelude.{ℕ, List as Seq, [], codes, slice_get}
use Rattle.std.specs.Fmt.{decimal}
use Rattle.std.specs.Option.{option_map_or}
use Rattle.net_types.specs.declared.config.SourceFile.{SourceFile}
use Rattle.net_types.specs.declared.refusals.ReadRefusal.{ReadRefusal}
use Rattle.net_types.specs.declared.refusals.ReadRefusal.TheVariants as Read
use Rattle.net_types.specs.declared.refusals.NetRefusal.{NetRefusal}
use Rattle.net_types.specs.declared.refusals.NetRefusal.TheVariants as InNetwork
use Rattle.net_types.specs.declared.refusals.BundleRefusal.{BundleRefusal}
use Rattle.net_types.specs.declared.refusals.BundleRefusal.TheVariants as Bundle
use Rattle.net_types.specs.declared.refusals.FormRefusal.{FormRefusal}
use Rattle.net_types.specs.declared.refusals.FormRefusal.TheVariants as Form
use Rattle.net_types.specs.Then.{◌then◌}
use Rattle.net_types.specs.AddressTexts.{prefix_text}

-- the name of the file at a position
abbrev pub file_name : Seq SourceFile → ℕ → Seq ℕ
file_name files i = option_map_or (λ (file : SourceFile). file.name) (slice_get files i) []

-- a refused line, by its cause and its number
abbrev pub at_line : Seq ℕ → ℕ → Seq ℕ
at_line cause line = cause then codes " line " then decimal line

-- why a file is refused
unfoldable pub read_text : ReadRefusal → Seq ℕ
read_text (Read.NotText line) = at_line (codes "NotText") line
read_text (Read.LineTooLong line) = at_line (codes "LineTooLong") line
read_text (Read.Unsupported line) = at_line (codes "Unsupported") line
read_text (Read.OutOfPlace line) = at_line (codes "OutOfPlace") line
read_text (Read.BadValue line) = at_line (codes "BadValue") line
read_text (Read.Repeated line) = at_line (codes "Repeated") line
read_text (Read.OutOfLimit line) = at_line (codes "OutOfLimit") line
read_text Read.NoHostname = codes "NoHostname"
read_text (Read.Undefined line) = at_line (codes "Undefined") line
read_text (Read.ForeignAs line) = at_line (codes "ForeignAs") line
read_text Read.NoMemory = []

-- a cause and the two files of it
abbrev pub of_pair : Seq ℕ → Seq SourceFile → ℕ → ℕ → Seq ℕ
of_pair cause files i j = cause then codes " " then file_name files i then codes " " then file_name files j

-- a cause and its number
abbrev pub with_number : Seq ℕ → ℕ → Seq ℕ
with_number cause n = cause then codes " " then decimal n

-- why configurations make no network
unfoldable pub net_text : Seq SourceFile → NetRefusal → Seq ℕ
net_text files (InNetwork.SameHost i j) = of_pair (codes "SameHost") files i j
net_text files (InNetwork.SameAs i j) = of_pair (codes "SameAs") files i j
net_text files (InNetwork.SameAddress i j) = of_pair (codes "SameAddress") files i j
net_text files (InNetwork.SharedSubnet prefix) = codes "SharedSubnet " then prefix_text prefix
net_text files (InNetwork.TooManyLinks n) = with_number (codes "TooManyLinks") n
net_text files (InNetwork.TooManyCommunities n) = with_number (codes "TooManyCommunities") n
net_text files (InNetwork.TooManyRouters n) = with_number (codes "TooManyRouters") n
net_text files InNetwork.NoMemory = []

-- why files make no network
unfoldable pub bundle_text : Seq SourceFile → BundleRefusal → Seq ℕ
bundle_text files (Bundle.TooManyFiles n) = with_number (codes "TooManyFiles") n
bundle_text files (Bundle.TooLarge bytes) = with_number (codes "TooLarge") bytes
bundle_text files (Bundle.InFile i refusal) = file_name files i then codes ": " then read_text refusal
bundle_text files (Bundle.InNet refusal) = net_text files refusal
bundle_text files Bundle.NoMemory = []

-- why a TOML file is refused
unfoldable pub form_text : FormRefusal → Seq ℕ
form_text Form.TooLong = codes "TooLong"
form_text Form.NotToml = codes "NotToml"
form_text (Form.BadField place) = with_number (codes "BadField") place
form_text (Form.SameName place) = with_number (codes "SameName") place
form_text (Form.TooMany n) = with_number (codes "TooMany") n
form_text Form.NoMemory = []
