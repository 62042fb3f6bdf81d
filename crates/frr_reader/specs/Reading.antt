-- Reading: what a file says, line by line.
use Rattle.std.specs.Prelude.{ℕ, Bool, false, ◌≡◌, ◌==◌, ◌&&◌, ◌||◌, not, nat_lt, List, [], ◌∷◌, length, Option, Some, None, Result, Ok, Err, if◌then◌else◌}
use Rattle.std.specs.List.{list_any}
use Rattle.net_types.specs.declared.config.RouterConfig.{RouterConfig}
use Rattle.net_types.specs.declared.refusals.ReadRefusal.{ReadRefusal}
use Rattle.net_types.specs.declared.refusals.ReadRefusal.TheVariants.{NotText as NotTextAt, LineTooLong as LineTooLongAt, Unsupported as UnsupportedAt, OutOfPlace as OutOfPlaceAt, BadValue as BadValueAt, Repeated as RepeatedAt, OutOfLimit as OutOfLimitAt, NoHostname, Undefined, ForeignAs, NoMemory}
use Rattle.frr_reader.specs.declared.causes.Cause.{Cause}
use Rattle.frr_reader.specs.declared.causes.Cause.TheVariants.{NotText, LineTooLong, Unsupported, OutOfPlace, BadValue, Repeated, OutOfLimit}
use Rattle.frr_reader.specs.declared.needs.Need.{Need}
use Rattle.frr_reader.specs.Needs.{first_undefined, first_foreign}
use Rattle.frr_reader.specs.Lines.{LineValue, lines}
use Rattle.frr_policy.specs.Words.{words}
use Rattle.frr_reader.specs.Table.{FoundValue, found_from}
use Rattle.frr_reader.specs.State.{State, start}
use Rattle.frr_reader.specs.Effects.{effect}

-- a byte below 32 other than tab, or 127
abbrev pub is_control : ℕ → Bool
is_control b = (nat_lt b 32 && not (b == 9)) || (b == 127)

-- a line has at most so many bytes, and so has a file
abbrev pub line_max : ℕ
line_max = 512

abbrev pub file_max : ℕ
file_max = 262144

-- a word that begins with `!` or `#`
abbrev pub begins_comment : List ℕ → Bool
begins_comment [] = false
begins_comment (b ∷ _) = (b == 33) || (b == 35)

-- the mode in which the line is taken becomes the current one before the row's effect
abbrev pub by_row : State → List (List ℕ) → Result FoundValue Cause → Result State Cause
by_row s line (Ok found) = effect found.row line found.rest (record s { mode = found.mode })
by_row s line (Err cause) = Err cause

-- what the words of a line do: none and a comment do nothing, all else is by the line table
unfoldable pub by_words : State → List (List ℕ) → Result State Cause
by_words s [] = Ok s
by_words s (word ∷ more) = if begins_comment word then Ok s else by_row s (word ∷ more) (found_from s.mode (word ∷ more))

-- a line that all else accepts, but that reaches too far, is refused
abbrev pub within : ℕ → Result State Cause → Result State Cause
within reach (Ok s) = if nat_lt file_max reach then Err OutOfLimit else Ok s
within reach (Err cause) = Err cause

-- the state after one more line, or the first cause for which the line is refused
unfoldable pub step : State → LineValue → Result State Cause
step s line =
    if list_any is_control line.text then Err NotText else
    (if nat_lt line_max (length line.text) then Err LineTooLong else
    within line.reach (by_words (record s { number = line.number }) (words line.text)))

-- a refused line: its number, and its first cause
pub record RefusedLine : Type 0 where
  pub number : ℕ
  pub cause : Cause

abbrev pub go_on : ℕ → Result State Cause → (State → Result State RefusedLine) → Result State RefusedLine
go_on number (Ok s) more = more s
go_on number (Err cause) more = Err (record { number = number; cause = cause })

-- the state after these lines, or the first of them that is refused
abbrev pub read_lines : State → List LineValue → Result State RefusedLine
read_lines s [] = Ok s
read_lines s (line ∷ more) = go_on line.number (step s line) (λ t. read_lines t more)

-- the refusal of a file by the refusal of a line
abbrev pub refusal_of : Cause → ℕ → ReadRefusal
refusal_of NotText number = NotTextAt number
refusal_of LineTooLong number = LineTooLongAt number
refusal_of Unsupported number = UnsupportedAt number
refusal_of OutOfPlace number = OutOfPlaceAt number
refusal_of BadValue number = BadValueAt number
refusal_of Repeated number = RepeatedAt number
refusal_of OutOfLimit number = OutOfLimitAt number

-- the configuration of a state with this host name
abbrev pub configured : State → List ℕ → RouterConfig
configured s host = record {
  host = host;
  interfaces = s.interfaces;
  ospf = s.ospf;
  bgp = s.bgp;
  prefix_lists = s.prefix_lists;
  community_lists = s.community_lists;
  maps = s.maps;
}

-- a configuration has to define each map and list that it names, and else to prepend no AS number but its
-- own; the least line that does not is named, if there is one
abbrev pub unless_wrong : RouterConfig → Option ℕ → Option ℕ → Result RouterConfig ReadRefusal
unless_wrong config (Some line) other = Err (Undefined line)
unless_wrong config None (Some line) = Err (ForeignAs line)
unless_wrong config None None = Ok config

-- a configuration whose lines need this of it
unfoldable pub judged : RouterConfig → List Need → Result RouterConfig ReadRefusal
judged config all = unless_wrong config (first_undefined config all) (first_foreign config all)

-- the configuration of a state, with its host name, if it has one
abbrev pub config_of : State → Option (List ℕ) → Result RouterConfig ReadRefusal
config_of s None = Err NoHostname
config_of s (Some host) = judged (configured s host) s.needed

abbrev pub concluded : Result State RefusedLine → Result RouterConfig ReadRefusal
concluded (Ok s) = config_of s s.host
concluded (Err line) = Err (refusal_of line.cause line.number)

-- what a file says: its configuration, or its refusal
unfoldable pub reading : List ℕ → Result RouterConfig ReadRefusal
reading text = concluded (read_lines start (lines text))

-- the answer of a reader; memory may be wanting at any time
abbrev pub Answers : Result RouterConfig ReadRefusal → Result RouterConfig ReadRefusal → Type 0
Answers value (Ok config) = value ≡ Ok config
Answers value (Err NoMemory) = Unit {0}
Answers value (Err refusal) = value ≡ Err refusal
