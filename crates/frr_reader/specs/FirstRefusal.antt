-- The configuration and the refusal of a file, said of the state before each line: a file is refused at
-- the first line that is refused, and its configuration is that of the state after the last line.
use Rattle.std.specs.Prelude.{ℕ, ◌≡◌, ◌≤◌, ◌⊎◌, ◌↔◌, ◌++◌, Bool, true, All, Contains, List, ◌∷◌, Option, Some, None, Result, Ok, Err, fold, option_and_then}
use Rattle.net_types.specs.declared.config.RouterConfig.{RouterConfig}
use Rattle.net_types.specs.declared.refusals.ReadRefusal.{ReadRefusal}
use Rattle.net_types.specs.declared.refusals.ReadRefusal.TheVariants.{Undefined, ForeignAs, NoMemory}
use Rattle.frr_reader.specs.declared.causes.Cause.{Cause}
use Rattle.frr_reader.specs.Lines.{LineValue, lines}
use Rattle.frr_reader.specs.State.{State, start, IsOpen}
use Rattle.frr_reader.specs.declared.needs.Need.{Need}
use Rattle.frr_reader.specs.declared.needs.Needed.{Needed}
use Rattle.frr_reader.specs.Needs.{is_undefined, is_foreign}
use Rattle.frr_reader.specs.Reading.{step, configured, config_of, refusal_of, reading}

abbrev pub accepted : Result State Cause → Option State
accepted (Ok s) = Some s
accepted (Err _) = None

-- the state after these lines, where none of them is refused
abbrev pub after : State → List LineValue → Option State
after s ls = fold (λ before line. option_and_then (λ t. accepted (step t line)) before) (Some s) ls

-- the lines are all taken, and the state after them has this configuration
pub record IsConf (text : List ℕ) (config : RouterConfig) : Type 0 where
  pub state : State
  pub taken : after start (lines text) ≡ Some state
  pub says : config_of state state.host ≡ Ok config

-- the lines before this one are taken, and this one is refused, first for this cause
pub record IsFirstRefused (text : List ℕ) (line : LineValue) (cause : Cause) : Type 0 where
  pub before : List LineValue
  pub behind : List LineValue
  pub lines_are : lines text ≡ before ++ line ∷ behind
  pub state : State
  pub taken : after start before ≡ Some state
  pub refused : step state line ≡ Err cause

-- the file is refused at its first refused line
pub record IsRefAtLine (text : List ℕ) (refusal : ReadRefusal) : Type 0 where
  pub line : LineValue
  pub cause : Cause
  pub first : IsFirstRefused text line cause
  pub named : refusal ≡ refusal_of cause line.number

-- no line is refused, and what is missing after the last one refuses the file
pub record IsRefAtEnd (text : List ℕ) (refusal : ReadRefusal) : Type 0 where
  pub state : State
  pub taken : after start (lines text) ≡ Some state
  pub refused : config_of state state.host ≡ Err refusal

abbrev pub IsRef : List ℕ → ReadRefusal → Type 0
IsRef text refusal = IsRefAtLine text refusal ⊎ IsRefAtEnd text refusal

-- the line is the least of those whose need passes this test
pub record IsLeastLine (test : Needed → Bool) (all : List Need) (line : ℕ) : Type 0 where
  pub need : Need
  pub among : Contains all need
  pub its : need.line ≡ line
  pub passes : test need.what ≡ true
  pub least : All (λ (n : Need). test n.what ≡ true → line ≤ n.line) all

-- all lines are taken, the host has a name, and the line is the least that needs what the file does not have
pub record IsLeastWrong (text : List ℕ) (is_wrong : RouterConfig → Needed → Bool) (line : ℕ) : Type 0 where
  pub state : State
  pub host : List ℕ
  pub taken : after start (lines text) ≡ Some state
  pub named : state.host ≡ Some host
  pub least : IsLeastLine (is_wrong (configured state host)) state.needed line

-- each file has one of the two, a configuration or a refusal, never both, and only one; the reading says
-- which; wherever a line stands in a block, what the block is of is there; want of memory is no refusal of a
-- file; and a line that names what is not defined, or prepends a foreign AS, is the least such line
pub record IsReadOnce (text : List ℕ) : Type 0 where
  pub conf : (config : RouterConfig) → (reading text ≡ Ok config) ↔ IsConf text config
  pub ref : (refusal : ReadRefusal) → (reading text ≡ Err refusal) ↔ IsRef text refusal
  pub one : ((config : RouterConfig) × IsConf text config) ⊎ ((refusal : ReadRefusal) × IsRef text refusal)
  pub apart : (config : RouterConfig) (refusal : ReadRefusal) → IsConf text config → IsRef text refusal → ⊥
  pub same_conf : (a b : RouterConfig) → IsConf text a → IsConf text b → a ≡ b
  pub same_ref : (a b : ReadRefusal) → IsRef text a → IsRef text b → a ≡ b
  pub «open» : (before behind : List LineValue) (state : State) → lines text ≡ before ++ behind →
      after start before ≡ Some state → IsOpen state
  pub no_memory : IsRef text NoMemory → ⊥
  pub undefined : (line : ℕ) → IsRef text (Undefined line) → IsLeastWrong text is_undefined line
  pub foreign_as : (line : ℕ) → IsRef text (ForeignAs line) → IsLeastWrong text is_foreign line
