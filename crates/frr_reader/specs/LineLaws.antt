-- What is true of each line, said without the steps that give it: each cause by itself, and the mode in which
-- a line is taken.
use Rattle.std.specs.Prelude.{ℕ, ◌≡◌, ◌+◌, ◌<◌, ◌≤◌, ◌↔◌, ◌⊎◌, ◌++◌, Bool, true, false, All, Contains, List, [], ◌∷◌, length, map, filter, Option, Some, None, Result, Ok, Err}
use Rattle.std.specs.List.{list_any}
use Rattle.net_types.specs.declared.config.BgpConfig.{BgpConfig}
use Rattle.frr_policy.specs.Words.{words}
use Rattle.frr_policy.specs.MapLines.{LineRow, map_table}
use Rattle.frr_reader.specs.declared.causes.Cause.{Cause}
use Rattle.frr_reader.specs.declared.causes.Cause.TheVariants.{NotText, LineTooLong, Unsupported, OutOfPlace, OutOfLimit}
use Rattle.frr_reader.specs.declared.modes.Mode.{Mode}
use Rattle.frr_reader.specs.declared.rows.Row.{Row}
use Rattle.frr_reader.specs.declared.rows.Row.TheVariants.{MapLine, OfBgp, NoEffect}
use Rattle.frr_reader.specs.declared.rows.BgpRow.TheVariants.{NeighborMap, OfNeighbor}
use Rattle.frr_reader.specs.Lines.{LineValue, lines}
use Rattle.frr_reader.specs.Table.{FormValue, FoundValue, table, stands_in, behind, has_head, is_known, found_from, modes_from}
use Rattle.frr_reader.specs.State.{State, IsOpen}
use Rattle.frr_reader.specs.Bgp.{named_neighbor}
use Rattle.frr_reader.specs.Reading.{is_control, begins_comment, by_words, step}

-- a line is numbered by how many stand before it, and the last one reaches to the end of the file
pub record IsPlaced (text : List ℕ) (before behind : List LineValue) (line : LineValue) : Type 0 where
  pub number : line.number ≡ length before + 1
  pub last : behind ≡ [] → line.reach ≡ length text

abbrev pub EachLineIsPlaced : Type 0
EachLineIsPlaced =
    (text : List ℕ) (before behind : List LineValue) (line : LineValue) → lines text ≡ before ++ line ∷ behind →
    IsPlaced text before behind line

-- the row stands in the mode, and the line has its head
abbrev pub TakesIn : List (List ℕ) → Mode → FormValue → Type 0
TakesIn line mode f = (stands_in f mode ≡ true) × (has_head line f ≡ true)

abbrev pub NoneTakesIn : List (List ℕ) → Mode → Type 0
NoneTakesIn line mode = All (λ (f : FormValue). TakesIn line mode f → ⊥) table

-- where a line is taken, from the mode that is open: in the innermost mode in which a row takes it, by that row
pub record IsInnermost (now : Mode) (line : List (List ℕ)) (found : FoundValue) : Type 0 where
  pub inner : List Mode
  pub round : List Mode
  pub modes : modes_from now ≡ inner ++ found.mode ∷ round
  pub none_inside : All (NoneTakesIn line) inner
  pub form : FormValue
  pub among : Contains table form
  pub stands : stands_in form found.mode ≡ true
  pub head : behind (words form.head) line ≡ Some found.rest
  pub row : form.row ≡ found.row

abbrev pub EachIsTakenInnermost : Type 0
EachIsTakenInnermost =
    (now : Mode) (line : List (List ℕ)) (found : FoundValue) → found_from now line ≡ Ok found →
    IsInnermost now line found

-- a line without control bytes that is not too long
pub record IsReadable (line : LineValue) : Type 0 where
  pub text : list_any is_control line.text ≡ false
  pub short : length line.text ≤ 512

-- words that are not blank and no comment
abbrev pub IsStatement : List (List ℕ) → Type 0
IsStatement [] = ⊥
IsStatement (word ∷ more) = begins_comment word ≡ false

-- what the words of a line do to the state, which has the line's number
abbrev pub words_at : State → LineValue → Result State Cause
words_at s line = by_words (record s { number = line.number }) (words line.text)

-- a line of a neighbor whose `remote-as` does not stand before
pub record NamesNoNeighbor (now : Mode) (bgp : Option BgpConfig) (line : List (List ℕ)) : Type 0 where
  pub found : FoundValue
  pub taken : found_from now line ≡ Ok found
  pub row : (found.row ≡ OfBgp NeighborMap) ⊎ (found.row ≡ OfBgp OfNeighbor)
  pub before : (b : BgpConfig) → bgp ≡ Some b → named_neighbor line b ≡ None

-- no row takes the line in an open mode, or it is such a line
abbrev pub IsDisplaced : Mode → Option BgpConfig → List (List ℕ) → Type 0
IsDisplaced now bgp line = All (NoneTakesIn line) (modes_from now) ⊎ NamesNoNeighbor now bgp line

-- each cause of a line by itself
pub record IsLineLaw (s : State) (line : LineValue) : Type 0 where
  pub not_text : (step s line ≡ Err NotText) ↔ (list_any is_control line.text ≡ true)
  pub too_long : (step s line ≡ Err LineTooLong) ↔ ((list_any is_control line.text ≡ false) × (512 < length line.text))
  pub unsupported : (step s line ≡ Err Unsupported) ↔
      (IsReadable line × (IsStatement (words line.text) × (is_known (words line.text) ≡ false)))
  pub out_of_place : IsOpen s → (step s line ≡ Err OutOfPlace) ↔
      (IsReadable line × (IsStatement (words line.text) ×
      ((is_known (words line.text) ≡ true) × IsDisplaced s.mode s.bgp (words line.text))))
  pub idle : IsReadable line → (IsStatement (words line.text) → ⊥) → line.reach ≤ 262144 →
      step s line ≡ Ok (record s { number = line.number })
  pub no_effect : (found : FoundValue) → IsReadable line → IsStatement (words line.text) →
      found_from s.mode (words line.text) ≡ Ok found → found.row ≡ NoEffect → line.reach ≤ 262144 →
      step s line ≡ Ok (record s { number = line.number; mode = found.mode })
  pub too_far : (t : State) → IsReadable line → words_at s line ≡ Ok t → (step s line ≡ Err OutOfLimit) ↔ (262144 < line.reach)
  pub size_last : (cause : Cause) → IsReadable line → words_at s line ≡ Err cause → step s line ≡ Err cause

abbrev pub EachLineHasItsCause : Type 0
EachLineHasItsCause = (s : State) (line : LineValue) → IsLineLaw s line

-- the heads of the lines of route maps are those that `frr_policy` reads
abbrev pub is_map_line : Row → Bool
is_map_line MapLine = true
is_map_line _ = false

abbrev pub map_heads : List FormValue → List (List (List ℕ))
map_heads forms = map (λ (f : FormValue). words f.head) (filter (λ (f : FormValue). is_map_line f.row) forms)

abbrev pub SameMapHeads : Type 0
SameMapHeads = map_heads table ≡ map (λ (r : LineRow). r.head) map_table
