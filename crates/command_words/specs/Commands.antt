-- The commands of the program, as its words say them. All of this is the project's own.
use Rattle.std.specs.Prelude.{ℕ, ◌≡◌, ◌≤◌, ◌%◌, ◌==◌, ◌&&◌, not, Bool, false, List as Seq, [], ◌∷◌, codes, Option, Some, None, option_map, option_and_then, if◌then◌else◌}
use Rattle.net_types.specs.Numerals.{number_in}
use Rattle.net_types.specs.Order.{same_text}

-- what the words ask: the report of a change, by so many workers; whether a labelling is stable; or the report of
-- nothing before a change and a ladder of so many columns after it
pub data Asked : Type 0 where
  Check : (base new properties : Seq ℕ) (workers : ℕ) → Asked
  Stable : (bundle labels : Seq ℕ) → Asked
  Gen : (columns workers : ℕ) → Asked

-- a word that may stand behind the first: it has a byte, and does not begin with `-`
abbrev pub is_path : Seq ℕ → Bool
is_path [] = false
is_path (b ∷ more) = not (b == 45)

abbrev pub are_paths : Seq ℕ → Seq ℕ → Seq ℕ → Bool
are_paths a b c = is_path a && is_path b && is_path c

-- a count of workers: one digit, 1 to 8
abbrev pub workers_of : Seq ℕ → Option ℕ
workers_of word = number_in 1 8 word

-- the number of columns of a ladder: odd, 3 to 21, without a leading zero
abbrev pub if_odd : ℕ → Option ℕ
if_odd number = if number % 2 == 1 then Some number else None

abbrev pub columns_of : Seq ℕ → Option ℕ
columns_of word = option_and_then if_odd (number_in 3 21 word)

-- a command with so many workers, where their number can be read
abbrev pub check_of : Seq ℕ → Seq ℕ → Seq ℕ → Seq ℕ → Option ℕ → Option Asked
check_of word base new properties workers =
    if same_text word (codes "check") && are_paths base new properties then option_map (Check base new properties) workers else None

abbrev pub stable_of : Seq ℕ → Seq ℕ → Seq ℕ → Option Asked
stable_of word bundle labels = if same_text word (codes "stable") && (is_path bundle && is_path labels) then Some (Stable bundle labels) else None

abbrev pub gen_with : Option ℕ → Option ℕ → Option Asked
gen_with (Some columns) (Some workers) = Some (Gen columns workers)
gen_with _ _ = None

abbrev pub gen_of : Seq ℕ → Seq ℕ → Option ℕ → Option Asked
gen_of word number workers = if same_text word (codes "gen") then gen_with (columns_of number) workers else None

-- two words behind the first are those of `stable`, or `gen N WORKERS`
abbrev pub two_behind : Seq ℕ → Seq ℕ → Seq ℕ → Option Asked
two_behind word a b = if same_text word (codes "stable") then stable_of word a b else gen_of word a (workers_of b)

-- the command of the words, or none; one worker where their number is left out
abbrev pub command_of : Seq (Seq ℕ) → Option Asked
command_of (word ∷ a ∷ b ∷ c ∷ last ∷ []) = check_of word a b c (workers_of last)
command_of (word ∷ a ∷ b ∷ c ∷ []) = check_of word a b c (Some 1)
command_of (word ∷ a ∷ b ∷ []) = two_behind word a b
command_of (word ∷ a ∷ []) = gen_of word a (Some 1)
command_of _ = None

-- what is asked has 1 to 8 workers, and a ladder an odd number of columns from 3 to 21
pub record AreWorkers (workers : ℕ) : Type 0 where
  pub some : 1 ≤ workers
  pub few : workers ≤ 8

pub record AreColumns (columns : ℕ) : Type 0 where
  pub odd : columns % 2 ≡ 1
  pub least : 3 ≤ columns
  pub most : columns ≤ 21

abbrev pub CanRun : Asked → Type 0
CanRun (Check base new properties workers) = AreWorkers workers
CanRun (Stable bundle labels) = Unit {0}
CanRun (Gen columns workers) = AreColumns columns × AreWorkers workers
