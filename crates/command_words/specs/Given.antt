-- What `clap` finds in a line, by the names of a command's words (private).
use Rattle.std.specs.Prelude.{ℕ, ◌≡◌, List as Seq, [], ◌∷◌, codes, Option, Some, None}
use Rattle.clap.specs.Words.{first_value, found_of}
use Rattle.clap.specs.declared.parser.matches.ArgMatches.{ArgMatches}
use Rattle.command_words.specs.Commands.{workers_of}

-- the last word, which may be left out
abbrev pub last_of : Option (Seq ℕ) → Seq (Seq ℕ)
last_of None = []
last_of (Some last) = last ∷ []

-- how many workers it says; one where it is left out
abbrev pub workers_in : Option (Seq ℕ) → Option ℕ
workers_in None = Some 1
workers_in (Some last) = workers_of last

-- the words of each command behind its first
abbrev pub IsNamed : Seq ℕ → Option (Seq ℕ) → ArgMatches → Type 0
IsNamed name word m = first_value (found_of m) name ≡ word

abbrev pub IsCheck : Seq ℕ → Seq ℕ → Seq ℕ → Option (Seq ℕ) → ArgMatches → Type 0
IsCheck base new properties last m =
    IsNamed (codes "BASE") (Some base) m × IsNamed (codes "NEW") (Some new) m × IsNamed (codes "PROPS") (Some properties) m
    × IsNamed (codes "WORKERS") last m

abbrev pub IsStable : Seq ℕ → Seq ℕ → ArgMatches → Type 0
IsStable bundle labels m = IsNamed (codes "BUNDLE") (Some bundle) m × IsNamed (codes "LABELS") (Some labels) m

abbrev pub IsGen : Seq ℕ → Option (Seq ℕ) → ArgMatches → Type 0
IsGen number last m = IsNamed (codes "N") (Some number) m × IsNamed (codes "WORKERS") last m

abbrev pub IsServe : Seq ℕ → Seq ℕ → Seq ℕ → Seq ℕ → Option (Seq ℕ) → ArgMatches → Type 0
IsServe store port count users last m =
    IsNamed (codes "DB") (Some store) m × IsNamed (codes "PORT") (Some port) m × IsNamed (codes "COUNT") (Some count) m
    × IsNamed (codes "USERS") (Some users) m × IsNamed (codes "WORKERS") last m
