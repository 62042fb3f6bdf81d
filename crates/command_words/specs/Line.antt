-- The line of words that is handed to `clap`.
use Rattle.std.specs.Prelude.{ℕ, List as Seq, [], ◌∷◌, codes}

-- the first word, the mark behind which no word is an option, and the others
abbrev pub line_of : Seq (Seq ℕ) → Seq (Seq ℕ)
line_of [] = []
line_of (word ∷ others) = word ∷ codes "--" ∷ others
