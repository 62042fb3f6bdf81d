-- The lines of a file.
use Rattle.std.specs.Prelude.{ℕ, ◌+◌, List, [], ◌∷◌, length}
use Rattle.std.specs.Io.BufRead.{strip_last}
use Rattle.net_types.specs.Cut.{parts}

-- a line: its number, its bytes without the LF and without a CR before it, and up to which byte of the
-- file it reaches, the CR and the LF that end it counted
pub record LineValue : Type 0 where
  pub number : ℕ
  pub text : List ℕ
  pub reach : ℕ

abbrev pub line_at : ℕ → List ℕ → ℕ → LineValue
line_at number bytes reach = record { number = number; text = strip_last 13 bytes; reach = reach }

-- the parts of a file as lines, from this number on, behind so many bytes; no LF ends the last one
abbrev pub numbered : ℕ → ℕ → List (List ℕ) → List LineValue
numbered number before [] = []
numbered number before (last ∷ []) = line_at number last (before + length last) ∷ []
numbered number before (part ∷ next ∷ more) =
    line_at number part (before + length part + 1) ∷ numbered (number + 1) (before + length part + 1) (next ∷ more)

-- the lines of a file, counted from 1: its parts between the LF bytes
unfoldable pub lines : List ℕ → List LineValue
lines text = numbered 1 0 (parts 10 text)
