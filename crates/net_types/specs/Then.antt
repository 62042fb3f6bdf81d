-- Texts one after another. The operator groups to the right, as the pieces of a formatted text do.
use Rattle.std.specs.Prelude.{ℕ, List, ◌++◌}

infixr 20 ◌then◌
-- the first text, and the second behind it
abbrev pub ◌then◌ : List ℕ → List ℕ → List ℕ
a then b = a ++ b
