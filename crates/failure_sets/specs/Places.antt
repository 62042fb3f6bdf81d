-- Numbers of sets, by binomial coefficients. They serve the code and the laws of counts.
use Rattle.std.specs.Prelude.{ℕ, zero, suc, ◌+◌, ◌-◌, List, [], ◌∷◌, length}

-- how many sets of `size` numbers `many` numbers have: the binomial coefficient, after Pascal's rule
unfoldable pub choose : ℕ → ℕ → ℕ
choose many zero = 1
choose zero (suc size) = 0
choose (suc many) (suc size) = choose many size + choose many (suc size)

-- how many sets of at most `most` numbers
unfoldable pub how_many : ℕ → ℕ → ℕ
how_many many zero = 1
how_many many (suc most) = how_many many most + choose many (suc most)

-- the place of a set among the sets as large of the numbers from `least` on and below `links`:
-- those whose first number is lower, and those with its first number whose rest comes before
unfoldable pub place_among : ℕ → ℕ → List ℕ → ℕ
place_among links least [] = 0
place_among links least (x ∷ rest) = choose (links - least) (suc (length rest)) - choose (links - x) (suc (length rest)) +
    place_among links (suc x) rest
