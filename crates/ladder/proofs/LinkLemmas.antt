-- The links of one column more, put behind those of the columns before it.
use Rattle.std.proofs.Common.{ℕ, suc, ◌≡◌, ◌+◌, ◌++◌, ap, arith}
use Rattle.ladder.specs.Links.{inner_links, links_before}

pub one_column_more : (columns k : ℕ) → links_before columns (k + 1) ≡ links_before columns k ++ inner_links columns k
one_column_more columns k = let e : k + 1 ≡ suc k = omega arith in ap (λ (n : ℕ). links_before columns n) e
