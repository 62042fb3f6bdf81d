-- The links of a ladder. With so many columns its routers are the a's, one for each column and numbered as the columns
-- are, from 0, and then the b's.
use Rattle.std.specs.Prelude.{ℕ, zero, suc, ◌+◌, ◌*◌, ◌-◌, ◌%◌, ◌==◌, ◌++◌, true, List as Seq, [], ◌∷◌}
use Rattle.ladder.specs.declared.links.LadderLink.{LadderLink}

-- the links of a column with one behind it, in their order: along the a's, between the two routers of the column, along
-- the b's; those between two routers of an odd column are no session
abbrev pub inner_links : ℕ → ℕ → Seq LadderLink
inner_links columns column =
    record { number = 3 * column; low = column; high = column + 1; session = true } ∷
    record { number = 3 * column + 1; low = column; high = columns + column; session = column % 2 == 0 } ∷
    record { number = 3 * column + 2; low = columns + column; high = columns + column + 1; session = true } ∷ []

-- that of the last column
abbrev pub last_link : ℕ → ℕ → LadderLink
last_link columns column = record { number = 3 * column; low = column; high = columns + column; session = column % 2 == 0 }

-- the links of the first of the columns
abbrev pub links_before : ℕ → ℕ → Seq LadderLink
links_before columns zero = []
links_before columns (suc k) = links_before columns k ++ inner_links columns k

-- all links, in the order of their numbers
abbrev pub ladder_links : ℕ → Seq LadderLink
ladder_links columns = links_before columns (columns - 1) ++ last_link columns (columns - 1) ∷ []
