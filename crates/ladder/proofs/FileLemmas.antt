-- The file of one router more, put behind those of the routers before it.
use Rattle.std.proofs.Common.{ℕ, ◌≡◌, ◌+◌, List, [], ◌∷◌, ◌++◌, map, zero-add}
use Rattle.std.specs.List.{range_with_len}
use Rattle.std.proofs.lemmas.List.FromFn.{map-range_with_len_more}
use Rattle.ladder.specs.declared.links.LadderLink.{LadderLink}
use Rattle.ladder.specs.Files.{file_of}

pub one_file_more : (columns : ℕ) (links : List LadderLink) (n : ℕ) → map (file_of columns links) (range_with_len 0 (n + 1)) ≡ map (file_of columns links) (range_with_len 0 n) ++ file_of columns links n ∷ []
one_file_more columns links n = map-range_with_len_more (file_of columns links) 0 n n (zero-add n)
