-- What one more router holds, put behind what those before it hold.
use Rattle.std.proofs.Common.{ℕ, ◌≡◌, ◌+◌, List, [], ◌∷◌, ◌++◌, zero-add}
use Rattle.std.proofs.lemmas.List.FromFn.{map-range_with_len_more}
use Rattle.label_file.specs.declared.contents.Label.{Label}
use Rattle.label_file.specs.File.{held, labelling}

pub labelling_more : (labels : List Label) (n : ℕ) → labelling (n + 1) labels ≡ labelling n labels ++ held labels n ∷ []
labelling_more labels n = map-range_with_len_more (held labels) 0 n n (zero-add n)
