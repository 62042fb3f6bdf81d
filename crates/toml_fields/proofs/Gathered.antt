-- What a loop over tables or items has gathered, in front of what the rest gives.
use Rattle.std.proofs.Common.{List, ◌++◌, Option, Some, None, Result, Ok, Err}
use Rattle.net_types.specs.declared.refusals.FormRefusal.{FormRefusal}

-- rows in front of what later tables give
abbrev pub behind : {A : Type 0} → List A → Result (List A) FormRefusal → Result (List A) FormRefusal
behind before (Ok more) = Ok (before ++ more)
behind before (Err refusal) = Err refusal

-- values in front of what later items give
abbrev pub behind_all : {A : Type 0} → List A → Option (List A) → Option (List A)
behind_all before None = None
behind_all before (Some more) = Some (before ++ more)
