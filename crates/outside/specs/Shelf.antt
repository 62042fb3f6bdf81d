-- What the answers of a shelf mean.
use Rattle.std.specs.Prelude.{◌≡◌, ℕ, false, List, Some, None, Result, Ok, Err}
use Rattle.outside.specs.declared.shelf.ShelfError.{ShelfError}
use Rattle.outside.specs.declared.shelf.ShelfError.TheVariants.{Failed, Absent, NoMemory}
use Rattle.outside.specs.Content.{Content, IsListing, is_folder, bytes_at, first_bytes_at}
use Rattle.outside.specs.Faults.{Rose}

-- the count of faults by why a call was not answered: it rose where the call failed, and else stands
abbrev pub IsRefusal : ℕ → ℕ → ShelfError → Type 0
IsRefusal before now Failed = Rose before now
IsRefusal before now Absent = now ≡ before
IsRefusal before now NoMemory = now ≡ before

-- the same by the whole answer: so a call that failed is never hidden behind another answer
abbrev pub HasCause : {A : Type 0} → ℕ → ℕ → Result A ShelfError → Type 0
HasCause before now (Ok a) = now ≡ before
HasCause before now (Err refusal) = IsRefusal before now refusal

-- the answer of `list` over the content that is told
abbrev pub Lists : Content → List ℕ → Result (List (List ℕ)) ShelfError → Type 0
Lists content folder (Ok names) = IsListing content folder names
Lists content folder (Err Failed) = Unit {0}
Lists content folder (Err Absent) = is_folder content folder ≡ false
Lists content folder (Err NoMemory) = Unit {0}

-- the answer of `read` over the content that is told
abbrev pub Reads : Content → List ℕ → ℕ → Result (List ℕ) ShelfError → Type 0
Reads content path limit (Ok bytes) = first_bytes_at content path limit ≡ Some bytes
Reads content path limit (Err Failed) = Unit {0}
Reads content path limit (Err Absent) = bytes_at content path ≡ None
Reads content path limit (Err NoMemory) = Unit {0}
