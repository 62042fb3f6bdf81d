-- The objects in memory: a shelf with its content, and a sink with room for some bytes.
use Rattle.std.specs.Prelude.{◌≡◌, ℕ, ◌-◌, ◌==◌, Bool, false, true, ◌&&◌, List, ◌++◌, Option, Some, None, Result, Ok, Err, length, min, take, nat_lt, if◌then◌else◌}
use Rattle.outside.specs.declared.shelf.ShelfError.{ShelfError}
use Rattle.outside.specs.declared.shelf.ShelfError.TheVariants.{Failed, Absent, NoMemory}
use Rattle.outside.specs.Calls.{CallsValue, fails, begun, with_fault}
use Rattle.outside.specs.Content.{Content, names_in, bytes_at, first_bytes_at, is_folder}

-- the calls, and the content that is told
pub record ShelfValue : Type 0 where
  pub calls : CallsValue
  pub content : Content

-- the answer of `list`: a listed call fails, else the content decides
abbrev pub ListsExactly : ShelfValue → List ℕ → Result (List (List ℕ)) ShelfError → Type 0
ListsExactly shelf folder (Ok names) = (fails shelf.calls ≡ false) × (is_folder shelf.content folder ≡ true) ×
    (names ≡ names_in shelf.content folder)
ListsExactly shelf folder (Err Failed) = fails shelf.calls ≡ true
ListsExactly shelf folder (Err Absent) = (fails shelf.calls ≡ false) × (is_folder shelf.content folder ≡ false)
ListsExactly shelf folder (Err NoMemory) = fails shelf.calls ≡ false

-- the answer of `read`: a listed call fails, else the content decides
abbrev pub ReadsExactly : ShelfValue → List ℕ → ℕ → Result (List ℕ) ShelfError → Type 0
ReadsExactly shelf path limit (Ok bytes) = (fails shelf.calls ≡ false) × (first_bytes_at shelf.content path limit ≡ Some bytes)
ReadsExactly shelf path limit (Err Failed) = fails shelf.calls ≡ true
ReadsExactly shelf path limit (Err Absent) = (fails shelf.calls ≡ false) × (bytes_at shelf.content path ≡ None)
ReadsExactly shelf path limit (Err NoMemory) = fails shelf.calls ≡ false

-- the shelf after a call
abbrev pub after_call : ShelfValue → ShelfValue
after_call shelf = record { calls = begun shelf.calls; content = shelf.content }

-- the calls, the room in bytes, and the bytes that were given
pub record SinkValue : Type 0 where
  pub calls : CallsValue
  pub room : ℕ
  pub given : List ℕ

-- how many bytes there is room for
abbrev pub left : SinkValue → ℕ
left sink = sink.room - length sink.given

-- a piece has bytes, and there is no room for any
abbrev pub is_full : SinkValue → List ℕ → Bool
is_full sink piece = nat_lt 0 (length piece) && left sink == 0

-- how many bytes of a piece are taken, or none where the call fails
abbrev pub taken : SinkValue → List ℕ → Option ℕ
taken sink piece = if fails sink.calls then None else if is_full sink piece then None else Some (min (length piece) (left sink))

-- the sink after a piece was given
abbrev pub after_give : SinkValue → List ℕ → SinkValue
after_give sink piece =
    if fails sink.calls then record { calls = begun sink.calls; room = sink.room; given = sink.given }
    else if is_full sink piece then record { calls = with_fault (begun sink.calls); room = sink.room; given = sink.given }
    else record { calls = begun sink.calls; room = sink.room; given = sink.given ++ take (min (length piece) (left sink)) piece }
