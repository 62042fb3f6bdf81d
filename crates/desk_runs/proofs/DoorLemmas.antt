-- A part of a room is lent.
use Rattle.std.proofs.Common.{◌≡◌, ◌<◌, ◌≤◌, ◌∙◌, ℕ, List, ◌++◌, length, take, ap, Option, Result, Ok, Err}
use Rattle.std.specs.Prelude.{IfOk}
use Rattle.std.proofs.lemmas.List.{take-append-le}
use Rattle.doors.specs.Door.{Told, Reads}
use Rattle.outside.specs.declared.sink.Failed.{Failed}

pub lent : (t : Told) (part rest room : List ℕ) (r : Result ℕ Failed) (now : Option Told) → room ≡ part ++ rest → (0 < length room → 0 < length part) → IfOk r (λ n. n ≤ length part) → Reads t part r now → Reads t room r now
lent t part rest room (Ok n) now is some within x =
    (x.0, ap (take n) is ∙ take-append-le n part rest within ∙ x.1, (λ l. x.2 (some l)), x.3)
lent t part rest room (Err e) now is some within x = x
