-- What is found of a book, and when it gets no verdicts.
use Rattle.std.specs.Prelude.{ℕ, ◌≡◌, ◌<◌, ◌≤◌, ◌+◌, Result, Ok, Err, List as Seq, length}
use Rattle.std.specs.List.{AllZip}
use Rattle.net_types.specs.NetValue.{NetValue}
use Rattle.property_book.specs.declared.property.Property.{Property}
use Rattle.property_book.specs.declared.verdict.Outcome.{Outcome}
use Rattle.case_walk.specs.declared.refusal.CertifyRefusal.{CertifyRefusal}
use Rattle.case_walk.specs.declared.refusal.CertifyRefusal.TheVariants.{CasesLimit, NoMemory}
use Rattle.case_walk.specs.Analysis.{Analysis}
use Rattle.case_walk.specs.Book.{total_of, solved_of}
use Rattle.case_walk.specs.Verdicts.{IsVerdict}

-- a verdict for each property, how many cases there are, and how many of them were solved
pub record IsOutcome (net : NetValue) (analysis : Analysis) (book : Seq Property) (outcome : Outcome) : Type 0 where
  pub verdicts : AllZip (IsVerdict net analysis) book outcome.verdicts
  pub long : length outcome.verdicts ≡ length book
  pub total : outcome.total ≡ total_of net book
  pub solved : outcome.solved ≡ solved_of net analysis book

-- the book has more cases than this project solves
pub record IsTooMany (net : NetValue) (book : Seq Property) (n : ℕ) : Type 0 where
  pub cases : n ≡ total_of net book
  pub many : 50000 < n

-- the outcome of a book of at most 50000 cases; else how many cases it has
abbrev pub IsAnswer : NetValue → Analysis → Seq Property → Result Outcome CertifyRefusal → Type 0
IsAnswer net analysis book (Ok outcome) = IsOutcome net analysis book outcome × (total_of net book ≤ 50000)
IsAnswer net analysis book (Err (CasesLimit n)) = IsTooMany net book n
IsAnswer net analysis book (Err NoMemory) = Unit {0}

-- the ticks before and after: one for each solved case, none for a book of too many cases
abbrev pub AreTicks : ℕ → ℕ → Result Outcome CertifyRefusal → Type 0
AreTicks old new (Ok outcome) = new ≡ old + outcome.solved
AreTicks old new (Err (CasesLimit n)) = new ≡ old
AreTicks old new (Err NoMemory) = Unit {0}
