-- What the results of the cases of a network say of its properties. This project's own.
use Rattle.std.specs.Prelude.{ℕ, List as Seq}
use Rattle.net_types.specs.NetValue.{NetValue}
use Rattle.refine_rounds.specs.Results.{result_of}
use Rattle.property_book.specs.declared.property.Property.{Property}
use Rattle.property_book.specs.declared.verdict.Broken.{Broken}
use Rattle.implication.specs.Implied.{IsBroken, IsImplied}
use Rattle.case_walk.specs.Analysis.{Analysis}

-- with these links failed, the result of the property's prefix implies the property
abbrev pub IsImpliedWith : NetValue → Property → Seq ℕ → Type 0
IsImpliedWith net property failed = IsImplied net property failed (result_of net property.prefix failed)

-- or this is what is broken of it
abbrev pub IsBrokenWith : NetValue → Property → Seq ℕ → Broken → Type 0
IsBrokenWith net property failed broken = IsBroken net property failed (result_of net property.prefix failed) broken

-- what is read of the results: the links that are idle in each, what each implies, and what is broken
abbrev pub analysis_of : NetValue → Analysis
analysis_of net = record {
  idle = λ prefix failed. (result_of net prefix failed).idle;
  Implied = IsImpliedWith net;
  IsBroken = IsBrokenWith net;
}
