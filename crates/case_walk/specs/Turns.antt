-- How the verdicts of a book change while the sets of one prefix are gone over. These serve the code.
use Rattle.std.specs.Prelude.{ℕ, ◌≡◌, ◌<◌, ◌≤◌, true, false, Option, Some, None, List as Seq, length, take, count_by}
use Rattle.std.specs.List.{slice_get}
use Rattle.net_types.specs.NetValue.{NetValue}
use Rattle.net_types.specs.PrefixValue.{PrefixValue}
use Rattle.failure_sets.specs.SetList.{failure_sets}
use Rattle.property_book.specs.declared.property.Property.{Property}
use Rattle.property_book.specs.declared.verdict.Broken.{Broken}
use Rattle.property_book.specs.declared.verdict.Verdict.{Verdict}
use Rattle.property_book.specs.declared.verdict.Verdict.TheVariants.{Certified, NotCertified, NotApplicable}
use Rattle.case_walk.specs.declared.walk.Sweep.{Sweep}
use Rattle.case_walk.specs.Analysis.{Analysis}
use Rattle.case_walk.specs.Book.{is_of}
use Rattle.case_walk.specs.Verdicts.{IsVerdict}
use Rattle.case_walk.specs.Marks.{AllTurn}
use Rattle.case_walk.specs.Words.{AreWords}
use Rattle.case_walk.specs.Representatives.{is_own}

-- in the first `n` of the sets a property is broken first in this set, of those that it asks of
pub record IsFirstOf (analysis : Analysis) (property : Property) (sets : Seq (Seq ℕ)) (n : ℕ) (set : Seq ℕ) (broken : Broken) : Type 0 where
  pub place : ℕ
  pub within : place < n
  pub found : slice_get sets place ≡ Some set
  pub few : length set ≤ property.failures
  pub is_broken : analysis.IsBroken property set broken
  pub first : (i : ℕ) (other : Seq ℕ) → i < place → slice_get sets i ≡ Some other → length other ≤ property.failures → analysis.Implied property other

-- the verdict of a property over the first `n` of the sets
abbrev pub IsVerdictOf : Analysis → Property → Seq (Seq ℕ) → ℕ → Verdict → Type 0
IsVerdictOf analysis property sets n (NotApplicable bar) = ⊥
IsVerdictOf analysis property sets n Certified = (i : ℕ) (set : Seq ℕ) → i < n → slice_get sets i ≡ Some set → length set ≤ property.failures → analysis.Implied property set
IsVerdictOf analysis property sets n (NotCertified set broken) = IsFirstOf analysis property sets n set broken

-- a property's verdict before the sets of a prefix, and after the first `n` of them
pub record IsTurn (net : NetValue) (analysis : Analysis) (links : ℕ) (prefix : PrefixValue) (most n : ℕ) (property : Property) (old new : Verdict) : Type 0 where
  pub mine : is_of net prefix property ≡ true → old ≡ Certified → IsVerdictOf analysis property (failure_sets links most) n new
  pub other : is_of net prefix property ≡ false → new ≡ old

-- a property's verdict before the sets of a prefix, and after all of them
pub record IsJudged (net : NetValue) (analysis : Analysis) (prefix : PrefixValue) (most : ℕ) (property : Property) (old new : Verdict) : Type 0 where
  pub mine : is_of net prefix property ≡ true → property.failures ≤ most → old ≡ Certified → IsVerdict net analysis property new
  pub other : is_of net prefix property ≡ false → new ≡ old

-- the walk over the sets of a prefix, with the set that is to come, none at the end
pub record IsWalk (net : NetValue) (analysis : Analysis) (links : ℕ) (prefix : PrefixValue) (most : ℕ) (book : Seq Property) (first : Seq Verdict) (sweep : Sweep) (now : Seq Verdict) (at : Option (Seq ℕ)) : Type 0 where
  pub words : AreWords (analysis.idle prefix) links sweep.words
  pub solved : sweep.solved ≡ count_by (is_own (analysis.idle prefix)) (take (length sweep.words) (failure_sets links most))
  pub turns : AllTurn (IsTurn net analysis links prefix most (length sweep.words)) book first now
  pub next : at ≡ slice_get (failure_sets links most) (length sweep.words)
