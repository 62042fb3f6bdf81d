-- What is known of the sets that were gone over: the idle links, as words. These serve the code.
use Rattle.std.specs.Prelude.{ℕ, ◌≡◌, ◌+◌, if◌then◌else◌, Bool, false, Option, Some, None, List as Seq, length, find}
use Rattle.std.specs.List.{slice_get}
use Rattle.net_types.specs.FailSets.{without}
use Rattle.net_types.specs.NetValue.{NetValue}
use Rattle.net_types.specs.PrefixValue.{PrefixValue}
use Rattle.net_types.specs.Sets.{has}
use Rattle.failure_sets.specs.SetOrder.{IsPermitted}
use Rattle.failure_sets.specs.SetList.{place_of}
use Rattle.property_book.specs.declared.property.Property.{Property}
use Rattle.property_book.specs.declared.verdict.Verdict.{Verdict}
use Rattle.case_walk.specs.declared.walk.Sweep.{Sweep}
use Rattle.case_walk.specs.Analysis.{Analysis}
use Rattle.case_walk.specs.Representatives.{representative, is_own}
use Rattle.case_walk.specs.Marks.{AreMarkedIf}

-- the word of the set
abbrev pub word_of : ℕ → Seq ℕ → Seq ℕ → Option ℕ
word_of links words set = slice_get words (place_of links set)

-- whether the link is in a word, if there is one
abbrev pub has_in : ℕ → Option ℕ → Bool
has_in link None = false
has_in link (Some word) = has word link

-- the least link of the set that is in the word of the set without it
unfoldable pub spare_in : ℕ → Seq ℕ → Seq ℕ → Option ℕ
spare_in links words set = find (λ link. has_in link (word_of links words (without set link))) set

-- the word of a set, at its place, is that of its representative: right for the set at the links outside it
pub record AreWords (idle : Seq ℕ → ℕ) (links : ℕ) (words : Seq ℕ) : Type 0 where
  pub word : (set : Seq ℕ) (word : ℕ) → IsPermitted links 3 set → word_of links words set ≡ Some word → word ≡ idle (representative idle set)

-- how far the walk over the sets of a prefix comes with one set more
pub record IsStep (net : NetValue) (analysis : Analysis) (links : ℕ) (prefix : PrefixValue) (book : Seq Property) (set : Seq ℕ) (old new : Sweep) (olds news : Seq Verdict) : Type 0 where
  pub words : AreWords (analysis.idle prefix) links new.words
  pub long : length new.words ≡ length old.words + 1
  pub solved : new.solved ≡ old.solved + (if is_own (analysis.idle prefix) set then 1 else 0)
  pub verdicts : AreMarkedIf net analysis prefix set (is_own (analysis.idle prefix) set) book olds news
