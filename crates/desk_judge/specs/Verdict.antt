-- The verdict of a property as a function of the network, and what is found of a book. That it is the verdict that
-- `certify/specs/Verdicts.antt` speaks of is a law. All of this is the project's own.
use Rattle.std.specs.Prelude.{ℕ, List as Seq, [], ◌∷◌, length, map, Option, Some, None}
use Rattle.net_types.specs.NetValue.{NetValue}
use Rattle.failure_sets.specs.SetList.{failure_sets}
use Rattle.property_book.specs.Applicable.{barred}
use Rattle.property_book.specs.declared.property.Property.{Property}
use Rattle.property_book.specs.declared.verdict.Barred.{Barred}
use Rattle.property_book.specs.declared.verdict.Broken.{Broken}
use Rattle.property_book.specs.declared.verdict.Outcome.{Outcome}
use Rattle.property_book.specs.declared.verdict.Verdict.{Verdict}
use Rattle.property_book.specs.declared.verdict.Verdict.TheVariants.{Certified, NotCertified, NotApplicable}
use Rattle.refine_rounds.specs.Results.{result_of}
use Rattle.certify.specs.Counts.{solved_of, total_of}
use Rattle.desk_judge.specs.Answer.{answer_of}

-- what is broken of the property with these links failed, if anything is
unfoldable pub broken_with : NetValue → Property → Seq ℕ → Option Broken
broken_with net property failed = answer_of net property failed (result_of net property.prefix failed)

-- the first of the sets with which something is broken decides; certified where there is none
abbrev pub or_later : Seq ℕ → Option Broken → Verdict → Verdict
or_later failed (Some broken) later = NotCertified failed broken
or_later failed None later = later

abbrev pub first_broken : (Seq ℕ → Option Broken) → Seq (Seq ℕ) → Verdict
first_broken broken [] = Certified
first_broken broken (failed ∷ sets) = or_later failed (broken failed) (first_broken broken sets)

abbrev pub unless_barred : Option Barred → Verdict → Verdict
unless_barred (Some bar) verdict = NotApplicable bar
unless_barred None verdict = verdict

-- the verdict of a property, over the sets of failed links that it permits, in their order
unfoldable pub verdict_of : NetValue → Property → Verdict
verdict_of net property =
    unless_barred (barred net property)
    (first_broken (broken_with net property) (failure_sets (length net.links) property.failures))

-- what is found of a book
unfoldable pub outcome_of : NetValue → Seq Property → Outcome
outcome_of net book = record { verdicts = map (verdict_of net) book; solved = solved_of net book; total = total_of net book }
