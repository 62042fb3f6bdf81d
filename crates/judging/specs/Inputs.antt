-- What a change is judged by, or why it is refused: the side before the change, the side after, the book, and the cases of
-- the book on each side.
use Rattle.std.specs.Prelude.{ℕ, ◌≡◌, ◌≤◌, nat_lt, All, List as Seq, length, Option, Some, None, Result, Ok, Err, if◌then◌else◌}
use Rattle.net_types.specs.declared.config.SourceFile.{SourceFile}
use Rattle.net_types.specs.declared.refusals.BundleSide.{BundleSide}
use Rattle.net_types.specs.declared.refusals.BundleSide.TheVariants.{Base, New}
use Rattle.net_types.specs.NetValue.{NetValue}
use Rattle.bundle_reader.specs.Bundle.{bundle_of}
use Rattle.property_book.specs.declared.property.Property.{Property}
use Rattle.property_book.specs.Book as Book
use Rattle.certify.specs.Counts.{total_of}
use Rattle.judging.specs.declared.inputs.Inputs.{Inputs}
use Rattle.judging.specs.declared.inputs.Networks.{Networks}
use Rattle.judging.specs.declared.refusals.JudgeRefusal.{JudgeRefusal}
use Rattle.judging.specs.declared.refusals.JudgeRefusal.TheVariants as Refusal
use Rattle.judging.specs.declared.refusals.NotJudged.{NotJudged}
use Rattle.judging.specs.declared.refusals.NotJudged.TheVariants.{Refused, NoMemory}
use Rattle.judging.specs.Steps.{and_then, or_refused}

-- the network of a side's files
unfoldable pub network_of : BundleSide → Seq SourceFile → Result NetValue JudgeRefusal
network_of side files = or_refused (Refusal.Bundle side) (bundle_of files)

-- the book of a property file
unfoldable pub book_of : Seq ℕ → Result (Seq Property) JudgeRefusal
book_of text = or_refused Refusal.Book (Book.book_of text)

-- the networks of the files before and after a change: the first side that is refused decides
unfoldable pub networks_of : Seq SourceFile → Seq SourceFile → Result Networks JudgeRefusal
networks_of base new =
    and_then (network_of Base base) (λ base_net.
    and_then (network_of New new) (λ new_net. Ok (record { base = base_net; new = new_net })))

-- what a change is judged by, from those files and a book, which is asked last
unfoldable pub inputs_with : Seq SourceFile → Seq SourceFile → Result (Seq Property) JudgeRefusal → Result Inputs JudgeRefusal
inputs_with base new book =
    and_then (networks_of base new) (λ networks.
    and_then book (λ properties. Ok (record { base = networks.base; new = networks.new; book = properties })))

-- with the book of a property file
abbrev pub inputs_of : Seq SourceFile → Seq SourceFile → Seq ℕ → Result Inputs JudgeRefusal
inputs_of base new text = inputs_with base new (book_of text)

-- the refusal of a side where the book has more than 50,000 cases in its network
abbrev pub too_many : BundleSide → NetValue → Seq Property → Option JudgeRefusal
too_many side net book = if nat_lt 50000 (total_of net book) then Some (Refusal.CasesLimit side (total_of net book)) else None

-- the side before the change is asked first
abbrev pub or_else : Option JudgeRefusal → Option JudgeRefusal → Option JudgeRefusal
or_else (Some refusal) later = Some refusal
or_else None later = later

unfoldable pub limit_of : Inputs → Option JudgeRefusal
limit_of inputs = or_else (too_many Base inputs.base inputs.book) (too_many New inputs.new inputs.book)

-- the inputs, unless a side has too many cases
abbrev pub unless_refused : Option JudgeRefusal → Inputs → Result Inputs JudgeRefusal
unless_refused (Some refusal) inputs = Err refusal
unless_refused None inputs = Ok inputs

abbrev pub limited : Inputs → Result Inputs JudgeRefusal
limited inputs = unless_refused (limit_of inputs) inputs

-- the answer is a step's value or its refusal, unless there was no memory
abbrev pub Judges : {A : Type 0} → Result A JudgeRefusal → Result A NotJudged → Type 0
Judges value (Ok found) = value ≡ Ok found
Judges value (Err (Refused refusal)) = value ≡ Err refusal
Judges value (Err NoMemory) = Unit {0}

-- what is asked of inputs: at most 64 properties, each of which can be asked
pub record CanBeJudged (inputs : Inputs) : Type 0 where
  pub asked : All Book.IsAsked inputs.book
  pub few : length inputs.book ≤ 64
