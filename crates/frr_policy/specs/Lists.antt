-- What the lines of prefix lists and community lists have in common: a name, a sequence number and an
-- action in front; and the number of the entry that a line adds.
use Rattle.std.specs.Prelude.{ℕ, Bool, false, ◌≡◌, ◌<◌, ◌==◌, ◌+◌, ◌*◌, ◌/◌, nat_le, max, List, length, fold, codes, Option, Some, None, Result, Ok, Err, if◌then◌else◌}
use Rattle.std.specs.List.{list_any}
use Rattle.frr_policy.specs.declared.refusals.LineRefusal.{LineRefusal}
use Rattle.frr_policy.specs.declared.refusals.LineRefusal.TheVariants.{BadValue, Repeated, OutOfLimit}
use Rattle.frr_policy.specs.Values.{action_of, positive_of}
use Rattle.frr_policy.specs.Grammar.{first, optional, and_then}
use Rattle.frr_policy.specs.Answers.{then_answer}

-- what stands in front of what a list's entry matches
pub record FrontValue : Type 0 where
  pub name : List ℕ
  pub seq : Option ℕ
  pub permit : Bool

-- behind the name: optional `seq` NUM, then ACT
abbrev pub front_of : List ℕ → List (List ℕ) → Option (FrontValue × List (List ℕ))
front_of name words =
    and_then (optional (codes "seq") positive_of words) (λ seq more.
    and_then (first action_of more) (λ permit behind.
    Some (record { name = name; seq = seq; permit = permit }, behind)))

-- the greatest of the sequence numbers, or 0
abbrev pub greatest : List ℕ → ℕ
greatest numbers = fold max 0 numbers

abbrev pub if_word : ℕ → Result ℕ LineRefusal
if_word number = if nat_le number 4294967295 then Ok number else Err BadValue

-- the number of a new entry: the written one, or the next multiple of 5
abbrev pub number_of : Option ℕ → List ℕ → Result ℕ LineRefusal
number_of (Some written) taken = Ok written
number_of None taken = if_word (greatest taken / 5 * 5 + 5)

-- a list or a map has at most so many entries
abbrev pub most_entries : ℕ
most_entries = 64

-- a new entry with this number beside those that are there
abbrev pub if_free : List ℕ → ℕ → Result ℕ LineRefusal
if_free taken number =
    if list_any (λ n. n == number) taken then Err Repeated else
    (if nat_le most_entries (length taken) then Err OutOfLimit else Ok number)

-- none of the numbers that are taken is this one, and there is room for one more
pub record HasRoom (taken : List ℕ) (number : ℕ) : Type 0 where
  pub free : list_any (λ n. n == number) taken ≡ false
  pub few : length taken < 64

-- the number of a new entry, or why there is none
abbrev pub new_number : Option ℕ → List ℕ → Result ℕ LineRefusal
new_number written taken = then_answer (number_of written taken) (if_free taken)
