-- Communities in the texts of a label file, and sets of them.
use Rattle.std.specs.Prelude.{ℕ, ◌^◌, List as Seq, Option, option_and_then, fold, bit_or}
use Rattle.net_types.specs.Communities.{community_of}
use Rattle.net_types.specs.NetValue.{NetValue}
use Rattle.net_types.specs.Numbering.{community_number}

-- the number of the community of a text, where it is one of the network
abbrev pub community_in : NetValue → Seq ℕ → Option ℕ
community_in net text = option_and_then (community_number net) (community_of text)

-- the set of some numbers below 64, and what is in the set beside some numbers
abbrev pub with_number : ℕ → ℕ → ℕ
with_number set number = bit_or set (2 ^ number)

abbrev pub set_of : Seq ℕ → ℕ
set_of numbers = fold with_number 0 numbers
