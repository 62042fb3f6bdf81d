-- What is printed is ASCII.
use Rattle.std.proofs.Common.{ℕ, ◌≡◌, ◌<◌, List, true, All, arith}
use Rattle.std.specs.List.{list_all}
use Rattle.std.proofs.lemmas.List.Sums.{AllPass-from_list_all}
use Rattle.std.proofs.lemmas.List.Elements.{All-weaker}
use Rattle.std.proofs.lemmas.Bool.Decides.{nat_tests}
use Rattle.net_types.specs.Names.{is_name_byte}

name_byte : (b : ℕ) → is_name_byte b ≡ true → b < 128
name_byte b h = grind (arith, nat_tests)

pub printed_ascii : (word : List ℕ) → list_all is_name_byte word ≡ true → All (λ b. b < 128) word
printed_ascii word h = All-weaker (λ b. is_name_byte b ≡ true) (λ b. b < 128) name_byte word (AllPass-from_list_all is_name_byte word h)
