-- Host names and names are ASCII.
use Rattle.std.proofs.Common.{ℕ, ◌≡◌, ◌<◌, ◌&&◌, Bool, List, true, false, All, arith}
use Rattle.std.specs.List.{list_all}
use Rattle.std.proofs.lemmas.List.Sums.{AllPass-from_list_all}
use Rattle.std.proofs.lemmas.List.Elements.{All-weaker}
use Rattle.std.proofs.lemmas.Bool.Decides.{nat_tests}
use Rattle.net_types.specs.Names.{is_host, is_host_byte, is_name, is_name_byte, is_name_long}

host_byte : (b : ℕ) → is_host_byte b ≡ true → b < 128
host_byte b h = grind (arith, nat_tests)

name_byte : (b : ℕ) → is_name_byte b ≡ true → b < 128
name_byte b h = grind (arith, nat_tests)

second : (a b : Bool) → (a && b) ≡ true → b ≡ true
second true b h = h
second false b h = cc

pub host_ascii : (word : List ℕ) → is_host word ≡ true → All (λ b. b < 128) word
host_ascii word h = All-weaker (λ b. is_host_byte b ≡ true) (λ b. b < 128) host_byte word (AllPass-from_list_all is_host_byte word (second (is_name_long word) (list_all is_host_byte word) h))

pub name_ascii : (word : List ℕ) → is_name word ≡ true → All (λ b. b < 128) word
name_ascii word h = All-weaker (λ b. is_name_byte b ≡ true) (λ b. b < 128) name_byte word (AllPass-from_list_all is_name_byte word (second (is_name_long word) (list_all is_name_byte word) h))
