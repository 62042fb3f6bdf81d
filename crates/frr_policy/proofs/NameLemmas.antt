-- The names of lists and maps are ASCII.
use Rattle.std.proofs.Common.{ℕ, ◌≡◌, ◌<◌, ◌&&◌, ◌==◌, not, Bool, List, [], ◌∷◌, Some, None, true, false, All, arith, refl, if◌then◌else◌}
use Rattle.std.specs.Prelude.{nat_le}
use Rattle.std.specs.List.{list_all}
use Rattle.std.specs.Str.{IsUtf8}
use Rattle.std.proofs.lemmas.List.Sums.{AllPass-from_list_all}
use Rattle.std.proofs.lemmas.List.Elements.{All-weaker}
use Rattle.std.proofs.lemmas.Bool.Decides.{nat_tests}
use Rattle.std.proofs.lemmas.Str.{IsUtf8-from_ascii}
use Rattle.std.proofs.lemmas.Str.Ascii.{IsAscii-from_all}
use Rattle.net_types.specs.Names.{is_name, is_name_byte, is_name_long}
use Rattle.net_types.specs.Numerals.{is_digit, is_numeral, number_in, value}

name_byte : (b : ℕ) → is_name_byte b ≡ true → b < 128
name_byte b h = grind (arith, nat_tests)

digit_byte : (b : ℕ) → is_digit b ≡ true → b < 128
digit_byte b h = grind (arith, nat_tests)

right : (a b : Bool) → (a && b) ≡ true → b ≡ true
right true b h = h
right false b h = cc

ascii_from : (test : ℕ → Bool) → ((b : ℕ) → test b ≡ true → b < 128) → (word : List ℕ) → list_all test word ≡ true → All (λ b. b < 128) word
ascii_from test small word h = All-weaker (λ b. test b ≡ true) (λ b. b < 128) small word (AllPass-from_list_all test word h)

pub name_ascii : (word : List ℕ) → is_name word ≡ true → All (λ b. b < 128) word
name_ascii word h = ascii_from is_name_byte name_byte word (right (is_name_long word) (list_all is_name_byte word) h)

digit_alone : (b : Bool) → b ≡ true → (b && true) ≡ true
digit_alone true h = refl
digit_alone false h = h

all_digits : (word : List ℕ) → is_numeral word ≡ true → list_all is_digit word ≡ true
all_digits [] h = refl
all_digits (d ∷ []) h = digit_alone (is_digit d) h
all_digits (d ∷ e ∷ more) h = right (not (d == 48)) (list_all is_digit (d ∷ e ∷ more)) h

pub numeral_ascii : (word : List ℕ) (low high n : ℕ) → Some n ≡ number_in low high word → All (λ b. b < 128) word
numeral_ascii word low high n e = go (is_numeral word) (nat_le low (value word)) (nat_le (value word) high) refl e where
  go : (a b c : Bool) → is_numeral word ≡ a → Some n ≡ (if a && b && c then Some (value word) else None) → All (λ b. b < 128) word
  go true b c h f = ascii_from is_digit digit_byte word (all_digits word h)
  go false b c h f = cc

pub ascii_utf8 : (word : List ℕ) → All (λ b. b < 128) word → IsUtf8 word
ascii_utf8 word h = IsUtf8-from_ascii word (IsAscii-from_all word h)
