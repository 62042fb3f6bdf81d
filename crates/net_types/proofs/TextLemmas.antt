-- Addresses, prefixes and communities: what is written is read back, and addresses and prefixes are read from no other text.
use Rattle.std.proofs.Common.{ℕ, ◌≡◌, ◌≢◌, ◌<◌, ◌≤◌, ◌+◌, ◌*◌, ◌-◌, ◌/◌, ◌^◌, ◌==◌, ◌⊎◌, inl, inr, Bool, false, List, [], ◌∷◌, ◌++◌, length, get_or, All, Option, Some, None, option_and_then, arith, ap, ◌∙◌, refl, sym, subst, if◌then◌else◌}
use Rattle.std.specs.Prelude.{codes}
use Rattle.std.specs.Fmt.{decimal}
use Rattle.std.specs.Int.{IsInRange}
use Rattle.std.specs.List.{join_with_byte}
use Rattle.std.proofs.lemmas.Bool.{ne_eqb, eq-eqb, eqb-true}
use Rattle.std.proofs.lemmas.Fmt.{digits_decimal, decimal_nonempty}
use Rattle.std.proofs.lemmas.List.Elements.{All-append, All-cons, All-from_get_or}
use Rattle.std.proofs.lemmas.List.Splits.{slice_split_at, slice_split_none, join_with_byte-slice_split}
use Rattle.std.proofs.lemmas.Nat.{shr-shr, shr_split}
use Rattle.std.proofs.lemmas.Option.{cond_some, same_Some}
use Rattle.std.proofs.lemmas.Str.Parse.{not_in_digits}
use Rattle.net_types.specs.Addresses.{of_octets, octet, address_of_parts, address_of, with_length, interface_of_parts}
use Rattle.net_types.specs.AddressTexts.{byte_at, address_text, prefix_text}
use Rattle.net_types.specs.Communities.{of_halves, community_of_parts}
use Rattle.net_types.specs.Cut.{parts}
use Rattle.net_types.specs.Masks.{masked}
use Rattle.net_types.specs.Numerals.{number_in}
use Rattle.net_types.specs.NetFacts.{no_export, no_advertise}
use Rattle.net_types.specs.Order.{same_text}
use Rattle.net_types.specs.PrefixValue.{PrefixValue, IsPrefix}
use Rattle.net_types.specs.Prefixes.{without_host_bits}
use Rattle.net_types.specs.Then.{◌then◌}
use Rattle.net_types.specs.Laws.{AddressesReadBack, AddressesHaveOneText, PrefixesReadBack, PrefixesHaveOneText, CommunitiesReadBack, NamedCommunitiesAreRead}
use Rattle.net_types.proofs.NumberLemmas.{own, numbers_read_back, numbers_have_one_text}

out_of_range : (c : ℕ) → c < 48 ⊎ (57 < c) → IsInRange 48 57 c → ⊥
out_of_range c (inl l) r = omega arith
out_of_range c (inr l) r = omega arith

-- a decimal has no byte but digits
decimal_lacks : (c n : ℕ) → n < 2 ^ 64 → c < 48 ⊎ (57 < c) → All (λ b. (b == c) ≡ false) (decimal n)
decimal_lacks c n small out =
    All-from_get_or (λ (b : ℕ). (b == c) ≡ false) (decimal n) 0
    (λ i low. ne_eqb (get_or (decimal n) i 0) c (not_in_digits own (decimal n) c (digits_decimal own n small) (out_of_range c out) i low))

-- four pieces between points
four_parts : (c : ℕ) (w x y z : List ℕ) → All (λ b. (b == c) ≡ false) w → All (λ b. (b == c) ≡ false) x → All (λ b. (b == c) ≡ false) y → All (λ b. (b == c) ≡ false) z →
    parts c (w ++ (c ∷ (x ++ (c ∷ (y ++ (c ∷ z)))))) ≡ w ∷ x ∷ y ∷ z ∷ []
four_parts c w x y z a b d e =
    let t = eq-eqb c c refl in
    slice_split_at (λ (k : ℕ). k == c) w c (x ++ (c ∷ (y ++ (c ∷ z)))) a t ∙
    ap (λ (l : List (List ℕ)). w ∷ l) (slice_split_at (λ (k : ℕ). k == c) x c (y ++ (c ∷ z)) b t ∙
    ap (λ (l : List (List ℕ)). x ∷ l) (slice_split_at (λ (k : ℕ). k == c) y c z d t ∙
    ap (λ (l : List (List ℕ)). y ∷ l) (slice_split_none (λ (k : ℕ). k == c) z e)))

two_parts : (c : ℕ) (w x : List ℕ) → All (λ b. (b == c) ≡ false) w → All (λ b. (b == c) ≡ false) x → parts c (w ++ (c ∷ x)) ≡ w ∷ x ∷ []
two_parts c w x a b =
    let t = eq-eqb c c refl in
    slice_split_at (λ (k : ℕ). k == c) w c x a t ∙ ap (λ (l : List (List ℕ)). w ∷ l) (slice_split_none (λ (k : ℕ). k == c) x b)

-- the four bytes make the address
bytes_make : (a : ℕ) → a < 2 ^ 32 → ((byte_at a 3 * 256 + byte_at a 2) * 256 + byte_at a 1) * 256 + byte_at a 0 ≡ a
bytes_make a small =
    let e = shr-shr a 8 8 in
    let f = shr-shr a 16 8 in
    omega arith

octets_make : (w x y z : Option ℕ) (a b c d : ℕ) → w ≡ Some a → x ≡ Some b → y ≡ Some c → z ≡ Some d → of_octets w x y z ≡ Some (((a * 256 + b) * 256 + c) * 256 + d)
octets_make w x y z a b c d e f g h = rw (e, f, g, h) refl

byte_small : (a place : ℕ) → byte_at a place ≤ 255
byte_small a place = omega arith

octet_read : (a place : ℕ) → octet (decimal (byte_at a place)) ≡ Some (byte_at a place)
octet_read a place = let s = byte_small a place in numbers_read_back 0 255 (byte_at a place) (omega arith) (omega arith) s

byte_lacks : (c a place : ℕ) → c < 48 ⊎ (57 < c) → All (λ b. (b == c) ≡ false) (decimal (byte_at a place))
byte_lacks c a place out = let s = byte_small a place in decimal_lacks c (byte_at a place) (omega arith) out

pub addresses_read_back : AddressesReadBack
unfolding address_text
addresses_read_back a small =
    let below : 46 < 48 ⊎ (57 < 46) = inl (omega arith) in
    ap address_of_parts (four_parts 46 (decimal (byte_at a 3)) (decimal (byte_at a 2)) (decimal (byte_at a 1)) (decimal (byte_at a 0)) (byte_lacks 46 a 3 below) (byte_lacks 46 a 2 below) (byte_lacks 46 a 1 below) (byte_lacks 46 a 0 below)) ∙
    octets_make _ _ _ _ (byte_at a 3) (byte_at a 2) (byte_at a 1) (byte_at a 0) (octet_read a 3) (octet_read a 2) (octet_read a 1) (octet_read a 0) ∙
    ap Some (bytes_make a small)

-- what four octets say
octets_tell : (w x y z : Option ℕ) (a : ℕ) → of_octets w x y z ≡ Some a →
    (b : ℕ) × (c : ℕ) × (d : ℕ) × (e : ℕ) × (w ≡ Some b) × (x ≡ Some c) × (y ≡ Some d) × (z ≡ Some e) × (((b * 256 + c) * 256 + d) * 256 + e ≡ a)
octets_tell None x y z a is = absurd (let d : ⊥ = cc in d)
octets_tell (Some b) None y z a is = absurd (let d : ⊥ = cc in d)
octets_tell (Some b) (Some c) None z a is = absurd (let d : ⊥ = cc in d)
octets_tell (Some b) (Some c) (Some d) None a is = absurd (let d : ⊥ = cc in d)
octets_tell (Some b) (Some c) (Some d) (Some e) a is = (b, c, d, e, refl, refl, refl, refl, same_Some (((b * 256 + c) * 256 + d) * 256 + e) a is)

joined : (w x y z p q r s : List ℕ) → w ≡ p → x ≡ q → y ≡ r → z ≡ s → join_with_byte 46 (w ∷ x ∷ y ∷ z ∷ []) ≡ p ++ (46 ∷ (q ++ (46 ∷ (r ++ (46 ∷ s)))))
joined w x y z p q r s e f g h = rw (e, f, g, h) refl

bytes_are : (a b c d e : ℕ) → b ≤ 255 → c ≤ 255 → d ≤ 255 → e ≤ 255 → ((b * 256 + c) * 256 + d) * 256 + e ≡ a →
    (byte_at a 3 ≡ b) × (byte_at a 2 ≡ c) × (byte_at a 1 ≡ d) × (byte_at a 0 ≡ e)
bytes_are a b c d e f g h i is = (omega arith, omega arith, omega arith, omega arith)

octet_text : (part : List ℕ) (b : ℕ) → octet part ≡ Some b → (part ≡ decimal b) × (b ≤ 255)
octet_text part b is = let t = numbers_have_one_text 0 255 b part (omega arith) is in (t.0, t.2)

parts_are_text : (l : List (List ℕ)) (a : ℕ) → address_of_parts l ≡ Some a → join_with_byte 46 l ≡ address_text a
unfolding address_text
parts_are_text [] a is = absurd (let d : ⊥ = cc in d)
parts_are_text (w ∷ []) a is = absurd (let d : ⊥ = cc in d)
parts_are_text (w ∷ x ∷ []) a is = absurd (let d : ⊥ = cc in d)
parts_are_text (w ∷ x ∷ y ∷ []) a is = absurd (let d : ⊥ = cc in d)
parts_are_text (w ∷ x ∷ y ∷ z ∷ v ∷ more) a is = absurd (let d : ⊥ = cc in d)
parts_are_text (w ∷ x ∷ y ∷ z ∷ []) a is =
    let t = octets_tell (octet w) (octet x) (octet y) (octet z) a is in
    let b = octet_text w t.0 t.4 in
    let c = octet_text x t.1 t.5 in
    let d = octet_text y t.2 t.6 in
    let e = octet_text z t.3 t.7 in
    let s = bytes_are a t.0 t.1 t.2 t.3 b.1 c.1 d.1 e.1 t.8 in
    joined w x y z (decimal (byte_at a 3)) (decimal (byte_at a 2)) (decimal (byte_at a 1)) (decimal (byte_at a 0))
    (b.0 ∙ ap decimal (sym s.0)) (c.0 ∙ ap decimal (sym s.1)) (d.0 ∙ ap decimal (sym s.2)) (e.0 ∙ ap decimal (sym s.3))

pub addresses_have_one_text : AddressesHaveOneText
addresses_have_one_text a text is = sym (join_with_byte-slice_split 46 text) ∙ parts_are_text (parts 46 text) a is

-- the text of an address has no slash
address_lacks : (a : ℕ) → All (λ b. (b == 47) ≡ false) (address_text a)
unfolding address_text
address_lacks a =
    let below : 47 < 48 ⊎ (57 < 47) = inl (omega arith) in
    let point : (46 == 47) ≡ false = refl in
    All-append (λ (b : ℕ). (b == 47) ≡ false) (decimal (byte_at a 3)) _ (byte_lacks 47 a 3 below) (All-cons (λ (b : ℕ). (b == 47) ≡ false) 46 _ point
    (All-append (λ (b : ℕ). (b == 47) ≡ false) (decimal (byte_at a 2)) _ (byte_lacks 47 a 2 below) (All-cons (λ (b : ℕ). (b == 47) ≡ false) 46 _ point
    (All-append (λ (b : ℕ). (b == 47) ≡ false) (decimal (byte_at a 1)) _ (byte_lacks 47 a 1 below) (All-cons (λ (b : ℕ). (b == 47) ≡ false) 46 _ point
    (byte_lacks 47 a 0 below))))))

same_bits : (p : PrefixValue) → IsPrefix p → masked p.bits p.len ≡ p
same_bits p valid = let s = shr_split p.bits (32 - p.len) in let z = valid.cleared in let e : p.bits / 2 ^ (32 - p.len) * 2 ^ (32 - p.len) ≡ p.bits = omega arith in ap (λ (n : ℕ). record { bits = n; len = p.len }) e

unmasked : (p : PrefixValue) → IsPrefix p → without_host_bits p.bits (masked p.bits p.len) ≡ Some p
unmasked p valid =
    subst (λ (q : PrefixValue). without_host_bits p.bits q ≡ Some p) (sym (same_bits p valid)) (let t = eq-eqb p.bits p.bits refl in rw t refl)

assembled : (o n : Option ℕ) (p : PrefixValue) → IsPrefix p → o ≡ Some p.bits → n ≡ Some p.len →
    option_and_then (λ (a : ℕ × PrefixValue). without_host_bits a.0 a.1) (option_and_then (λ (a : ℕ). with_length a n) o) ≡ Some p
assembled o n p valid e f = rw (e, f) (unmasked p valid)

read_parts : (address len : List ℕ) (p : PrefixValue) → IsPrefix p → address_of address ≡ Some p.bits → number_in 0 32 len ≡ Some p.len →
    option_and_then (λ (a : ℕ × PrefixValue). without_host_bits a.0 a.1) (interface_of_parts (address ∷ len ∷ [])) ≡ Some p
read_parts address len p valid e f = assembled (address_of address) (number_in 0 32 len) p valid e f

pub prefixes_read_back : PrefixesReadBack
unfolding prefix_text
prefixes_read_back p valid =
    let below : 47 < 48 ⊎ (57 < 47) = inl (omega arith) in
    let few = valid.len in
    ap (λ (l : List (List ℕ)). option_and_then (λ (a : ℕ × PrefixValue). without_host_bits a.0 a.1) (interface_of_parts l))
    (two_parts 47 (address_text p.bits) (decimal p.len) (address_lacks p.bits) (decimal_lacks 47 p.len (omega arith) below)) ∙
    read_parts (address_text p.bits) (decimal p.len) p valid (addresses_read_back p.bits valid.bits) (numbers_read_back 0 32 p.len (omega arith) (omega arith) few)

-- what the address and the length of a prefix say
told : (o n : Option ℕ) (p : PrefixValue) →
    option_and_then (λ (a : ℕ × PrefixValue). without_host_bits a.0 a.1) (option_and_then (λ (a : ℕ). with_length a n) o) ≡ Some p → (o ≡ Some p.bits) × (n ≡ Some p.len)
told None n p is = absurd (let d : ⊥ = cc in d)
told (Some a) None p is = absurd (let d : ⊥ = cc in d)
told (Some a) (Some n) p is =
    let c = cond_some ((masked a n).bits == a) (masked a n) p is in (
      ap Some (sym (eqb-true (masked a n).bits a c.0) ∙ ap (λ (q : PrefixValue). q.bits) c.1),
      ap Some (ap (λ (q : PrefixValue). q.len) c.1),
    )

slashed : (address len p q : List ℕ) → address ≡ p → len ≡ q → join_with_byte 47 (address ∷ len ∷ []) ≡ p ++ (47 ∷ q)
slashed address len p q e f = rw (e, f) refl

prefix_parts : (l : List (List ℕ)) (p : PrefixValue) → option_and_then (λ (a : ℕ × PrefixValue). without_host_bits a.0 a.1) (interface_of_parts l) ≡ Some p → join_with_byte 47 l ≡ prefix_text p
unfolding prefix_text
prefix_parts [] p is = absurd (let d : ⊥ = cc in d)
prefix_parts (w ∷ []) p is = absurd (let d : ⊥ = cc in d)
prefix_parts (w ∷ x ∷ y ∷ more) p is = absurd (let d : ⊥ = cc in d)
prefix_parts (address ∷ len ∷ []) p is =
    let t = told (address_of address) (number_in 0 32 len) p is in
    slashed address len (address_text p.bits) (decimal p.len) (addresses_have_one_text p.bits address t.0) (numbers_have_one_text 0 32 p.len len (omega arith) t.1).0

pub prefixes_have_one_text : PrefixesHaveOneText
prefixes_have_one_text p text is = sym (join_with_byte-slice_split 47 text) ∙ prefix_parts (parts 47 text) p is

-- the two halves of a community
halves_make : (w x : Option ℕ) (first second : ℕ) → w ≡ Some first → x ≡ Some second → of_halves w x ≡ Some (first * 65536 + second)
halves_make w x first second e f = rw (e, f) refl

-- a text that begins with a digit is no name
begins_otherwise : (c : ℕ) (text name rest : List ℕ) → 0 < length text → get_or text 0 0 ≢ c → same_text (c ∷ name) (text ++ rest) ≡ false
begins_otherwise c [] name rest some differ = absurd (omega arith)
begins_otherwise c (d ∷ more) name rest some differ = let t = ne_eqb c d (λ e. differ (sym e)) in rw t refl

no_name : (n : ℕ) (rest : List ℕ) → n ≤ 65535 → (same_text (codes "no-export") (decimal n ++ rest) ≡ false) × (same_text (codes "no-advertise") (decimal n ++ rest) ≡ false)
no_name n rest small =
    let some = decimal_nonempty n (omega arith) in
    let digit = not_in_digits own (decimal n) 110 (digits_decimal own n (omega arith)) (out_of_range 110 (inr (omega arith))) 0 some in
    (begins_otherwise 110 (decimal n) (codes "o-export") rest some digit, begins_otherwise 110 (decimal n) (codes "o-advertise") rest some digit)

by_name : (s t : Bool) (o : Option ℕ) → s ≡ false → t ≡ false → (if s then Some no_export else (if t then Some no_advertise else o)) ≡ o
by_name s t o e f = rw (e, f) refl

pub communities_read_back : CommunitiesReadBack
communities_read_back first second small other =
    let below : 58 < 48 ⊎ (57 < 58) = inr (omega arith) in
    let n = no_name first (58 ∷ decimal second) small in
    by_name _ _ _ n.0 n.1 ∙
    ap community_of_parts (two_parts 58 (decimal first) (decimal second) (decimal_lacks 58 first (omega arith) below) (decimal_lacks 58 second (omega arith) below)) ∙
    halves_make _ _ first second (numbers_read_back 0 65535 first (omega arith) (omega arith) small) (numbers_read_back 0 65535 second (omega arith) (omega arith) other)

pub named_communities_are_read : NamedCommunitiesAreRead
named_communities_are_read = (refl, refl, refl, refl)
