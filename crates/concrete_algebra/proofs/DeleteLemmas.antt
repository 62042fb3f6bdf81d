-- What a community list deletes, asked of one community.
use Rattle.std.proofs.Common.{ℕ, ◌≡◌, ◌<◌, ◌-◌, ◌==◌, ◌^◌, ◌&&◌, ◌||◌, Bool, true, false, not, List, [], ◌∷◌, All, bit_or, bit_and, arith, ap, ◌∙◌, refl, if◌then◌else◌}
use Rattle.std.specs.Int.{bit_not, w64, bit_at}
use Rattle.std.proofs.lemmas.Bool.Decides.{nat_tests}
use Rattle.std.proofs.lemmas.List.Elements.{All-head, All-tail}
use Rattle.std.proofs.lemmas.Nat.{and_le_l, or_lt}
use Rattle.std.proofs.lemmas.Nat.Bits.{bit_at_not, bit_at-lt, bit_at-zero}
use Rattle.net_types.specs.declared.network.NetCommunityEntry.{NetCommunityEntry}
use Rattle.net_types.specs.NetFacts.{IsNetCommunityEntry}
use Rattle.net_types.specs.Sets.{has}
use Rattle.net_types.proofs.SetLemmas.{has_union, has_common}
use Rattle.concrete_algebra.specs.Laws.{DeletesAreNamed}
use Rattle.concrete_algebra.specs.Maps.{deleted_by, is_deleted}

pub has_none : (x : ℕ) → has 0 x ≡ false
has_none x = let e = bit_at-zero x in grind (arith, nat_tests)

pub has_others : (c x : ℕ) → c < 2 ^ 64 → x < 64 → has (bit_not w64 c) x ≡ not (has c x)
has_others c x small low = let e = bit_at_not w64 c x small low in let l = bit_at-lt c x in go (bit_at (bit_not w64 c) x) (bit_at c x) e l where
  go : (n b : ℕ) → n ≡ 1 - b → b < 2 → (n == 1) ≡ not (b == 1)
  go n b e l = grind (arith, nat_tests)

-- one more entry, by its action and by whether it names the community
permits : (a b : Bool) → (a || b) ≡ (if a then true else b)
permits true b = refl
permits false b = refl

denies : (a b : Bool) → (b && not a) ≡ (if a then false else b)
denies true true = refl
denies true false = refl
denies false true = refl
denies false false = refl

one_more : (permit : Bool) (values later x : ℕ) (named : Bool) → values < 2 ^ 64 → x < 64 → has later x ≡ named →
    has (if permit then bit_or values later else bit_and later (bit_not w64 values)) x ≡ (if has values x then permit else named)
one_more true values later x named small low rest =
    has_union values later x ∙ ap (λ (b : Bool). has values x || b) rest ∙ permits (has values x) named
one_more false values later x named small low rest =
    has_common later (bit_not w64 values) x ∙ ap (λ (b : Bool). has later x && b) (has_others values x small low) ∙
    ap (λ (b : Bool). b && not (has values x)) rest ∙ denies (has values x) named

pub deletes_are_named : DeletesAreNamed
unfolding deleted_by is_deleted
deletes_are_named count [] x valid low = has_none x
deletes_are_named count (entry ∷ later) x valid low =
    one_more entry.permit entry.values (deleted_by later) x (is_deleted x later)
    (All-head (IsNetCommunityEntry count) entry later valid).values.word low
    (deletes_are_named count later x (All-tail (IsNetCommunityEntry count) entry later valid) low)

-- the word is one of 64 bits
kept_small : (permit : Bool) (values later : ℕ) → values < 2 ^ 64 → later < 2 ^ 64 → (if permit then bit_or values later else bit_and later (bit_not w64 values)) < 2 ^ 64
kept_small true values later small rest = or_lt 64 values later small rest
kept_small false values later small rest = let e = and_le_l later (bit_not w64 values) in omega arith

pub deletes_small : (count : ℕ) (entries : List NetCommunityEntry) → All (IsNetCommunityEntry count) entries → deleted_by entries < 2 ^ 64
unfolding deleted_by
deletes_small count [] valid = omega arith
deletes_small count (entry ∷ later) valid =
    kept_small entry.permit entry.values (deleted_by later)
    (All-head (IsNetCommunityEntry count) entry later valid).values.word
    (deletes_small count later (All-tail (IsNetCommunityEntry count) entry later valid))
