-- Sets without others, and what a network's parts are at a position.
use Rattle.std.proofs.Common.{ℕ, ◌≡◌, ◌≢◌, ◌<◌, ◌≤◌, ◌==◌, ◌-◌, ◌^◌, ◌&&◌, ◌⊎◌, inl, inr, Bool, true, false, not, List, [], ◌∷◌, Option, Some, None, All, slice_get, bit_or, bit_and, arith, ap, subst, ◌∙◌, refl, cond}
use Rattle.std.specs.Int.{bit_not, w64, bit_at}
use Rattle.std.specs.Option.{option_map_or}
use Rattle.std.proofs.lemmas.Bool.Decides.{nat_tests}
use Rattle.std.proofs.lemmas.Nat.{or_lt, and_le_l}
use Rattle.std.proofs.lemmas.Nat.Bits.{bit_at-pow_same, bit_at-pow_other, bit_at_above, bit_at_not, bit_at-lt, bit_at_ones}
use Rattle.std.proofs.lemmas.List.Elements.{All-head, All-nil, All-tail, All-get_or}
use Rattle.std.proofs.lemmas.Option.{slice_get_within, get_or_from_slice_get}
use Rattle.net_types.specs.declared.network.NetCommunityEntry.{NetCommunityEntry}
use Rattle.net_types.specs.declared.network.NetCommunityList.{NetCommunityList}
use Rattle.net_types.specs.declared.network.NetMap.{NetMap}
use Rattle.net_types.specs.declared.network.Router.{Router}
use Rattle.net_types.specs.NetFacts.{IsNetCommunityEntry, IsNetCommunityList, IsNetMap, IsNetMapEntry, IsRouter}
use Rattle.net_types.specs.Sets.{has, IsPart}
use Rattle.net_types.proofs.SetLemmas.{has_union, has_common}
use Rattle.concrete_algebra.specs.Maps.{community_entries, deleted_by, map_entries}
use Rattle.abstract_maps.specs.RowSets.{minus}

pub bool_cases : (b : Bool) → (b ≡ true) ⊎ (b ≡ false)
bool_cases true = inl refl
bool_cases false = inr refl

pub below_or_not : (x n : ℕ) → (x < n) ⊎ (n ≤ x)
below_or_not x n = grind arith

same_or : (x y : ℕ) → (y ≡ x) ⊎ (y ≢ x)
same_or x y = grind arith

pub has_single : (x y : ℕ) → has (2 ^ x) y ≡ (y == x)
has_single x y = elim (same_or x y) [
  | inl same ↦ let e = bit_at-pow_same x in let f : bit_at (2 ^ x) y ≡ 1 = rw same e in grind (arith, nat_tests)
  | inr other ↦ let e = bit_at-pow_other x y other in grind (arith, nat_tests)
]

pub has_zero : (x : ℕ) → has 0 x ≡ false
has_zero x = let e = bit_at_above 0 0 x (omega arith) (omega arith) in grind (arith, nat_tests)

pub has_full : (x : ℕ) → x < 64 → has 18446744073709551615 x ≡ true
has_full x low = let e = bit_at_ones 64 x low in grind (arith, nat_tests)

pub has_not : (c x : ℕ) → c < 2 ^ 64 → x < 64 → has (bit_not w64 c) x ≡ not (has c x)
has_not c x small low = let e = bit_at_not w64 c x small low in let l = bit_at-lt c x in go (bit_at (bit_not w64 c) x) (bit_at c x) e l where
  go : (n b : ℕ) → n ≡ 1 - b → b < 2 → (n == 1) ≡ not (b == 1)
  go n b e l = grind (arith, nat_tests)

pub not_above : (c x : ℕ) → 64 ≤ x → has (bit_not w64 c) x ≡ false
not_above c x high = let e = bit_at_above (bit_not w64 c) 64 x (omega arith) high in grind (arith, nat_tests)

pub small_above : (c x : ℕ) → c < 2 ^ 64 → 64 ≤ x → has c x ≡ false
small_above c x small high = let e = bit_at_above c 64 x small high in grind (arith, nat_tests)

pub small_member : (v x : ℕ) → v < 2 ^ 64 → has v x ≡ true → x < 64
small_member v x small h = elim (below_or_not x 64) [
  | inl low ↦ low
  | inr high ↦ absurd (let e = small_above v x small high in cc)
]

pub has_minus : (s d x : ℕ) → d < 2 ^ 64 → x < 64 → has (minus s d) x ≡ (has s x && not (has d x))
has_minus s d x small low = has_common s (bit_not w64 d) x ∙ ap (λ (b : Bool). has s x && b) (has_not d x small low)

pub minus_part : (a b d : ℕ) → IsPart a b → IsPart (minus a d) (minus b d)
minus_part a b d p = record { members = λ x h. let e = has_common a (bit_not w64 d) x in let f = has_common b (bit_not w64 d) x in let g = p.members x in grind (arith, nat_tests) }

pub minus_less : (s d : ℕ) → IsPart (minus s d) s
minus_less s d = record { members = λ x h. let e = has_common s (bit_not w64 d) x in grind (arith, nat_tests) }

pub union_part : (a b d : ℕ) → IsPart a b → IsPart (bit_or a d) (bit_or b d)
union_part a b d p = record { members = λ x h. let e = has_union a d x in let f = has_union b d x in let g = p.members x in grind (arith, nat_tests) }

-- ---- what stands at a position

pub all_at : {X : Type 0} (P : X → Type 0) (xs : List X) (k : ℕ) (x : X) → All P xs → slice_get xs k ≡ Some x → P x
all_at P xs k x all is = subst P (get_or_from_slice_get xs k x x is) (All-get_or P xs k x (slice_get_within xs k x is) all)

pub masks_at : (count : ℕ) (router : Router) (position : ℕ) → IsRouter count router → All (IsNetCommunityEntry count) (community_entries router position)
masks_at count router position ok = go (slice_get router.community_lists position) refl where
  go : (o : Option NetCommunityList) → slice_get router.community_lists position ≡ o → All (IsNetCommunityEntry count) (option_map_or (λ (found : NetCommunityList). found.entries) o [])
  go None is = All-nil (IsNetCommunityEntry count)
  go (Some found) is = (all_at (IsNetCommunityList count) router.community_lists position found ok.community_lists is).entries

pub entries_at : (count : ℕ) (router : Router) (position : ℕ) → IsRouter count router → All (IsNetMapEntry count router) (map_entries router position)
entries_at count router position ok = go (slice_get router.maps position) refl where
  go : (o : Option NetMap) → slice_get router.maps position ≡ o → All (IsNetMapEntry count router) (option_map_or (λ (found : NetMap). found.entries) o [])
  go None is = All-nil (IsNetMapEntry count router)
  go (Some found) is = (all_at (IsNetMap count router) router.maps position found ok.maps is).entries

pub deleted_small : (count : ℕ) (es : List NetCommunityEntry) → All (IsNetCommunityEntry count) es → deleted_by es < 2 ^ 64
unfolding deleted_by
deleted_small count [] all = omega arith
deleted_small count (e ∷ es) all =
    step e.permit (All-head (IsNetCommunityEntry count) e es all).values.word (deleted_small count es (All-tail (IsNetCommunityEntry count) e es all)) where
      step : (permit : Bool) → e.values < 2 ^ 64 → deleted_by es < 2 ^ 64 → cond permit (bit_or e.values (deleted_by es)) (bit_and (deleted_by es) (bit_not w64 e.values)) < 2 ^ 64
      step true v d = or_lt 64 e.values (deleted_by es) v d
      step false v d = let l = and_le_l (deleted_by es) (bit_not w64 e.values) in omega arith
