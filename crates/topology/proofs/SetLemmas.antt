-- The communities of configurations are numbers of 32 bits, and the sets of them name communities alone.
use Rattle.std.proofs.Common.{ℕ, ◌≡◌, ◌≤◌, ◌<◌, ◌^◌, ◌==◌, ◌||◌, ◌⊎◌, ◌↔◌, inl, inr, ⊎_elim, Bool, true, false, List, [], ◌∷◌, length, fold, refl, ap, sym, ◌∙◌, arith, bit_or, All, AllPairs, Contains, nat_eq, nat_lt, Option, Some, None}
use Rattle.std.specs.List.{AllByRecursion, flat_map}
use Rattle.std.specs.Int.{bit_at}
use Rattle.std.proofs.lemmas.Bool.{false≢true}
use Rattle.std.proofs.lemmas.Bool.Decides.{nat_tests}
use Rattle.std.proofs.lemmas.List.Elements.{All-from_recursion, recursion_from_All}
use Rattle.std.proofs.lemmas.List.Quantifiers.{position-Some}
use Rattle.std.proofs.Math.Pow.{pow-lt}
use Rattle.std.proofs.lemmas.Nat.{or_lt}
use Rattle.std.proofs.lemmas.Nat.Bits.{bit_at-pow_other, bit_at-pow_same, bit_at-zero}
use Rattle.net_types.specs.Sets.{has}
use Rattle.net_types.specs.Numbering.{community_among}
use Rattle.net_types.specs.NetFacts.{IsMask, no_export, no_advertise}
use Rattle.net_types.specs.ConfigFacts.{IsConfig, IsCommunityList, IsCommunityEntry, IsMap, IsMapEntry, IsSetCommunity}
use Rattle.net_types.specs.declared.config.RouterConfig.{RouterConfig}
use Rattle.net_types.specs.declared.config.CommunityList.{CommunityList}
use Rattle.net_types.specs.declared.config.CommunityEntry.{CommunityEntry}
use Rattle.net_types.specs.declared.config.RouteMap.{RouteMap}
use Rattle.net_types.specs.declared.config.MapEntry.{MapEntry}
use Rattle.net_types.specs.declared.config.SetCommunity.{SetCommunity}
use Rattle.net_types.specs.declared.config.SetCommunity.TheVariants.{Keep, Replace, Add, Clear}
use Rattle.net_types.proofs.SetLemmas.{has_union}
use Rattle.topology.specs.Communities.{set_values, list_values, map_values, config_values, named_values, communities, with_number, with_community, set_of, IsSetOf}
use Rattle.topology.proofs.RisingLemmas.{All-append, All-flat_map, All-ascending, Rises-ascending, AllPairs-from_rises}
use Rattle.topology.proofs.OrderLaws.{number_order, number-equal}
use Rattle.topology.proofs.MemberLemmas.{In, In-ascending, Contains-from_In, In-from_Contains}

-- each named community is a number of 32 bits
abbrev IsCommunity : ℕ → Type 0
IsCommunity c = c < 2 ^ 32

words-set_values : (set : SetCommunity) → IsSetCommunity set → AllByRecursion IsCommunity (set_values set)
words-set_values Keep h = tt
words-set_values (Replace values) h = recursion_from_All IsCommunity values h
words-set_values (Add values) h = recursion_from_All IsCommunity values h
words-set_values Clear h = tt

words-list_values : (communities : CommunityList) → IsCommunityList communities → AllByRecursion IsCommunity (list_values communities)
words-list_values communities h = All-flat_map (λ (entry : CommunityEntry). entry.values) IsCommunityEntry IsCommunity (λ entry e. recursion_from_All IsCommunity entry.values e.values) communities.entries (recursion_from_All IsCommunityEntry communities.entries h.entries)

words-map_values : (config : RouterConfig) (routes : RouteMap) → IsMap config routes → AllByRecursion IsCommunity (map_values routes)
words-map_values config routes h = All-flat_map (λ (entry : MapEntry). set_values entry.sets.community) (IsMapEntry config) IsCommunity (λ entry e. words-set_values entry.sets.community e.sets.community) routes.entries (recursion_from_All (IsMapEntry config) routes.entries h.entries)

words-config_values : (config : RouterConfig) → IsConfig config → AllByRecursion IsCommunity (config_values config)
words-config_values config c =
    All-append IsCommunity (flat_map (λ communities. list_values communities) config.community_lists) (flat_map (λ routes. map_values routes) config.maps)
    (All-flat_map (λ communities. list_values communities) IsCommunityList IsCommunity (λ l h. words-list_values l h) config.community_lists (recursion_from_All IsCommunityList config.community_lists c.community_lists))
    (All-flat_map (λ routes. map_values routes) (IsMap config) IsCommunity (λ m h. words-map_values config m h) config.maps (recursion_from_All (IsMap config) config.maps c.maps))

words-named_values : (configs : List RouterConfig) → AllByRecursion IsConfig configs → AllByRecursion IsCommunity (named_values configs)
words-named_values configs a = All-flat_map (λ config. config_values config) IsConfig IsCommunity (λ config c. words-config_values config c) configs a

pub words-communities : (configs : List RouterConfig) → AllByRecursion IsConfig configs → All (λ c. c < 2 ^ 32) (communities configs)
words-communities configs a =
    All-from_recursion IsCommunity (communities configs) (All-ascending IsCommunity nat_eq nat_lt (no_export ∷ no_advertise ∷ named_values configs) (omega arith, (omega arith, words-named_values configs a)))

less : (x y : ℕ) → nat_lt x y ≡ true → x < y
less x y h = grind (arith, nat_tests)

pub communities-rise : (configs : List RouterConfig) → AllPairs (λ (a b : ℕ). a < b) (communities configs)
communities-rise configs = λ i j d l h. less _ _ (AllPairs-from_rises nat_lt (communities configs) (Rises-ascending nat_eq nat_lt number_order (no_export ∷ no_advertise ∷ named_values configs)) i j d l h)

pub no_export-there : (configs : List RouterConfig) → Contains (communities configs) no_export
no_export-there configs = Contains-from_In no_export (communities configs) (In-ascending nat_eq nat_lt number-equal no_export (no_export ∷ no_advertise ∷ named_values configs) (inl refl))

pub no_advertise-there : (configs : List RouterConfig) → Contains (communities configs) no_advertise
no_advertise-there configs = Contains-from_In no_advertise (communities configs) (In-ascending nat_eq nat_lt number-equal no_advertise (no_export ∷ no_advertise ∷ named_values configs) (inr (inl refl)))

-- sets of numbers of communities
power-below : (n : ℕ) → n < 64 → 2 ^ n < 2 ^ 64
power-below n h = pow-lt h

only-itself : (n c : ℕ) → has (2 ^ n) c ≡ true → c ≡ n
only-itself n c h = go (c == n) refl where
  off : (bit : ℕ) → bit ≡ 0 → (bit == 1) ≡ false
  off bit e = grind (arith, nat_tests)

  go : (b : Bool) → (c == n) ≡ b → c ≡ n
  go true e = grind (arith, nat_tests)
  go false e = absurd (false≢true (sym (off (bit_at (2 ^ n) c) (bit_at-pow_other n c (λ f. false≢true (sym e ∙ let t : (c == n) ≡ true = grind (arith, nat_tests) in t)))) ∙ h))

either : (a b : Bool) → (a || b) ≡ true → (a ≡ true) ⊎ (b ≡ true)
either true b h = inl refl
either false b h = inr h

IsMask-more : (count set n : ℕ) → count ≤ 64 → IsMask count set → n < count → IsMask count (bit_or set (2 ^ n))
IsMask-more count set n few m h = record {
  word = or_lt 64 set (2 ^ n) m.word (power-below n (omega arith));
  named = λ c t. ⊎_elim (λ u. m.named c u) (λ u. let e = only-itself n c u in omega arith) (either (has set c) (has (2 ^ n) c) (sym (has_union set (2 ^ n) c) ∙ t));
}

IsMask-with_community : (all : List ℕ) (set value : ℕ) → length all ≤ 64 → IsMask (length all) set → IsMask (length all) (with_community all set value)
unfolding with_community
IsMask-with_community all set value few m = go (community_among all value) refl where
  go : (o : Option ℕ) → community_among all value ≡ o → IsMask (length all) (with_number set o)
  go None e = m
  go (Some n) e = IsMask-more (length all) set n few m (position-Some (λ c. c == value) all n 0 e).0

IsMask-fold : (all values : List ℕ) (set : ℕ) → length all ≤ 64 → IsMask (length all) set → IsMask (length all) (fold (λ set value. with_community all set value) set values)
IsMask-fold all [] set few m = m
IsMask-fold all (value ∷ values) set few m = IsMask-fold all values (with_community all set value) few (IsMask-with_community all set value few m)

IsMask-none : (count : ℕ) → IsMask count 0
IsMask-none count = record {
  word = omega arith;
  named = λ c h. absurd (false≢true (sym (off (bit_at 0 c) (bit_at-zero c)) ∙ h));
} where
  off : (bit : ℕ) → bit ≡ 0 → (bit == 1) ≡ false
  off bit e = grind (arith, nat_tests)

pub IsMask-set_of : (all values : List ℕ) → length all ≤ 64 → IsMask (length all) (set_of all values)
IsMask-set_of all values few = IsMask-fold all values 0 few (IsMask-none (length all))

-- what is in the set of some communities
itself : (n : ℕ) → has (2 ^ n) n ≡ true
itself n = on (bit_at (2 ^ n) n) (bit_at-pow_same n) where
  on : (bit : ℕ) → bit ≡ 1 → (bit == 1) ≡ true
  on bit e = grind (arith, nat_tests)

or-left : (a b : Bool) → a ≡ true → (a || b) ≡ true
or-left a b e = rw e refl

or-right : (a b : Bool) → b ≡ true → (a || b) ≡ true
or-right true b e = refl
or-right false b e = e

-- n is in the set, or is the number of the community
abbrev IsMore : List ℕ → ℕ → ℕ → ℕ → Type 0
IsMore all set value n = (has set n ≡ true) ⊎ (community_among all value ≡ Some n)

one-more : (all : List ℕ) (set value n : ℕ) → (has (with_community all set value) n ≡ true) ↔ IsMore all set value n
unfolding with_community
one-more all set value n = go (community_among all value) refl where
  none : (m : ℕ) → None ≡ Some m → false ≡ true
  none m e = cc

  same : (k m : ℕ) → Some k ≡ Some m → k ≡ m
  same k m e = cc

  go : (o : Option ℕ) → community_among all value ≡ o → (has (with_number set o) n ≡ true) ↔ ((has set n ≡ true) ⊎ (o ≡ Some n))
  go None e = ((λ h. inl h), (λ h. ⊎_elim (λ g. g) (λ g. absurd (false≢true (none n g))) h))
  go (Some m) e = (
    (λ h. ⊎_elim (λ g. inl g) (λ g. inr (ap (λ k. Some k) (sym (only-itself m n g)))) (either (has set n) (has (2 ^ m) n) (sym (has_union set (2 ^ m) n) ∙ h))),
    (λ h. has_union set (2 ^ m) n ∙ ⊎_elim (λ g. or-left (has set n) (has (2 ^ m) n) g) (λ g. or-right (has set n) (has (2 ^ m) n) (ap (λ k. has (2 ^ m) k) (sym (same m n g)) ∙ itself m)) h),
  )

abbrev HasNumber : List ℕ → List ℕ → ℕ → Type 0
HasNumber all values n = (value : ℕ) × In value values × (community_among all value ≡ Some n)

-- what is in the set after some communities
abbrev rest_of : List ℕ → ℕ → List ℕ → ℕ
rest_of all set values = fold (λ set value. with_community all set value) set values

abbrev IsRest : List ℕ → List ℕ → ℕ → ℕ → Type 0
IsRest all values set n = (has (rest_of all set values) n ≡ true) ↔ ((has set n ≡ true) ⊎ HasNumber all values n)

fold-step : (all : List ℕ) (v : ℕ) (vs : List ℕ) (set n : ℕ) → IsRest all vs (with_community all set v) n → IsRest all (v ∷ vs) set n
fold-step all v vs set n later = (there, back) where
  there : has (rest_of all (with_community all set v) vs) n ≡ true → (has set n ≡ true) ⊎ HasNumber all (v ∷ vs) n
  there h = ⊎_elim (λ g. ⊎_elim (λ k. inl k) (λ k. inr (v, inl refl, k)) ((one-more all set v n).0 g)) (λ g. inr (g.0, inr g.1, g.2)) (later.0 h)

  back : (has set n ≡ true) ⊎ HasNumber all (v ∷ vs) n → has (rest_of all (with_community all set v) vs) n ≡ true
  back h = later.1 (⊎_elim (λ g. inl ((one-more all set v n).1 (inl g))) (λ w. ⊎_elim (λ e. inl ((one-more all set v n).1 (inr (ap (λ x. community_among all x) e ∙ w.2)))) (λ i. inr (w.0, i, w.2)) w.1) h)

fold-of : (all values : List ℕ) (set n : ℕ) → IsRest all values set n
fold-of all [] set n = ((λ h. inl h), (λ h. ⊎_elim (λ g. g) (λ g. absurd g.1) h))
fold-of all (v ∷ vs) set n = fold-step all v vs set n (fold-of all vs (with_community all set v) n)

nothing : (n : ℕ) → has 0 n ≡ false
nothing n = off (bit_at 0 n) (bit_at-zero n) where
  off : (bit : ℕ) → bit ≡ 0 → (bit == 1) ≡ false
  off bit e = grind (arith, nat_tests)

pub IsSetOf-set_of : (all values : List ℕ) → IsSetOf all values (set_of all values)
IsSetOf-set_of all values n =
    let law = fold-of all values 0 n in (
      (λ h. ⊎_elim (λ g. absurd (false≢true (sym (nothing n) ∙ g))) (λ w. (w.0, Contains-from_In w.0 values w.1, w.2)) (law.0 h)),
      (λ w. law.1 (inr (w.0, In-from_Contains w.0 values w.1, w.2))),
    )
