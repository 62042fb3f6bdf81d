-- The policies, lists and maps of a router are those that its configuration says.
use Rattle.std.proofs.Common.{ℕ, zero, suc, ◌≡◌, ◌+◌, ◌≤◌, ◌||◌, Bool, true, false, not, cond, List, [], ◌∷◌, map, refl, ap, sym, subst, ◌∙◌, arith, All, Option, Some, None, slice_get}
use Rattle.std.specs.List.{list_any, position_or_len}
use Rattle.std.specs.Option.{IfSome, option_map, option_map_or}
use Rattle.std.proofs.lemmas.Bool.{false≢true}
use Rattle.std.proofs.lemmas.Bool.Decides.{nat_tests}
use Rattle.std.proofs.lemmas.List.{length-map}
use Rattle.std.proofs.lemmas.List.Elements.{recursion_from_All}
use Rattle.std.proofs.lemmas.Option.{slice_get-map}
use Rattle.net_types.specs.Order.{same_text}
use Rattle.net_types.specs.ConfigFacts.{IsBgp, IsMap, IsMapEntry, IsSets, IsRedistribute, IsDefined}
use Rattle.net_types.specs.declared.config.RouterConfig.{RouterConfig}
use Rattle.net_types.specs.declared.config.BgpConfig.{BgpConfig}
use Rattle.net_types.specs.declared.config.PrefixList.{PrefixList}
use Rattle.net_types.specs.declared.config.CommunityList.{CommunityList}
use Rattle.net_types.specs.declared.config.CommunityEntry.{CommunityEntry}
use Rattle.net_types.specs.declared.config.RouteMap.{RouteMap}
use Rattle.net_types.specs.declared.config.MapEntry.{MapEntry}
use Rattle.net_types.specs.declared.config.Sets.{Sets}
use Rattle.net_types.specs.declared.config.SetCommunity.{SetCommunity}
use Rattle.net_types.specs.declared.config.SetCommunity.TheVariants.{Keep, Replace, Add, Clear}
use Rattle.net_types.specs.declared.config.Redistribute.{Redistribute}
use Rattle.net_types.specs.declared.config.Redistribute.TheVariants.{No, Plain, By}
use Rattle.topology.specs.Communities.{set_of}
use Rattle.topology.specs.Resolving.{net_community_entry, net_community_list, net_set_community, net_sets, whole_entry, net_map}
use Rattle.topology.specs.Sessions.{redistribution, connected_of, ospf_of}
use Rattle.topology.specs.Resolved.{AreAlike, IsFirstNamed, IsPlaceOf, IsRedistribution, IsChangeOf, AreSetsOf, IsEntryOf, IsMapOf, IsCommunityEntryOf, IsCommunityListOf}
use Rattle.topology.proofs.SetLemmas.{IsSetOf-set_of}
use Rattle.topology.proofs.SideLemmas.{at-place}
use Rattle.topology.proofs.TwinLemmas.{same_text-equal}

same_text-itself : (name : List ℕ) → same_text name name ≡ true
same_text-itself [] = refl
same_text-itself (x ∷ xs) = let rest = same_text-itself xs in grind (arith, nat_tests)

inside : {A : Type 0} (a b : A) → Some a ≡ Some b → a ≡ b
inside a b e = cc

-- what a map makes of each item is alike
AreAlike-map : {A B : Type 0} (Related : A → B → Type 0) (P : A → Type 0) (f : A → B) (xs : List A) → All P xs → ((x : A) → P x → Related x (f x)) → AreAlike Related xs (map f xs)
AreAlike-map {A = A} {B = B} Related P f xs all law = record { long = length-map xs f; each = each } where
  each : (k : ℕ) (x : A) (y : B) → slice_get xs k ≡ Some x → slice_get (map f xs) k ≡ Some y → Related x y
  each k x y a b =
      let p : P x = subst (λ (o : Option A). IfSome o P) a (at-place P xs k (recursion_from_All P xs all)) in
      let same : f x ≡ y = inside (f x) y (sym (ap (λ (o : Option A). option_map f o) a) ∙ sym (slice_get-map f xs k) ∙ b) in
      subst (λ (z : B). Related x z) same (law x p)

-- the first that has the name stands where it is looked up
IsFirstNamed-place : {A : Type 0} (name_of : A → List ℕ) (items : List A) (name : List ℕ) → list_any (λ x. same_text (name_of x) name) items ≡ true → IsFirstNamed name_of items name (position_or_len (λ x. same_text (name_of x) name) items)
IsFirstNamed-place name_of [] name h = absurd (false≢true h)
IsFirstNamed-place {A = A} name_of (x ∷ xs) name h = go (same_text (name_of x) name) refl h (λ t. IsFirstNamed-place name_of xs name t) where
  later : (k : ℕ) → same_text (name_of x) name ≡ false → IsFirstNamed name_of xs name k → (n : ℕ) → n ≡ suc k → IsFirstNamed name_of (x ∷ xs) name n
  later k e i n is = rw is (record { item = i.item; there = i.there; named = i.named; first = first }) where
    first : (j : ℕ) (other : A) → slice_get (x ∷ xs) j ≡ Some other → name_of other ≡ name → suc k ≤ j
    first zero other a n =
        let same = inside x other a in
        let t : same_text (name_of x) name ≡ true = rw (same, n) (same_text-itself name) in
        absurd (false≢true (sym e ∙ t))
    first (suc j) other a n = let l = i.first j other a n in omega arith

  go : (b : Bool) → same_text (name_of x) name ≡ b → (b || list_any (λ y. same_text (name_of y) name) xs) ≡ true → (list_any (λ y. same_text (name_of y) name) xs ≡ true → IsFirstNamed name_of xs name (position_or_len (λ y. same_text (name_of y) name) xs)) → IsFirstNamed name_of (x ∷ xs) name (cond (not b) (1 + position_or_len (λ y. same_text (name_of y) name) xs) 0)
  go true e t rest = record { item = x; there = refl; named = same_text-equal (name_of x) name e; first = λ j other a n. omega arith }
  go false e t rest = later (position_or_len (λ y. same_text (name_of y) name) xs) e (rest t) (1 + position_or_len (λ y. same_text (name_of y) name) xs) (omega arith)

IsPlaceOf-named : {A : Type 0} (name_of : A → List ℕ) (items : List A) (name : Option (List ℕ)) → IsDefined (λ n. list_any (λ x. same_text (name_of x) n) items) name → IsPlaceOf name_of items name (option_map (λ n. position_or_len (λ x. same_text (name_of x) n) items) name)
IsPlaceOf-named name_of items None h = refl
IsPlaceOf-named name_of items (Some name) h = (position_or_len (λ x. same_text (name_of x) name) items, refl, IsFirstNamed-place name_of items name h)

IsRedistribution-is : (config : RouterConfig) (redistribute : Redistribute) → IsRedistribute config redistribute → IsRedistribution config.maps redistribute (redistribution config.maps redistribute)
IsRedistribution-is config No h = refl
IsRedistribution-is config Plain h = refl
IsRedistribution-is config (By name) h = (position_or_len (λ (m : RouteMap). same_text m.name name) config.maps, refl, IsFirstNamed-place (λ (m : RouteMap). m.name) config.maps name h)

pub IsRedistribution-connected : (config : RouterConfig) (bgp : Option BgpConfig) → IfSome bgp (λ b. IsBgp config b) → IsRedistribution config.maps (option_map_or (λ (b : BgpConfig). b.connected) bgp No) (connected_of config bgp)
IsRedistribution-connected config None h = refl
IsRedistribution-connected config (Some b) h = IsRedistribution-is config b.connected h.connected

pub IsRedistribution-ospf : (config : RouterConfig) (bgp : Option BgpConfig) → IfSome bgp (λ b. IsBgp config b) → IsRedistribution config.maps (option_map_or (λ (b : BgpConfig). b.ospf) bgp No) (ospf_of config bgp)
IsRedistribution-ospf config None h = refl
IsRedistribution-ospf config (Some b) h = IsRedistribution-is config b.ospf h.ospf

IsChangeOf-is : (communities : List ℕ) (set : SetCommunity) → IsChangeOf communities set (net_set_community communities set)
IsChangeOf-is communities Keep = refl
IsChangeOf-is communities (Replace values) = (set_of communities values, refl, IsSetOf-set_of communities values)
IsChangeOf-is communities (Add values) = (set_of communities values, refl, IsSetOf-set_of communities values)
IsChangeOf-is communities Clear = refl

AreSetsOf-is : (communities : List ℕ) (config : RouterConfig) (sets : Sets) → IsSets config sets → AreSetsOf communities config sets (net_sets (net_set_community communities sets.community) config sets)
AreSetsOf-is communities config sets s = record {
  weight = refl;
  preference = refl;
  med = refl;
  origin = refl;
  «delete» = IsPlaceOf-named (λ (l : CommunityList). l.name) config.community_lists sets.delete s.delete;
  community = IsChangeOf-is communities sets.community;
  prepend = refl;
}

IsEntryOf-is : (communities : List ℕ) (config : RouterConfig) (entry : MapEntry) → IsMapEntry config entry → IsEntryOf communities config entry (whole_entry communities config entry)
IsEntryOf-is communities config entry e = record {
  seq = refl;
  permit = refl;
  prefixes = IsPlaceOf-named (λ (l : PrefixList). l.name) config.prefix_lists entry.prefixes e.prefixes;
  communities = IsPlaceOf-named (λ (l : CommunityList). l.name) config.community_lists entry.communities e.communities;
  sets = AreSetsOf-is communities config entry.sets e.sets;
}

pub maps-alike : (communities : List ℕ) (config : RouterConfig) → All (IsMap config) config.maps → AreAlike (IsMapOf communities config) config.maps (map (λ routes. net_map communities config routes) config.maps)
maps-alike communities config all =
    AreAlike-map (IsMapOf communities config) (IsMap config) (λ routes. net_map communities config routes) config.maps all (λ routes m. record {
      name = refl;
      entries = AreAlike-map (IsEntryOf communities config) (IsMapEntry config) (λ (entry : MapEntry). whole_entry communities config entry) routes.entries m.entries (IsEntryOf-is communities config);
    })

any-of : {A : Type 0} (xs : List A) → All (λ _. Unit {0}) xs
any-of xs = λ i d l. tt

pub community_lists-alike : (communities : List ℕ) (lists : List CommunityList) → AreAlike (IsCommunityListOf communities) lists (map (λ l. net_community_list communities l) lists)
community_lists-alike communities lists =
    AreAlike-map (IsCommunityListOf communities) (λ _. Unit {0}) (λ l. net_community_list communities l) lists (any-of lists) (λ l _. record {
      name = refl;
      entries = AreAlike-map (IsCommunityEntryOf communities) (λ _. Unit {0}) (λ (entry : CommunityEntry). net_community_entry communities entry) l.entries (any-of l.entries) (λ entry _. record { seq = refl; permit = refl; values = IsSetOf-set_of communities entry.values });
    })
