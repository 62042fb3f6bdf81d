-- Lists and maps with one entry more, or with one entry changed, keep what is promised of them.
use Rattle.std.proofs.Common.{ℕ, ◌≡◌, ◌<◌, ◌≤◌, arith, Bool, true, false, List, [], ◌∷◌, length, map, find, cond, Option, Some, None, All, AllPairs, slice_get, slice_set, refl, subst}
use Rattle.std.specs.Option.{option_map_or}
use Rattle.std.proofs.lemmas.List.Elements.{All-nil, All-cons, All-head, All-tail, All-set}
use Rattle.std.proofs.lemmas.List.{length-set, length-map}
use Rattle.net_types.specs.Order.{same_text}
use Rattle.net_types.specs.declared.config.PrefixList.{PrefixList}
use Rattle.net_types.specs.declared.config.PrefixEntry.{PrefixEntry}
use Rattle.net_types.specs.declared.config.CommunityList.{CommunityList}
use Rattle.net_types.specs.declared.config.CommunityEntry.{CommunityEntry}
use Rattle.net_types.specs.declared.config.RouteMap.{RouteMap}
use Rattle.net_types.specs.declared.config.MapEntry.{MapEntry}
use Rattle.net_types.specs.NetFacts.{IsPrefixList, IsPrefixEntry}
use Rattle.net_types.specs.ConfigFacts.{IsCommunityList, IsCommunityEntry}
use Rattle.frr_policy.specs.Lists.{HasRoom}
use Rattle.frr_policy.specs.PrefixLines.{prefix_numbers}
use Rattle.frr_policy.specs.CommunityLines.{community_numbers}
use Rattle.frr_policy.specs.MapRows.{FitsEntry}
use Rattle.frr_policy.specs.MapLines.{map_numbers}
use Rattle.frr_reader.specs.Entries.{put, with_prefix_entry, with_community_entry, with_map_entry, entry_at, with_entry_at}
use Rattle.frr_reader.proofs.EntryLemmas.{All-on_first, All-at, All-put, length-put, put-ascends, one_ascends, set-pairs}
use Rattle.frr_reader.proofs.NeedLemmas.{Whole, IsNamedEntry, IsNamedMap}

-- a route map: at most 64 entries, ascending, their numbers in their ranges
pub record IsKeptMap (m : RouteMap) : Type 0 where
  pub few : length m.entries ≤ 64
  pub ascending : AllPairs (λ (a b : MapEntry). a.seq < b.seq) m.entries
  pub entries : All FitsEntry m.entries

pub prefix_entry_kept : (name : List ℕ) (entry : PrefixEntry) (lists : List PrefixList) → IsPrefixEntry entry → HasRoom (prefix_numbers name lists) entry.seq → All IsPrefixList lists → All IsPrefixList (with_prefix_entry name entry lists)
prefix_entry_kept name entry [] i room h = All-cons IsPrefixList (record { name = name; entries = entry ∷ [] }) [] (record { few = omega arith; ascending = one_ascends (λ (e : PrefixEntry). e.seq) entry; entries = All-cons IsPrefixEntry entry [] i (All-nil IsPrefixEntry) }) (All-nil IsPrefixList)
prefix_entry_kept name entry (l ∷ more) i room h = go (same_text l.name name) room (λ r. prefix_entry_kept name entry more i r (All-tail IsPrefixList l more h)) where
  k : IsPrefixList l
  k = All-head IsPrefixList l more h

  go : (b : Bool) → HasRoom (map (λ (e : PrefixEntry). e.seq) (option_map_or (λ (x : PrefixList). x.entries) (cond b (Some l) (find (λ (x : PrefixList). same_text x.name name) more)) [])) entry.seq → (HasRoom (prefix_numbers name more) entry.seq → All IsPrefixList (with_prefix_entry name entry more)) → All IsPrefixList (cond b ((record l { entries = put (λ (e : PrefixEntry). e.seq) entry l.entries }) ∷ more) (l ∷ with_prefix_entry name entry more))
  go true r t = All-cons IsPrefixList (record l { entries = put (λ (e : PrefixEntry). e.seq) entry l.entries }) more (record {
    few = let n = length-put (λ (e : PrefixEntry). e.seq) entry l.entries in let m = length-map l.entries (λ (e : PrefixEntry). e.seq) in let f = r.few in omega arith;
    ascending = put-ascends (λ (e : PrefixEntry). e.seq) entry l.entries r.free k.ascending;
    entries = All-put IsPrefixEntry (λ (e : PrefixEntry). e.seq) entry l.entries i k.entries;
  }) (All-tail IsPrefixList l more h)
  go false r t = All-cons IsPrefixList l (with_prefix_entry name entry more) k (t r)

pub community_entry_kept : (name : List ℕ) (entry : CommunityEntry) (lists : List CommunityList) → IsCommunityEntry entry → HasRoom (community_numbers name lists) entry.seq → All IsCommunityList lists → All IsCommunityList (with_community_entry name entry lists)
community_entry_kept name entry [] i room h = All-cons IsCommunityList (record { name = name; entries = entry ∷ [] }) [] (record { few = omega arith; ascending = one_ascends (λ (e : CommunityEntry). e.seq) entry; entries = All-cons IsCommunityEntry entry [] i (All-nil IsCommunityEntry) }) (All-nil IsCommunityList)
community_entry_kept name entry (l ∷ more) i room h = go (same_text l.name name) room (λ r. community_entry_kept name entry more i r (All-tail IsCommunityList l more h)) where
  k : IsCommunityList l
  k = All-head IsCommunityList l more h

  go : (b : Bool) → HasRoom (map (λ (e : CommunityEntry). e.seq) (option_map_or (λ (x : CommunityList). x.entries) (cond b (Some l) (find (λ (x : CommunityList). same_text x.name name) more)) [])) entry.seq → (HasRoom (community_numbers name more) entry.seq → All IsCommunityList (with_community_entry name entry more)) → All IsCommunityList (cond b ((record l { entries = put (λ (e : CommunityEntry). e.seq) entry l.entries }) ∷ more) (l ∷ with_community_entry name entry more))
  go true r t = All-cons IsCommunityList (record l { entries = put (λ (e : CommunityEntry). e.seq) entry l.entries }) more (record {
    few = let n = length-put (λ (e : CommunityEntry). e.seq) entry l.entries in let m = length-map l.entries (λ (e : CommunityEntry). e.seq) in let f = r.few in omega arith;
    ascending = put-ascends (λ (e : CommunityEntry). e.seq) entry l.entries r.free k.ascending;
    entries = All-put IsCommunityEntry (λ (e : CommunityEntry). e.seq) entry l.entries i k.entries;
  }) (All-tail IsCommunityList l more h)
  go false r t = All-cons IsCommunityList l (with_community_entry name entry more) k (t r)

pub map_entry_kept : (name : List ℕ) (entry : MapEntry) (lists : List RouteMap) → FitsEntry entry → HasRoom (map_numbers name lists) entry.seq → All IsKeptMap lists → All IsKeptMap (with_map_entry name entry lists)
map_entry_kept name entry [] i room h = All-cons IsKeptMap (record { name = name; entries = entry ∷ [] }) [] (record { few = omega arith; ascending = one_ascends (λ (e : MapEntry). e.seq) entry; entries = All-cons FitsEntry entry [] i (All-nil FitsEntry) }) (All-nil IsKeptMap)
map_entry_kept name entry (l ∷ more) i room h = go (same_text l.name name) room (λ r. map_entry_kept name entry more i r (All-tail IsKeptMap l more h)) where
  k : IsKeptMap l
  k = All-head IsKeptMap l more h

  go : (b : Bool) → HasRoom (map (λ (e : MapEntry). e.seq) (option_map_or (λ (x : RouteMap). x.entries) (cond b (Some l) (find (λ (x : RouteMap). same_text x.name name) more)) [])) entry.seq → (HasRoom (map_numbers name more) entry.seq → All IsKeptMap (with_map_entry name entry more)) → All IsKeptMap (cond b ((record l { entries = put (λ (e : MapEntry). e.seq) entry l.entries }) ∷ more) (l ∷ with_map_entry name entry more))
  go true r t = All-cons IsKeptMap (record l { entries = put (λ (e : MapEntry). e.seq) entry l.entries }) more (record {
    few = let n = length-put (λ (e : MapEntry). e.seq) entry l.entries in let m = length-map l.entries (λ (e : MapEntry). e.seq) in let f = r.few in omega arith;
    ascending = put-ascends (λ (e : MapEntry). e.seq) entry l.entries r.free k.ascending;
    entries = All-put FitsEntry (λ (e : MapEntry). e.seq) entry l.entries i k.entries;
  }) (All-tail IsKeptMap l more h)
  go false r t = All-cons IsKeptMap l (with_map_entry name entry more) k (t r)

pub map_entry_named : (w : Whole) (name : List ℕ) (entry : MapEntry) (maps : List RouteMap) → IsNamedEntry w entry → All (IsNamedMap w) maps → All (IsNamedMap w) (with_map_entry name entry maps)
map_entry_named w name entry maps n h = All-on_first (IsNamedMap w) (λ (m : RouteMap). same_text m.name name) (λ m. record m { entries = put (λ (e : MapEntry). e.seq) entry m.entries }) (record { name = name; entries = entry ∷ [] }) maps (λ m _ k. All-put (IsNamedEntry w) (λ (e : MapEntry). e.seq) entry m.entries n k) (All-cons (IsNamedEntry w) entry [] n (All-nil (IsNamedEntry w))) h

-- all maps with one entry changed
pub with_entry_all : (P : RouteMap → Type 0) (map place : ℕ) (entry : MapEntry) (maps : List RouteMap) → ((m : RouteMap) → slice_get maps map ≡ Some m → P m → P (record m { entries = slice_set m.entries place entry })) → All P maps → All P (with_entry_at map place entry maps)
with_entry_all P map place entry maps k h = go (slice_get maps map) refl where
  go : (o : Option RouteMap) → slice_get maps map ≡ o → All P (option_map_or (λ (m : RouteMap). slice_set maps map (record m { entries = slice_set m.entries place entry })) o maps)
  go None e = h
  go (Some m) e = All-set P maps map (record m { entries = slice_set m.entries place entry }) (k m e (All-at P maps map m h e)) h

pub same_length : (map place : ℕ) (entry : MapEntry) (maps : List RouteMap) → length (with_entry_at map place entry maps) ≡ length maps
same_length map place entry maps = go (slice_get maps map) where
  go : (o : Option RouteMap) → length (option_map_or (λ (m : RouteMap). slice_set maps map (record m { entries = slice_set m.entries place entry })) o maps) ≡ length maps
  go None = refl
  go (Some m) = length-set maps map (record m { entries = slice_set m.entries place entry })

-- the entry at a place of a map that is there
pub entry_in : (map place : ℕ) (maps : List RouteMap) (m : RouteMap) (old : MapEntry) → entry_at map place maps ≡ Some old → slice_get maps map ≡ Some m → slice_get m.entries place ≡ Some old
entry_in map place maps m old e f = let P : Option RouteMap → Type 0 = λ o. slice_get (option_map_or (λ (x : RouteMap). x.entries) o []) place ≡ Some old in subst P f e

pub changed_map : (m : RouteMap) (place : ℕ) (entry old : MapEntry) → slice_get m.entries place ≡ Some old → entry.seq ≡ old.seq → FitsEntry entry → IsKeptMap m → IsKeptMap (record m { entries = slice_set m.entries place entry })
changed_map m place entry old e s f h = record {
  few = let n = length-set m.entries place entry in let k = h.few in omega arith;
  ascending = set-pairs (λ (x : MapEntry). x.seq) (λ x y. x < y) entry m.entries place old e s h.ascending;
  entries = All-set FitsEntry m.entries place entry f h.entries;
}

pub old_named : (w : Whole) (map place : ℕ) (maps : List RouteMap) (old : MapEntry) → entry_at map place maps ≡ Some old → All (IsNamedMap w) maps → IsNamedEntry w old
old_named w map place maps old e h = go (slice_get maps map) refl e where
  go : (o : Option RouteMap) → slice_get maps map ≡ o → slice_get (option_map_or (λ (x : RouteMap). x.entries) o []) place ≡ Some old → IsNamedEntry w old
  go None f k = absurd (none_is_some k) where
    none_is_some : None ≡ Some old → ⊥
    none_is_some x = cc
  go (Some m) f k = All-at (IsNamedEntry w) m.entries place old (All-at (IsNamedMap w) maps map m h f) k
