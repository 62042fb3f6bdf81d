-- Rows of 64-bit words but for the length, which maps may lengthen: the sets of an entry, joins and maps keep them.
use Rattle.std.proofs.Common.{ℕ, ◌<◌, ◌^◌, Bool, true, false, List, [], ◌∷◌, length, Option, Some, None, min, max, All, bit_and, arith, cond}
use Rattle.std.specs.Int.{bit_not, w64}
use Rattle.std.proofs.lemmas.Nat.{or_lt, and_le_l}
use Rattle.std.proofs.lemmas.List.Elements.{All-head, All-tail}
use Rattle.net_types.specs.declared.config.Origin.{Origin}
use Rattle.net_types.specs.declared.config.Origin.TheVariants.{Igp, Egp, Incomplete}
use Rattle.net_types.specs.declared.network.NetMapEntry.{NetMapEntry}
use Rattle.net_types.specs.declared.network.NetSets.{NetSets}
use Rattle.net_types.specs.declared.network.NetSetCommunity.{NetSetCommunity}
use Rattle.net_types.specs.declared.network.NetSetCommunity.TheVariants.{Keep, Replace, Add, Clear}
use Rattle.net_types.specs.declared.network.Router.{Router}
use Rattle.net_types.specs.NetFacts.{IsNetCommunitySet, IsNetMapEntry, IsNetSets, IsRouter, IsWord}
use Rattle.net_types.specs.PrefixValue.{PrefixValue}
use Rattle.abstract_route.specs.declared.rows.Row.{Row}
use Rattle.abstract_route.specs.declared.rows.Range.{Range}
use Rattle.abstract_route.specs.Rows.{IsRow, bottom, joined}
use Rattle.concrete_algebra.specs.Maps.{community_entries, deleted_by, with_set, without_deleted}
use Rattle.abstract_maps.specs.declared.statuses.Status.{Status}
use Rattle.abstract_maps.specs.declared.statuses.Status.TheVariants.{No, Maybe, Yes}
use Rattle.abstract_maps.specs.AbstractMap.{by_entry, entry_row, map_row}
use Rattle.abstract_maps.specs.RowSets.{lacked_after, replaced, replaced_origin, row_under_sets, with_deleted}
use Rattle.abstract_maps.specs.Statuses.{entry_status}
use Rattle.abstract_maps.proofs.SetWords.{deleted_small, masks_at}
use Rattle.abstract_maps.proofs.RowSetLemmas.{router_small}

-- both ends of a range are words
abbrev pub AreSmall : Range → Type 0
AreSmall r = (r.low < 2 ^ 64) × (r.high < 2 ^ 64)

-- each word but the length
pub record HasWords (row : Row) : Type 0 where
  pub weight : AreSmall row.weight
  pub preference : AreSmall row.preference
  pub origin : AreSmall row.origin
  pub med : AreSmall row.med
  pub has : row.has < 2 ^ 64
  pub lacks : row.lacks < 2 ^ 64
  pub may : row.may < 2 ^ 64
  pub must : row.must < 2 ^ 64

pub words_of : (row : Row) → IsRow row → HasWords row
words_of row i = record {
  weight = (i.low.0, i.high.0);
  preference = (i.low.1, i.high.1);
  origin = (i.low.3, i.high.3);
  med = (i.low.4, i.high.4);
  has = i.sets.0;
  lacks = i.sets.1;
  may = i.sets.2;
  must = i.sets.3;
}

pub row_of : (row : Row) → AreSmall row.length → HasWords row → IsRow row
row_of row long w = record {
  low = (w.weight.0, w.preference.0, long.0, w.origin.0, w.med.0);
  high = (w.weight.1, w.preference.1, long.1, w.origin.1, w.med.1);
  sets = (w.has, w.lacks, w.may, w.must);
}

pub bottom_words : HasWords bottom
bottom_words = record {
  weight = (omega arith, omega arith);
  preference = (omega arith, omega arith);
  origin = (omega arith, omega arith);
  med = (omega arith, omega arith);
  has = omega arith;
  lacks = omega arith;
  may = omega arith;
  must = omega arith;
}

hull_small : (a b : Range) → AreSmall a → AreSmall b → AreSmall (record { low = min a.low b.low; high = max a.high b.high })
hull_small a b p q = (omega arith, omega arith)

and_small : (a b : ℕ) → a < 2 ^ 64 → bit_and a b < 2 ^ 64
and_small a b p = let e = and_le_l a b in omega arith

joined_words : (a b : Row) → HasWords a → HasWords b → HasWords (joined a b)
joined_words a b p q = record {
  weight = hull_small a.weight b.weight p.weight q.weight;
  preference = hull_small a.preference b.preference p.preference q.preference;
  origin = hull_small a.origin b.origin p.origin q.origin;
  med = hull_small a.med b.med p.med q.med;
  has = or_lt 64 a.has b.has p.has q.has;
  lacks = or_lt 64 a.lacks b.lacks p.lacks q.lacks;
  may = or_lt 64 a.may b.may p.may q.may;
  must = and_small a.must b.must p.must;
}

-- ---- the sets of an entry

replaced_small : (o : Option ℕ) (r : Range) → IsWord o → AreSmall r → AreSmall (replaced o r)
replaced_small None r ok s = s
replaced_small (Some n) r ok s = (omega arith, omega arith)

origin_small : (o : Option Origin) (r : Range) → AreSmall r → AreSmall (replaced_origin o r)
origin_small None r s = s
origin_small (Some Igp) r s = (omega arith, omega arith)
origin_small (Some Egp) r s = (omega arith, omega arith)
origin_small (Some Incomplete) r s = (omega arith, omega arith)

delete_small : (router : Router) (at : Option ℕ) (h : ℕ) → h < 2 ^ 64 → without_deleted router at h < 2 ^ 64
delete_small router None h s = s
delete_small router (Some position) h s = and_small h (bit_not w64 (deleted_by (community_entries router position))) s

deleted_word : (count : ℕ) (router : Router) (at : Option ℕ) (l : ℕ) → IsRouter count router → l < 2 ^ 64 → with_deleted router at l < 2 ^ 64
deleted_word count router None l ok s = s
deleted_word count router (Some position) l ok s = or_lt 64 l (deleted_by (community_entries router position)) s (deleted_small count (community_entries router position) (masks_at count router position ok))

set_small : (count : ℕ) (s : NetSetCommunity) (h : ℕ) → IsNetCommunitySet count s → h < 2 ^ 64 → with_set s h < 2 ^ 64
set_small count Keep h ok s = s
set_small count (Replace values) h ok s = ok.word
set_small count (Add values) h ok s = or_lt 64 h values s ok.word
set_small count Clear h ok s = omega arith

not_small : (n : ℕ) → bit_not w64 n < 2 ^ 64
not_small n = omega arith

lacked_small : (s : NetSetCommunity) (l : ℕ) → l < 2 ^ 64 → lacked_after s l < 2 ^ 64
lacked_small Keep l s = s
lacked_small (Replace values) l s = not_small values
lacked_small (Add values) l s = and_small l (bit_not w64 values) s
lacked_small Clear l s = omega arith

sets_words : (count lists : ℕ) (router : Router) (u : ℕ) (sets : NetSets) (row : Row) → u < 64 → IsRouter count router → IsNetSets count lists sets → HasWords row → HasWords (row_under_sets router u sets row)
unfolding row_under_sets
sets_words count lists router u sets row low ok sound w = record {
  weight = replaced_small sets.weight row.weight sound.weight w.weight;
  preference = replaced_small sets.preference row.preference sound.preference w.preference;
  origin = origin_small sets.origin row.origin w.origin;
  med = replaced_small sets.med row.med sound.med w.med;
  has = set_small count sets.community (without_deleted router sets.delete row.has) sound.community (delete_small router sets.delete row.has w.has);
  lacks = lacked_small sets.community (with_deleted router sets.delete row.lacks) (deleted_word count router sets.delete row.lacks ok w.lacks);
  may = router_small sets.prepend u row.may low w.may;
  must = router_small sets.prepend u row.must low w.must;
}

-- ---- maps

by_entry_words : (s : Status) (a b : Row) → HasWords a → HasWords b → HasWords (by_entry s a b)
by_entry_words No a b p q = q
by_entry_words Yes a b p q = p
by_entry_words Maybe a b p q = joined_words a b p q

pub map_words : (count : ℕ) (router : Router) (u : ℕ) (prefix : PrefixValue) (es : List NetMapEntry) (row : Row) → u < 64 → IsRouter count router → All (IsNetMapEntry count router) es → HasWords row → HasWords (map_row router u prefix es row)
unfolding map_row
map_words count router u prefix [] row low ok all w = bottom_words
map_words count router u prefix (e ∷ es) row low ok all w =
    by_entry_words (entry_status router prefix e row) (entry_row router u e row) (map_row router u prefix es row)
    (here e.permit) (map_words count router u prefix es row low ok (All-tail (IsNetMapEntry count router) e es all) w) where
      here : (permit : Bool) → HasWords (cond permit (row_under_sets router u e.sets row) bottom)
      here true = sets_words count (length router.community_lists) router u e.sets row low ok (All-head (IsNetMapEntry count router) e es all).sets w
      here false = bottom_words
