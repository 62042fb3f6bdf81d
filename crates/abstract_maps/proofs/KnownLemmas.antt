-- On a row with no open community a policy is sure exactly where it leaves a route, and so an arc passes the row exactly
-- where it is open for it.
use Rattle.std.proofs.Common.{ℕ, ◌≡◌, ◌<◌, ◌&&◌, ◌⊎◌, inl, inr, Bool, true, false, List, [], ◌∷◌, length, All, arith, ap, sym, subst, ◌∙◌, refl, cond}
use Rattle.std.proofs.lemmas.List.Elements.{All-head, All-tail}
use Rattle.net_types.specs.declared.arcs.Arc.{Arc}
use Rattle.net_types.specs.declared.network.End.{End}
use Rattle.net_types.specs.declared.network.NetMapEntry.{NetMapEntry}
use Rattle.net_types.specs.declared.network.Policy.{Policy}
use Rattle.net_types.specs.declared.network.Policy.TheVariants.{Closed, Open, Map}
use Rattle.net_types.specs.declared.network.Router.{Router}
use Rattle.net_types.specs.NetFacts.{IsNet, IsNetMapEntry, IsRouter, no_advertise, no_export}
use Rattle.net_types.specs.NetValue.{NetValue}
use Rattle.net_types.specs.PrefixValue.{PrefixValue}
use Rattle.abstract_route.specs.declared.rows.Row.{Row}
use Rattle.abstract_route.specs.Rows.{IsInhabited, bottom, inhabited}
use Rattle.abstract_route.proofs.FitLemmas.{inhabited_is}
use Rattle.concrete_algebra.specs.Carrying.{holds_value}
use Rattle.concrete_algebra.specs.Maps.{entry_matches, map_entries}
use Rattle.abstract_maps.specs.declared.statuses.Status.{Status}
use Rattle.abstract_maps.specs.AbstractMap.{abstract_map, by_entry, entry_row, map_row, policy_row, sure, sure_by, sure_entries, sure_policy}
use Rattle.abstract_maps.specs.OneRoute.{IsKnown}
use Rattle.abstract_maps.specs.RowSets.{row_under_sets}
use Rattle.abstract_maps.specs.Statuses.{certain_status}
use Rattle.abstract_maps.specs.Transfer.{between_free, cut_row, exported, imported, longest, may_leave, opens, passes, passes_between, received_free, row_sent_by, surely_leaves}
use Rattle.abstract_maps.proofs.SetWords.{entries_at}
use Rattle.abstract_maps.proofs.StatusLemmas.{entry_known}
use Rattle.abstract_maps.proofs.RowSetLemmas.{sets_inhabited, sets_known}
use Rattle.abstract_maps.proofs.MapLemmas.{IsAt, map_in, router_at, sure_in}
use Rattle.abstract_maps.proofs.GrowthLemmas.{cut_inhabited, cut_out, free_inhabited, free_none, imported_out, sent_inhabited, sent_out, uninhabited_or}
use Rattle.abstract_maps.proofs.ExactLemmas.{leave_exact, sent_inside}
use Rattle.abstract_maps.proofs.ArcLemmas.{kind}

-- ---- policies

entries_open : (count : ℕ) (router : Router) (u : ℕ) (prefix : PrefixValue) (es : List NetMapEntry) (row : Row) → IsRouter count router → All (IsNetMapEntry count router) es → IsInhabited row → IsKnown row → inhabited (map_row router u prefix es row) ≡ sure_entries router prefix es row
unfolding map_row sure_entries
entries_open count router u prefix [] row ok all i k = refl
entries_open count router u prefix (e ∷ es) row ok all i k =
    ap (λ (s : Status). inhabited (by_entry s (entry_row router u e row) (map_row router u prefix es row))) (entry_known count router prefix e row ok k) ∙
    step (entry_matches router prefix e row.has) e.permit (entries_open count router u prefix es row ok (All-tail (IsNetMapEntry count router) e es all) i k) ∙
    sym (ap (λ (s : Status). sure_by s e.permit (sure_entries router prefix es row)) (entry_known count router prefix e row ok k)) where
      step : (matches permit : Bool) → inhabited (map_row router u prefix es row) ≡ sure_entries router prefix es row →
          inhabited (by_entry (certain_status matches) (cond permit (row_under_sets router u e.sets row) bottom) (map_row router u prefix es row)) ≡ sure_by (certain_status matches) permit (sure_entries router prefix es row)
      step true true behind = (inhabited_is (row_under_sets router u e.sets row)).1 (sets_inhabited count (length router.community_lists) router u e.sets row ok (All-head (IsNetMapEntry count router) e es all).sets i)
      step true false behind = refl
      step false permit behind = behind

-- no route, or a row with no open community
abbrev IsNoneOrKnown : Row → Type 0
IsNoneOrKnown row = (row ≡ bottom) ⊎ IsKnown row

entries_known : (count : ℕ) (router : Router) (u : ℕ) (prefix : PrefixValue) (es : List NetMapEntry) (row : Row) → IsRouter count router → All (IsNetMapEntry count router) es → IsKnown row → IsNoneOrKnown (map_row router u prefix es row)
unfolding map_row
entries_known count router u prefix [] row ok all k = inl refl
entries_known count router u prefix (e ∷ es) row ok all k =
    subst (λ (s : Status). IsNoneOrKnown (by_entry s (entry_row router u e row) (map_row router u prefix es row))) (sym (entry_known count router prefix e row ok k))
    (step (entry_matches router prefix e row.has) e.permit (entries_known count router u prefix es row ok (All-tail (IsNetMapEntry count router) e es all) k)) where
      step : (matches permit : Bool) → IsNoneOrKnown (map_row router u prefix es row) → IsNoneOrKnown (by_entry (certain_status matches) (cond permit (row_under_sets router u e.sets row) bottom) (map_row router u prefix es row))
      step true true behind = inr (sets_known count (length router.community_lists) router u e.sets row ok (All-head (IsNetMapEntry count router) e es all).sets k)
      step true false behind = inl refl
      step false permit behind = behind

map_open : (net : NetValue) (u : ℕ) (policy : Policy) (prefix : PrefixValue) (row : Row) → IsNet net → u < length net.routers → IsInhabited row → IsKnown row → inhabited (abstract_map net u policy prefix row) ≡ sure net u policy prefix row
map_open net u policy prefix row valid inside i k =
    let at = router_at net u valid inside in
    ap inhabited (map_in net u policy prefix row at i) ∙ go policy at ∙ sym (sure_in net u policy prefix row at) where
      go : (policy : Policy) (at : IsAt net u) → inhabited (policy_row at.router u policy prefix row) ≡ sure_policy at.router policy prefix row
      go Closed at = refl
      go Open at = (inhabited_is row).1 i
      go (Map position) at = entries_open (length net.communities) at.router u prefix (map_entries at.router position) row at.ok (entries_at (length net.communities) at.router position at.ok) i k

map_known : (net : NetValue) (u : ℕ) (policy : Policy) (prefix : PrefixValue) (row : Row) → IsNet net → u < length net.routers → IsInhabited row → IsKnown row → IsNoneOrKnown (abstract_map net u policy prefix row)
map_known net u policy prefix row valid inside i k =
    let at = router_at net u valid inside in
    subst IsNoneOrKnown (sym (map_in net u policy prefix row at i)) (go policy at) where
      go : (policy : Policy) (at : IsAt net u) → IsNoneOrKnown (policy_row at.router u policy prefix row)
      go Closed at = inl refl
      go Open at = inr k
      go (Map position) at = entries_known (length net.communities) at.router u prefix (map_entries at.router position) row at.ok (entries_at (length net.communities) at.router position at.ok) k

-- ---- from end to end

leave_known : (net : NetValue) (row : Row) → IsNet net → IsKnown row → surely_leaves net row ≡ may_leave net row
leave_known net row valid k = sym (ap (λ (l : ℕ). holds_value net no_export l && holds_value net no_advertise l) k.1 ∙ leave_exact net row.has valid k.0)

known_of : (row : Row) → IsInhabited row → IsNoneOrKnown row → IsKnown row
known_of row i (inl none) = absurd (let j = subst IsInhabited none i in let q = j.weight in omega arith)
known_of row i (inr k) = k

sent_known : (v : ℕ) (row : Row) → IsInhabited row → IsKnown row → IsKnown (row_sent_by v row)
sent_known v row i k = subst IsKnown (sym (sent_inside v row i)) k

free_known : (u : ℕ) (row : Row) → IsKnown row → IsKnown (received_free u row)
unfolding received_free
free_known u row k = k

cut_same : (most : ℕ) (row : Row) → inhabited (cut_row most row) ≡ inhabited row
cut_same most row = elim (uninhabited_or row) [
  | inl i ↦ (inhabited_is (cut_row most row)).1 (cut_inhabited most row i) ∙ sym ((inhabited_is row).1 i)
  | inr none ↦ ap inhabited (cut_out most row none) ∙ sym none
]

taken_open : (net : NetValue) (prefix : PrefixValue) (to : End) (row : Row) → IsNet net → to.router < length net.routers → IsInhabited row → IsKnown row → inhabited (imported net prefix to row) ≡ sure net to.router to.import prefix row
unfolding imported
taken_open net prefix to row valid inside i k = cut_same (longest net) (abstract_map net to.router to.import prefix row) ∙ map_open net to.router to.import prefix row valid inside i k

between_open : (net : NetValue) (prefix : PrefixValue) (from to : End) (row : Row) → IsNet net → from.router < length net.routers → to.router < length net.routers → IsInhabited row → IsKnown row → inhabited (between_free net prefix from to row) ≡ passes_between net prefix from to row
unfolding exported
between_open net prefix from to row valid from_in to_in i k =
    go (may_leave net row) (inhabited mapped) refl ∙
    sym (
    ap (λ (b : Bool). b && surely_leaves net row && sure net from.router from.export prefix row && taken sent) ((inhabited_is row).1 i) ∙
    ap (λ (b : Bool). true && b && sure net from.router from.export prefix row && taken sent) (leave_known net row valid k) ∙
    ap (λ (b : Bool). true && may_leave net row && b && taken sent) (sym (map_open net from.router from.export prefix row valid from_in i k))
    ) where
      mapped : Row
      mapped = abstract_map net from.router from.export prefix row

      sent : Row
      sent = exported net prefix from row

      taken : Row → Bool
      taken x = sure net to.router to.import prefix (received_free to.router x)

      none : (x : Row) → x ≡ bottom → inhabited (imported net prefix to (received_free to.router x)) ≡ false
      none x e = ap (λ (y : Row). inhabited (imported net prefix to (received_free to.router y))) e ∙ ap inhabited (imported_out net prefix to (received_free to.router bottom) (free_none to.router))

      some : IsInhabited mapped → inhabited (imported net prefix to (received_free to.router (row_sent_by from.router mapped))) ≡ taken (row_sent_by from.router mapped)
      some j =
          let m = known_of mapped j (map_known net from.router from.export prefix row valid from_in i k) in
          taken_open net prefix to (received_free to.router (row_sent_by from.router mapped)) valid to_in
          (free_inhabited to.router (row_sent_by from.router mapped) (sent_inhabited from.router mapped j))
          (free_known to.router (row_sent_by from.router mapped) (sent_known from.router mapped j m))

      go : (leaves left : Bool) → inhabited mapped ≡ left →
          inhabited (imported net prefix to (received_free to.router (cond leaves (row_sent_by from.router mapped) bottom))) ≡ (true && leaves && left && taken (cond leaves (row_sent_by from.router mapped) bottom))
      go false left e = none bottom refl
      go true false e = none (row_sent_by from.router mapped) (sent_out from.router mapped e)
      go true true e = some ((inhabited_is mapped).0 e)

pub open_is_passes : (net : NetValue) (prefix : PrefixValue) (arc : Arc) (row : Row) → IsNet net → IsInhabited row → IsKnown row → opens net prefix arc row ≡ passes net prefix arc row
open_is_passes net prefix arc row valid i k = elim (kind net prefix arc valid) [
  | inl s ↦ ap inhabited (s.free_is row) ∙ between_open net prefix s.from s.to row valid s.from_in s.to_in i k ∙ sym (s.passes_is row)
  | inr n ↦ ap inhabited (n.free_is row) ∙ sym (n.passes_is row)
]
