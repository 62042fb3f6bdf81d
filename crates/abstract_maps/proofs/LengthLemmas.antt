-- A row has no length, or paths of at least so many entries: maps keep that of the row they are given, the sender adds
-- one, and the cut takes off what is beyond it.
use Rattle.std.proofs.Common.{ℕ, ◌≡◌, ◌≤◌, ◌+◌, ◌^◌, ◌⊎◌, inl, inr, min, Bool, true, false, List, [], ◌∷◌, Option, Some, None, slice_get, bit_or, arith, ap, refl, cond}
use Rattle.std.specs.Option.{option_map_or}
use Rattle.net_types.specs.declared.arcs.Arc.{Arc}
use Rattle.net_types.specs.declared.network.End.{End}
use Rattle.net_types.specs.declared.network.Link.{Link}
use Rattle.net_types.specs.declared.network.NetMapEntry.{NetMapEntry}
use Rattle.net_types.specs.declared.network.NetSets.{NetSets}
use Rattle.net_types.specs.declared.network.Policy.{Policy}
use Rattle.net_types.specs.declared.network.Policy.TheVariants.{Closed, Open, Map}
use Rattle.net_types.specs.declared.network.Router.{Router}
use Rattle.net_types.specs.Arcs.{from_end, link_of, to_end}
use Rattle.net_types.specs.NetValue.{NetValue}
use Rattle.net_types.specs.PrefixValue.{PrefixValue}
use Rattle.net_types.specs.Sets.{has}
use Rattle.abstract_route.specs.declared.rows.Row.{Row}
use Rattle.abstract_route.specs.Rows.{IsInhabited, bottom, carried_row, inhabited, nowhere, single}
use Rattle.abstract_route.proofs.FitLemmas.{inhabited_is}
use Rattle.concrete_algebra.specs.Maps.{map_entries}
use Rattle.abstract_maps.specs.declared.statuses.Status.{Status}
use Rattle.abstract_maps.specs.declared.statuses.Status.TheVariants.{No, Maybe, Yes}
use Rattle.abstract_maps.specs.AbstractMap.{abstract_map, by_entry, entry_row, map_row, policy_row}
use Rattle.abstract_maps.specs.RowSets.{lengthened, row_under_sets}
use Rattle.abstract_maps.specs.Statuses.{entry_status}
use Rattle.abstract_maps.specs.Transfer.{between, cut_row, exported, gives, imported, less, longest, may_leave, over_link, received, row_sent_by, transfer}
use Rattle.abstract_maps.proofs.GrowthLemmas.{longest_small}
use Rattle.abstract_maps.specs.Laws.{GivesLengthens, LongestIsSmall, MapKeepsLength, OpenAddsOne, TransferLengthens}

-- no length, or paths of at least so many entries
abbrev Reaches : ℕ → Row → Type 0
Reaches n row = (row.length ≡ nowhere) ⊎ (n ≤ row.length.high)

-- an inhabited row has a length
inhabited_reaches : (n : ℕ) (row : Row) → IsInhabited row → Reaches n row → n ≤ row.length.high
inhabited_reaches n row i (inr far) = far
inhabited_reaches n row i (inl none) = absurd (
    let q = i.length in let l = ap (λ r. r.low) none in let h = ap (λ r. r.high) none in omega arith)

-- no route, unless the test is met
kept_reaches : (n : ℕ) (b : Bool) (row : Row) → (b ≡ true → Reaches n row) → Reaches n (cond b row bottom)
kept_reaches n true row far = far refl
kept_reaches n false row far = inl refl

-- ---- maps

sets_reach : (n : ℕ) (router : Router) (u : ℕ) (sets : NetSets) (row : Row) → n ≤ row.length.high → Reaches n (row_under_sets router u sets row)
unfolding row_under_sets
sets_reach n router u sets row far = inr (omega arith)

by_entry_reaches : (n : ℕ) (s : Status) (a b : Row) → Reaches n a → Reaches n b → Reaches n (by_entry s a b)
by_entry_reaches n No a b p q = q
by_entry_reaches n Yes a b p q = p
by_entry_reaches n Maybe a b (inr p) q = inr (omega arith)
by_entry_reaches n Maybe a b (inl p) (inr q) = inr (omega arith)
by_entry_reaches n Maybe a b (inl p) (inl q) = inl (rw (p, q) refl)

entries_reach : (n : ℕ) (router : Router) (u : ℕ) (prefix : PrefixValue) (es : List NetMapEntry) (row : Row) → n ≤ row.length.high → Reaches n (map_row router u prefix es row)
unfolding map_row
entries_reach n router u prefix [] row far = inl refl
entries_reach n router u prefix (e ∷ es) row far =
    by_entry_reaches n (entry_status router prefix e row) (entry_row router u e row) (map_row router u prefix es row)
    (kept_reaches n e.permit (row_under_sets router u e.sets row) (λ permit. sets_reach n router u e.sets row far))
    (entries_reach n router u prefix es row far)

policy_reaches : (n : ℕ) (router : Router) (u : ℕ) (policy : Policy) (prefix : PrefixValue) (row : Row) → n ≤ row.length.high → Reaches n (policy_row router u policy prefix row)
policy_reaches n router u Closed prefix row far = inl refl
policy_reaches n router u Open prefix row far = inr far
policy_reaches n router u (Map position) prefix row far = entries_reach n router u prefix (map_entries router position) row far

map_reaches : (n : ℕ) (net : NetValue) (u : ℕ) (policy : Policy) (prefix : PrefixValue) (row : Row) → Reaches n row → Reaches n (abstract_map net u policy prefix row)
unfolding abstract_map
map_reaches n net u policy prefix row r =
    kept_reaches n (inhabited row) (option_map_or (λ (router : Router). policy_row router u policy prefix row) (slice_get net.routers u) bottom)
    (λ some. go (slice_get net.routers u) (inhabited_reaches n row ((inhabited_is row).0 some) r)) where
      go : (o : Option Router) → n ≤ row.length.high → Reaches n (option_map_or (λ (router : Router). policy_row router u policy prefix row) o bottom)
      go None far = inl refl
      go (Some router) far = policy_reaches n router u policy prefix row far

pub map_keeps : MapKeepsLength
map_keeps net u policy prefix row i =
    inhabited_reaches row.length.high (abstract_map net u policy prefix row) i (map_reaches row.length.high net u policy prefix row (inr (omega arith)))

-- ---- from end to end

sent_reaches : (n v : ℕ) (row : Row) → Reaches n row → Reaches (n + 1) (row_sent_by v row)
unfolding row_sent_by
sent_reaches n v row r =
    kept_reaches (n + 1) (inhabited row) (record row { length = lengthened 1 row.length; may = bit_or row.may (2 ^ v); must = bit_or row.must (2 ^ v) })
    (λ some. inr (let far = inhabited_reaches n row ((inhabited_is row).0 some) r in omega arith))

exported_reaches : (n : ℕ) (net : NetValue) (prefix : PrefixValue) (from : End) (row : Row) → Reaches n row → Reaches (n + 1) (exported net prefix from row)
unfolding exported
exported_reaches n net prefix from row r =
    kept_reaches (n + 1) (may_leave net row) (row_sent_by from.router (abstract_map net from.router from.export prefix row))
    (λ leaves. sent_reaches n from.router (abstract_map net from.router from.export prefix row) (map_reaches n net from.router from.export prefix row r))

received_reaches : (n u : ℕ) (row : Row) → Reaches n row → Reaches n (received u row)
unfolding received
received_reaches n u row r = go (has row.must u) where
  go : (b : Bool) → Reaches n (cond b bottom (record row { weight = single 0; preference = single 100; may = less row.may u }))
  go true = inl refl
  go false = r

cut_reaches : (n most : ℕ) (row : Row) → Reaches n row → Reaches (min n most) (cut_row most row)
unfolding cut_row
cut_reaches n most row r =
    kept_reaches (min n most) (inhabited row) (record row { length = record { low = min row.length.low most; high = min row.length.high most } })
    (λ some. inr (let far = inhabited_reaches n row ((inhabited_is row).0 some) r in omega arith))

imported_reaches : (n : ℕ) (net : NetValue) (prefix : PrefixValue) (to : End) (row : Row) → Reaches n row → Reaches (min n (longest net)) (imported net prefix to row)
unfolding imported
imported_reaches n net prefix to row r =
    cut_reaches n (longest net) (abstract_map net to.router to.import prefix row) (map_reaches n net to.router to.import prefix row r)

between_reaches : (n : ℕ) (net : NetValue) (prefix : PrefixValue) (from to : End) (row : Row) → Reaches n row → Reaches (min (n + 1) (longest net)) (between net prefix from to row)
between_reaches n net prefix from to row r =
    imported_reaches (n + 1) net prefix to (received to.router (exported net prefix from row))
    (received_reaches (n + 1) to.router (exported net prefix from row) (exported_reaches n net prefix from row r))

-- ---- over an arc

transfer_reaches : (n : ℕ) (net : NetValue) (prefix : PrefixValue) (arc : Arc) (row : Row) → Reaches n row → Reaches (min (n + 1) (longest net)) (transfer net prefix arc row)
unfolding transfer
transfer_reaches n net prefix arc row r = go (slice_get net.links arc.link) where
  go : (o : Option Link) → Reaches (min (n + 1) (longest net)) (option_map_or (λ link. over_link net prefix arc.down row link) o bottom)
  go None = inl refl
  go (Some link) =
      kept_reaches (min (n + 1) (longest net)) link.session (between net prefix (from_end arc.down link) (to_end arc.down link) row)
      (λ session. between_reaches n net prefix (from_end arc.down link) (to_end arc.down link) row r)

pub transfer_lengthens : TransferLengthens
transfer_lengthens net prefix arc row i =
    inhabited_reaches (min (row.length.high + 1) (longest net)) (transfer net prefix arc row) i
    (transfer_reaches row.length.high net prefix arc row (inr (omega arith)))

-- the MED is no part of the length
pub gives_lengthens : GivesLengthens
gives_lengthens net prefix arc row i =
    inhabited_reaches (min (row.length.high + 1) (longest net)) (gives net prefix arc row) i
    (kept_reaches (min (row.length.high + 1) (longest net)) (inhabited (transfer net prefix arc row)) (carried_row (transfer net prefix arc row))
    (λ some. transfer_reaches row.length.high net prefix arc row (inr (omega arith))))

-- ---- over a session that is open at both ends

open_map_short : (net : NetValue) (u : ℕ) (policy : Policy) (prefix : PrefixValue) (row : Row) → policy ≡ Open → (abstract_map net u policy prefix row).length.high ≤ row.length.high
unfolding abstract_map
open_map_short net u policy prefix row is = rw is (go (inhabited row) (slice_get net.routers u)) where
  go : (b : Bool) (o : Option Router) → (cond b (option_map_or (λ (router : Router). row) o bottom) bottom).length.high ≤ row.length.high
  go false o = omega arith
  go true None = omega arith
  go true (Some router) = omega arith

sent_short : (v : ℕ) (row : Row) → (row_sent_by v row).length.high ≤ row.length.high + 1
unfolding row_sent_by
sent_short v row = go (inhabited row) where
  go : (b : Bool) → (cond b (record row { length = lengthened 1 row.length; may = bit_or row.may (2 ^ v); must = bit_or row.must (2 ^ v) }) bottom).length.high ≤ row.length.high + 1
  go false = omega arith
  go true = omega arith

exported_short : (net : NetValue) (prefix : PrefixValue) (from : End) (row : Row) → from.export ≡ Open → (exported net prefix from row).length.high ≤ row.length.high + 1
unfolding exported
exported_short net prefix from row is = go (may_leave net row) where
  go : (b : Bool) → (cond b (row_sent_by from.router (abstract_map net from.router from.export prefix row)) bottom).length.high ≤ row.length.high + 1
  go false = omega arith
  go true =
      let s = sent_short from.router (abstract_map net from.router from.export prefix row) in
      let m = open_map_short net from.router from.export prefix row is in omega arith

received_short : (u : ℕ) (row : Row) → (received u row).length.high ≤ row.length.high
unfolding received
received_short u row = go (has row.must u) where
  go : (b : Bool) → (cond b bottom (record row { weight = single 0; preference = single 100; may = less row.may u })).length.high ≤ row.length.high
  go true = omega arith
  go false = omega arith

cut_short : (most : ℕ) (row : Row) → (cut_row most row).length.high ≤ min row.length.high most
unfolding cut_row
cut_short most row = go (inhabited row) where
  go : (b : Bool) → (cond b (record row { length = record { low = min row.length.low most; high = min row.length.high most } }) bottom).length.high ≤ min row.length.high most
  go false = omega arith
  go true = omega arith

between_short : (net : NetValue) (prefix : PrefixValue) (from to : End) (row : Row) → from.export ≡ Open → to.import ≡ Open → (between net prefix from to row).length.high ≤ min (row.length.high + 1) (longest net)
unfolding imported
between_short net prefix from to row sends takes =
    let e = exported_short net prefix from row sends in
    let r = received_short to.router (exported net prefix from row) in
    let m = open_map_short net to.router to.import prefix (received to.router (exported net prefix from row)) takes in
    let c = cut_short (longest net) (abstract_map net to.router to.import prefix (received to.router (exported net prefix from row))) in omega arith

transfer_short : (net : NetValue) (prefix : PrefixValue) (arc : Arc) (link : Link) (row : Row) → link_of net arc ≡ Some link → (from_end arc.down link).export ≡ Open → (to_end arc.down link).import ≡ Open → (transfer net prefix arc row).length.high ≤ min (row.length.high + 1) (longest net)
unfolding transfer
transfer_short net prefix arc link row is sends takes = rw is (go link.session) where
  go : (session : Bool) → (cond session (between net prefix (from_end arc.down link) (to_end arc.down link) row) bottom).length.high ≤ min (row.length.high + 1) (longest net)
  go false = omega arith
  go true = between_short net prefix (from_end arc.down link) (to_end arc.down link) row sends takes

gives_short : (net : NetValue) (prefix : PrefixValue) (arc : Arc) (row : Row) → (gives net prefix arc row).length.high ≤ (transfer net prefix arc row).length.high
gives_short net prefix arc row = go (inhabited (transfer net prefix arc row)) where
  go : (b : Bool) → (cond b (carried_row (transfer net prefix arc row)) bottom).length.high ≤ (transfer net prefix arc row).length.high
  go false = omega arith
  go true = omega arith

pub open_adds_one : OpenAddsOne
open_adds_one net prefix arc link row is sends takes i =
    let l = gives_lengthens net prefix arc row i in
    let g = gives_short net prefix arc row in
    let t = transfer_short net prefix arc link row is sends takes in omega arith

pub longest_is_small : LongestIsSmall
longest_is_small net valid = let s = longest_small net valid in omega arith
