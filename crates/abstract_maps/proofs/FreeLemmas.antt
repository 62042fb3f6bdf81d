-- A transfer without the test whether the receiver is on every path is the transfer of the row without the receiver.
use Rattle.std.proofs.Common.{ℕ, ◌≡◌, ◌≢◌, ◌<◌, ◌==◌, ◌+◌, ◌^◌, ◌&&◌, ◌⊎◌, inl, inr, Bool, true, false, not, List, [], ◌∷◌, length, Option, Some, None, bit_or, bit_and, arith, ap, sym, subst, ◌∙◌, refl, cond}
use Rattle.std.specs.Int.{bit_not, w64}
use Rattle.std.proofs.lemmas.Bool.Decides.{nat_tests}
use Rattle.std.proofs.lemmas.Nat.{pow_below}
use Rattle.net_types.specs.declared.arcs.Arc.{Arc}
use Rattle.net_types.specs.declared.network.End.{End}
use Rattle.net_types.specs.declared.network.NetCommunityEntry.{NetCommunityEntry}
use Rattle.net_types.specs.declared.network.NetMapEntry.{NetMapEntry}
use Rattle.net_types.specs.declared.network.NetSets.{NetSets}
use Rattle.net_types.specs.declared.network.Policy.{Policy}
use Rattle.net_types.specs.declared.network.Policy.TheVariants.{Closed, Open, Map}
use Rattle.net_types.specs.declared.network.Router.{Router}
use Rattle.net_types.specs.Arcs.{receiver_of}
use Rattle.net_types.specs.NetFacts.{IsNet}
use Rattle.net_types.specs.NetValue.{NetValue}
use Rattle.net_types.specs.PrefixValue.{PrefixValue}
use Rattle.net_types.specs.Sets.{has}
use Rattle.net_types.proofs.SetLemmas.{has_union, has_common, same_sets}
use Rattle.abstract_route.specs.declared.rows.Row.{Row}
use Rattle.abstract_route.specs.Rows.{IsInhabited, bottom, joined, single}
use Rattle.abstract_route.proofs.RowLemmas.{row_same}
use Rattle.concrete_algebra.specs.Maps.{community_entries, map_entries, prefixes_match}
use Rattle.abstract_maps.specs.declared.statuses.Status.{Status}
use Rattle.abstract_maps.specs.declared.statuses.Status.TheVariants.{No, Maybe, Yes}
use Rattle.abstract_maps.specs.AbstractMap.{abstract_map, by_entry, entry_row, map_row, policy_row}
use Rattle.abstract_maps.specs.Laws.{without}
use Rattle.abstract_maps.specs.RowSets.{row_under_sets, with_router}
use Rattle.abstract_maps.specs.Statuses.{Outcomes, both, by_status, certain_status, community_status, entry_status, outcome_status, outcomes, values_status}
use Rattle.abstract_maps.specs.Transfer.{exported, free, imported, less, may_leave, received, received_free, row_sent_by, transfer}
use Rattle.abstract_maps.proofs.SetWords.{has_not, has_single, has_zero, minus_part}
use Rattle.abstract_maps.proofs.MapLemmas.{IsAt, map_either, map_in, router_at}
use Rattle.abstract_maps.proofs.GrowthLemmas.{free_none, imported_out, received_none, sent_out}
use Rattle.abstract_maps.proofs.ExactLemmas.{sent_inside}
use Rattle.abstract_maps.proofs.ArcLemmas.{IsSession, kind}

-- ---- sets without the receiver

-- all numbers of a word but one
abbrev others : ℕ → ℕ
others u = bit_not w64 (2 ^ u)

or_both : (a b u : ℕ) → bit_or (less a u) (less b u) ≡ less (bit_or a b) u
or_both a b u = same_sets (bit_or (less a u) (less b u)) (less (bit_or a b) u) (λ x.
    let e = has_union (less a u) (less b u) x in let f = has_common a (others u) x in let g = has_common b (others u) x in
    let h = has_common (bit_or a b) (others u) x in let k = has_union a b x in grind (arith, nat_tests))

or_left : (a b u : ℕ) → ((x : ℕ) → has a x ≡ true → has (others u) x ≡ true) → bit_or a (less b u) ≡ less (bit_or a b) u
or_left a b u keep = same_sets (bit_or a (less b u)) (less (bit_or a b) u) (λ x.
    let e = has_union a (less b u) x in let g = has_common b (others u) x in
    let h = has_common (bit_or a b) (others u) x in let k = has_union a b x in let l = keep x in grind (arith, nat_tests))

or_right : (a b u : ℕ) → ((x : ℕ) → has b x ≡ true → has (others u) x ≡ true) → bit_or (less a u) b ≡ less (bit_or a b) u
or_right a b u keep = same_sets (bit_or (less a u) b) (less (bit_or a b) u) (λ x.
    let e = has_union (less a u) b x in let g = has_common a (others u) x in
    let h = has_common (bit_or a b) (others u) x in let k = has_union a b x in let l = keep x in grind (arith, nat_tests))

and_both : (a b u : ℕ) → bit_and (less a u) (less b u) ≡ less (bit_and a b) u
and_both a b u = same_sets (bit_and (less a u) (less b u)) (less (bit_and a b) u) (λ x.
    let e = has_common (less a u) (less b u) x in let f = has_common a (others u) x in let g = has_common b (others u) x in
    let h = has_common (bit_and a b) (others u) x in let k = has_common a b x in grind (arith, nat_tests))

and_left : (a b u : ℕ) → bit_and a (less b u) ≡ less (bit_and a b) u
and_left a b u = same_sets (bit_and a (less b u)) (less (bit_and a b) u) (λ x.
    let e = has_common a (less b u) x in let g = has_common b (others u) x in
    let h = has_common (bit_and a b) (others u) x in let k = has_common a b x in grind (arith, nat_tests))

and_right : (a b u : ℕ) → bit_and (less a u) b ≡ less (bit_and a b) u
and_right a b u = same_sets (bit_and (less a u) b) (less (bit_and a b) u) (λ x.
    let e = has_common (less a u) b x in let g = has_common a (others u) x in
    let h = has_common (bit_and a b) (others u) x in let k = has_common a b x in grind (arith, nat_tests))

twice : (a u : ℕ) → less (less a u) u ≡ less a u
twice a u = same_sets (less (less a u) u) (less a u) (λ x.
    let e = has_common (less a u) (others u) x in let f = has_common a (others u) x in grind (arith, nat_tests))

none_keeps : (u x : ℕ) → has 0 x ≡ true → has (others u) x ≡ true
none_keeps u x e = absurd (let z = has_zero x in cc)

one_keeps : (u v : ℕ) → u < 64 → v < 64 → v ≢ u → (x : ℕ) → has (2 ^ v) x ≡ true → has (others u) x ≡ true
one_keeps u v low vlow apart x e = let f = is (has_single v x) e in rw f (has_not (2 ^ u) v (pow_below u 64 low) vlow ∙ ap not (off (has (2 ^ u) v) (has_single u v))) where
  is : has (2 ^ v) x ≡ (x == v) → has (2 ^ v) x ≡ true → x ≡ v
  is s e = grind (arith, nat_tests)

  off : (b : Bool) → b ≡ (v == u) → b ≡ false
  off true e = absurd (apart (grind (arith, nat_tests)))
  off false e = refl

own_off : (a u : ℕ) → u < 64 → has (less a u) u ≡ false
own_off a u low = has_common a (others u) u ∙ step (has a u) (has (others u) u) (has_not (2 ^ u) u (pow_below u 64 low) low ∙ ap not (has_single u u ∙ same u)) where
  same : (n : ℕ) → (n == n) ≡ true
  same n = grind (arith, nat_tests)

  step : (p q : Bool) → q ≡ false → (p && q) ≡ false
  step true q e = e
  step false q e = refl

router_without : (k v u set : ℕ) → u < 64 → v < 64 → v ≢ u → with_router k v (less set u) ≡ less (with_router k v set) u
router_without k v u set low vlow apart = go (k == 0) where
  go : (b : Bool) → cond b (less set u) (bit_or (less set u) (2 ^ v)) ≡ less (cond b set (bit_or set (2 ^ v))) u
  go true = refl
  go false = or_right set (2 ^ v) u (one_keeps u v low vlow apart)

-- ---- what is the same without it: both rows are no route's, or one is the other without the receiver

data AreAlike (u : ℕ) (a b : Row) : Type 0 where
  alike_none : a ≡ bottom → b ≡ bottom → AreAlike u a b
  alike_less : b ≡ without u a → AreAlike u a b

joined_without : (u : ℕ) (a b : Row) → joined (without u a) (without u b) ≡ without u (joined a b)
joined_without u a b = row_same (joined (without u a) (without u b)) (without u (joined a b)) refl refl refl refl refl refl refl (or_both a.may b.may u) (and_both a.must b.must u)

joined_left : (u : ℕ) (b : Row) → joined bottom (without u b) ≡ without u (joined bottom b)
joined_left u b = row_same (joined bottom (without u b)) (without u (joined bottom b)) refl refl refl refl refl refl refl (or_left 0 b.may u (none_keeps u)) (and_left 18446744073709551615 b.must u)

joined_right : (u : ℕ) (a : Row) → joined (without u a) bottom ≡ without u (joined a bottom)
joined_right u a = row_same (joined (without u a) bottom) (without u (joined a bottom)) refl refl refl refl refl refl refl (or_right a.may 0 u (none_keeps u)) (and_right a.must 18446744073709551615 u)

joins_alike : (u : ℕ) (a b c d : Row) → AreAlike u a b → AreAlike u c d → AreAlike u (joined a c) (joined b d)
joins_alike u a b c d p q = elim p [
  | alike_none e f ↦ elim q [
    | alike_none g h ↦ rw (e, f, g, h) (alike_none refl refl)
    | alike_less g ↦ rw (e, f, g) (alike_less (joined_left u c))
  ]
  | alike_less e ↦ elim q [
    | alike_none g h ↦ rw (e, g, h) (alike_less (joined_right u a))
    | alike_less g ↦ rw (e, g) (alike_less (joined_without u a c))
  ]
]

by_entry_alike : (u : ℕ) (s : Status) (a b c d : Row) → AreAlike u a b → AreAlike u c d → AreAlike u (by_entry s a c) (by_entry s b d)
by_entry_alike u No a b c d p q = q
by_entry_alike u Yes a b c d p q = p
by_entry_alike u Maybe a b c d p q = joins_alike u a b c d p q

-- ---- maps

outcomes_without : (u : ℕ) (es : List NetCommunityEntry) (row : Row) → outcomes es (without u row) ≡ outcomes es row
unfolding outcomes
outcomes_without u [] row = refl
outcomes_without u (e ∷ es) row = ap (λ (o : Outcomes). by_status (values_status e.values row) e.permit o) (outcomes_without u es row)

community_without : (u : ℕ) (router : Router) (at : Option ℕ) (row : Row) → community_status router at (without u row) ≡ community_status router at row
community_without u router None row = refl
community_without u router (Some position) row = ap outcome_status (outcomes_without u (community_entries router position) row)

status_without : (u : ℕ) (router : Router) (prefix : PrefixValue) (e : NetMapEntry) (row : Row) → entry_status router prefix e (without u row) ≡ entry_status router prefix e row
status_without u router prefix e row = ap (λ (s : Status). both (certain_status (prefixes_match router e.prefixes prefix)) s) (community_without u router e.communities row)

sets_without : (router : Router) (v u : ℕ) (sets : NetSets) (row : Row) → u < 64 → v < 64 → v ≢ u → row_under_sets router v sets (without u row) ≡ without u (row_under_sets router v sets row)
unfolding row_under_sets
sets_without router v u sets row low vlow apart =
    row_same (row_under_sets router v sets (without u row)) (without u (row_under_sets router v sets row)) refl refl refl refl refl refl refl
    (router_without sets.prepend v u row.may low vlow apart) (router_without sets.prepend v u row.must low vlow apart)

entries_alike : (router : Router) (v u : ℕ) (prefix : PrefixValue) (es : List NetMapEntry) (row : Row) → u < 64 → v < 64 → v ≢ u → AreAlike u (map_row router v prefix es row) (map_row router v prefix es (without u row))
unfolding map_row
entries_alike router v u prefix [] row low vlow apart = alike_none refl refl
entries_alike router v u prefix (e ∷ es) row low vlow apart =
    subst (λ (s : Status). AreAlike u (by_entry (entry_status router prefix e row) (entry_row router v e row) (map_row router v prefix es row)) (by_entry s (entry_row router v e (without u row)) (map_row router v prefix es (without u row))))
    (sym (status_without u router prefix e row))
    (by_entry_alike u (entry_status router prefix e row) (entry_row router v e row) (entry_row router v e (without u row)) (map_row router v prefix es row) (map_row router v prefix es (without u row))
    (here e.permit) (entries_alike router v u prefix es row low vlow apart)) where
      here : (permit : Bool) → AreAlike u (cond permit (row_under_sets router v e.sets row) bottom) (cond permit (row_under_sets router v e.sets (without u row)) bottom)
      here true = alike_less (sets_without router v u e.sets row low vlow apart)
      here false = alike_none refl refl

inhabited_without : (u : ℕ) (row : Row) → IsInhabited row → IsInhabited (without u row)
inhabited_without u row i = record {
  weight = i.weight;
  preference = i.preference;
  length = i.length;
  origin = i.origin;
  med = i.med;
  communities = i.communities;
  routers = minus_part row.must row.may (2 ^ u) i.routers;
}

map_alike : (net : NetValue) (v u : ℕ) (policy : Policy) (prefix : PrefixValue) (row : Row) → IsNet net → v < length net.routers → u < 64 → v ≢ u → IsInhabited row → AreAlike u (abstract_map net v policy prefix row) (abstract_map net v policy prefix (without u row))
map_alike net v u policy prefix row valid inside low apart i =
    let at = router_at net v valid inside in
    let e = map_in net v policy prefix row at i in
    let f = map_in net v policy prefix (without u row) at (inhabited_without u row i) in
    rw (e, f) (go policy at) where
      go : (policy : Policy) (at : IsAt net v) → AreAlike u (policy_row at.router v policy prefix row) (policy_row at.router v policy prefix (without u row))
      go Closed at = alike_none refl refl
      go Open at = alike_less refl
      go (Map position) at = entries_alike at.router v u prefix (map_entries at.router position) row low at.low apart

-- ---- from end to end

sent_alike : (v u : ℕ) (a b : Row) → u < 64 → v < 64 → v ≢ u → (a ≡ bottom) ⊎ IsInhabited a → AreAlike u a b → AreAlike u (row_sent_by v a) (row_sent_by v b)
sent_alike v u a b low vlow apart known p = elim p [
  | alike_none e f ↦ alike_none (ap (row_sent_by v) e ∙ sent_out v bottom refl) (ap (row_sent_by v) f ∙ sent_out v bottom refl)
  | alike_less e ↦ elim known [
    | inl none ↦ alike_none (ap (row_sent_by v) none ∙ sent_out v bottom refl) (ap (row_sent_by v) (e ∙ ap (without u) none) ∙ sent_out v (without u bottom) refl)
    | inr i ↦ alike_less (ap (row_sent_by v) e ∙ sent_inside v (without u a) (inhabited_without u a i) ∙
        row_same (record (without u a) { length = record { low = a.length.low + 1; high = a.length.high + 1 }; may = bit_or (less a.may u) (2 ^ v); must = bit_or (less a.must u) (2 ^ v) })
        (without u (record a { length = record { low = a.length.low + 1; high = a.length.high + 1 }; may = bit_or a.may (2 ^ v); must = bit_or a.must (2 ^ v) }))
        refl refl refl refl refl refl refl (or_right a.may (2 ^ v) u (one_keeps u v low vlow apart)) (or_right a.must (2 ^ v) u (one_keeps u v low vlow apart)) ∙
        ap (without u) (sym (sent_inside v a i)))
  ]
]

exported_alike : (net : NetValue) (prefix : PrefixValue) (from : End) (u : ℕ) (row : Row) → IsNet net → from.router < length net.routers → u < 64 → from.router ≢ u → IsInhabited row → AreAlike u (exported net prefix from row) (exported net prefix from (without u row))
unfolding exported
exported_alike net prefix from u row valid inside low apart i = go (may_leave net row) where
  go : (b : Bool) → AreAlike u (cond b (row_sent_by from.router (abstract_map net from.router from.export prefix row)) bottom) (cond b (row_sent_by from.router (abstract_map net from.router from.export prefix (without u row))) bottom)
  go true = sent_alike from.router u (abstract_map net from.router from.export prefix row) (abstract_map net from.router from.export prefix (without u row)) low (let f = valid.few_routers in omega arith) apart
      (map_either net from.router from.export prefix row valid inside) (map_alike net from.router u from.export prefix row valid inside low apart i)
  go false = alike_none refl refl

received_without : (u : ℕ) (row : Row) → u < 64 → received_free u row ≡ received u (without u row)
unfolding received received_free
received_without u row low =
    row_same (record row { weight = single 0; preference = single 100; may = less row.may u; must = less row.must u }) (record row { weight = single 0; preference = single 100; may = less (less row.may u) u; must = less row.must u })
    refl refl refl refl refl refl refl (sym (twice row.may u)) refl ∙
    sym (ap (λ (b : Bool). cond b bottom (record row { weight = single 0; preference = single 100; may = less (less row.may u) u; must = less row.must u })) (own_off row.must u low))

imported_alike : (net : NetValue) (prefix : PrefixValue) (to : End) (a b : Row) → to.router < 64 → AreAlike to.router a b → imported net prefix to (received_free to.router a) ≡ imported net prefix to (received to.router b)
imported_alike net prefix to a b low p = elim p [
  | alike_none e f ↦
      ap (λ (row : Row). imported net prefix to (received_free to.router row)) e ∙ imported_out net prefix to (received_free to.router bottom) (free_none to.router) ∙
      sym (ap (λ (row : Row). imported net prefix to (received to.router row)) f ∙ ap (imported net prefix to) (received_none to.router low) ∙ imported_out net prefix to bottom refl)
  | alike_less e ↦ ap (imported net prefix to) (received_without to.router a low) ∙ sym (ap (λ (row : Row). imported net prefix to (received to.router row)) e)
]

free_at : (net : NetValue) (prefix : PrefixValue) (arc : Arc) (row : Row) → IsNet net → (s : IsSession net prefix arc) → IsInhabited row → free net prefix arc row ≡ transfer net prefix arc (without s.to.router row)
free_at net prefix arc row valid s i =
    let low : s.to.router < 64 = (let f = valid.few_routers in let g = s.to_in in omega arith) in
    s.free_is row ∙
    imported_alike net prefix s.to (exported net prefix s.from row) (exported net prefix s.from (without s.to.router row)) low
    (exported_alike net prefix s.from s.to.router row valid s.from_in low (λ e. s.apart (sym e)) i) ∙
    sym (s.transfer_is (without s.to.router row))

pub free_is_transfer : (net : NetValue) (prefix : PrefixValue) (arc : Arc) (u : ℕ) (row : Row) → IsNet net → receiver_of net arc ≡ Some u → IsInhabited row → free net prefix arc row ≡ transfer net prefix arc (without u row)
free_is_transfer net prefix arc u row valid receiver i = elim (kind net prefix arc valid) [
  | inl s ↦ free_at net prefix arc row valid s i ∙ ap (λ (v : ℕ). transfer net prefix arc (without v row)) (same s.to.router (sym s.receiver_is ∙ receiver))
  | inr n ↦ n.free_is row ∙ sym (n.transfer_is (without u row))
] where
  same : (v : ℕ) → Some v ≡ Some u → v ≡ u
  same v e = cc
