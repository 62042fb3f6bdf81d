-- Transfers grow with their rows, the free transfer is above the transfer, what passes is open, and what an arc makes
-- of a row is a row of 64-bit words with short paths.
use Rattle.std.proofs.Common.{ℕ, ◌≡◌, ◌<◌, ◌≤◌, ◌^◌, ◌⊎◌, inl, inr, min, Bool, true, false, length, arith, ap, ◌∙◌, refl, cond}
use Rattle.std.specs.Int.{bit_not, w64}
use Rattle.std.proofs.lemmas.Nat.{and_le_l}
use Rattle.net_types.specs.declared.network.End.{End}
use Rattle.net_types.specs.NetFacts.{IsNet}
use Rattle.net_types.specs.NetValue.{NetValue}
use Rattle.net_types.specs.PrefixValue.{PrefixValue}
use Rattle.net_types.specs.Sets.{has}
use Rattle.abstract_route.specs.declared.rows.Row.{Row}
use Rattle.abstract_route.specs.Rows.{IsBelow, IsInhabited, IsRow, bottom, inhabited, single}
use Rattle.abstract_route.proofs.FitLemmas.{inhabited_is, inhabited_up}
use Rattle.abstract_route.proofs.RowLemmas.{part_refl}
use Rattle.abstract_maps.specs.AbstractMap.{abstract_map}
use Rattle.abstract_maps.specs.Transfer.{between, between_free, cut_row, exported, imported, less, longest, may_leave, passes_between, received, received_free, row_sent_by}
use Rattle.abstract_maps.proofs.SetWords.{bool_cases, has_full, minus_less, minus_part, union_part}
use Rattle.abstract_maps.proofs.WordLemmas.{HasWords, bottom_words, row_of}
use Rattle.abstract_maps.proofs.MapLemmas.{map_grows, map_inhabited, map_out, policy_words}
use Rattle.abstract_maps.proofs.TransferLemmas.{PassesParts, exported_words, may_leave_grows, passes_parts, surely_may_leave}

-- no route, or below
pub data IsUnder (a b : Row) : Type 0 where
  under_none : a ≡ bottom → IsUnder a b
  under_below : IsBelow a b → IsUnder a b

-- a row is inhabited or not
pub uninhabited_or : (row : Row) → (IsInhabited row) ⊎ (inhabited row ≡ false)
uninhabited_or row = elim (bool_cases (inhabited row)) [
  | inl some ↦ inl ((inhabited_is row).0 some)
  | inr none ↦ inr none
]

-- ---- what the sender announces

pub sent_out : (v : ℕ) (row : Row) → inhabited row ≡ false → row_sent_by v row ≡ bottom
unfolding row_sent_by
sent_out v row e = rw e refl

sent_grows : (v : ℕ) (a b : Row) → IsInhabited a → IsBelow a b → IsBelow (row_sent_by v a) (row_sent_by v b)
unfolding row_sent_by
sent_grows v a b i l =
    let e = (inhabited_is a).1 i in let f = (inhabited_is b).1 (inhabited_up a b l i) in rw (e, f) (record {
      weight = l.weight;
      preference = l.preference;
      origin = l.origin;
      med = l.med;
      has = l.has;
      lacks = l.lacks;
      length = (let q = l.length in (omega arith, omega arith));
      may = union_part a.may b.may (2 ^ v) l.may;
      must = union_part b.must a.must (2 ^ v) l.must;
    })

pub sent_inhabited : (v : ℕ) (row : Row) → IsInhabited row → IsInhabited (row_sent_by v row)
unfolding row_sent_by
sent_inhabited v row i = let e = (inhabited_is row).1 i in rw e (record {
  weight = i.weight;
  preference = i.preference;
  origin = i.origin;
  med = i.med;
  communities = i.communities;
  length = (let q = i.length in omega arith);
  routers = union_part row.must row.may (2 ^ v) i.routers;
})

exported_grows : (net : NetValue) (prefix : PrefixValue) (from : End) (a b : Row) → IsNet net → from.router < length net.routers → IsBelow a b → IsUnder (exported net prefix from a) (exported net prefix from b)
unfolding exported
exported_grows net prefix from a b valid inside l = leave (may_leave net a) refl (uninhabited_or a) where
  mapped : IsInhabited a → (IsInhabited (abstract_map net from.router from.export prefix a)) ⊎ (inhabited (abstract_map net from.router from.export prefix a) ≡ false) →
      IsUnder (row_sent_by from.router (abstract_map net from.router from.export prefix a)) (row_sent_by from.router (abstract_map net from.router from.export prefix b))
  mapped i (inl some) = under_below (sent_grows from.router (abstract_map net from.router from.export prefix a) (abstract_map net from.router from.export prefix b) some (map_grows net from.router from.export prefix a b valid inside i l))
  mapped i (inr none) = under_none (sent_out from.router (abstract_map net from.router from.export prefix a) none)

  leave : (f : Bool) → may_leave net a ≡ f → (IsInhabited a) ⊎ (inhabited a ≡ false) →
      IsUnder (cond f (row_sent_by from.router (abstract_map net from.router from.export prefix a)) bottom)
      (cond (may_leave net b) (row_sent_by from.router (abstract_map net from.router from.export prefix b)) bottom)
  leave false e i = under_none refl
  leave true e (inr none) = under_none (ap (row_sent_by from.router) (map_out net from.router from.export prefix a none) ∙ sent_out from.router bottom refl)
  leave true e (inl i) = let g = may_leave_grows net a b valid l.lacks e in rw g (mapped i (uninhabited_or (abstract_map net from.router from.export prefix a)))

-- ---- what the receiver begins with

received_grows : (u : ℕ) (a b : Row) → IsBelow a b → IsUnder (received u a) (received u b)
unfolding received
received_grows u a b l = go (has a.must u) (has b.must u) refl refl where
  go : (p q : Bool) → has a.must u ≡ p → has b.must u ≡ q →
      IsUnder (cond p bottom (record a { weight = single 0; preference = single 100; may = less a.may u })) (cond q bottom (record b { weight = single 0; preference = single 100; may = less b.may u }))
  go true q e f = under_none refl
  go false true e f = absurd (let g = l.must.members u f in cc)
  go false false e f = under_below (record {
    weight = (omega arith, omega arith);
    preference = (omega arith, omega arith);
    length = l.length;
    origin = l.origin;
    med = l.med;
    has = l.has;
    lacks = l.lacks;
    may = minus_part a.may b.may (2 ^ u) l.may;
    must = l.must;
  })

pub received_none : (u : ℕ) → u < 64 → received u bottom ≡ bottom
unfolding received
received_none u low = let e = has_full u low in rw e refl

free_grows : (u : ℕ) (a b : Row) → IsBelow a b → IsBelow (received_free u a) (received_free u b)
unfolding received_free
free_grows u a b l = record {
  weight = (omega arith, omega arith);
  preference = (omega arith, omega arith);
  length = l.length;
  origin = l.origin;
  med = l.med;
  has = l.has;
  lacks = l.lacks;
  may = minus_part a.may b.may (2 ^ u) l.may;
  must = minus_part b.must a.must (2 ^ u) l.must;
}

pub free_none : (u : ℕ) → inhabited (received_free u bottom) ≡ false
unfolding received_free
free_none u = refl

pub free_inhabited : (u : ℕ) (row : Row) → IsInhabited row → IsInhabited (received_free u row)
unfolding received_free
free_inhabited u row i = record {
  weight = omega arith;
  preference = omega arith;
  length = i.length;
  origin = i.origin;
  med = i.med;
  communities = i.communities;
  routers = minus_part row.must row.may (2 ^ u) i.routers;
}

received_under_free : (u : ℕ) (row : Row) → IsUnder (received u row) (received_free u row)
unfolding received received_free
received_under_free u row = go (has row.must u) where
  go : (p : Bool) → IsUnder (cond p bottom (record row { weight = single 0; preference = single 100; may = less row.may u })) (record row { weight = single 0; preference = single 100; may = less row.may u; must = less row.must u })
  go true = under_none refl
  go false = under_below (record {
    weight = (omega arith, omega arith);
    preference = (omega arith, omega arith);
    length = (omega arith, omega arith);
    origin = (omega arith, omega arith);
    med = (omega arith, omega arith);
    has = part_refl row.has;
    lacks = part_refl row.lacks;
    may = part_refl (less row.may u);
    must = minus_less row.must (2 ^ u);
  })

-- ---- what the receiver takes in

pub cut_out : (most : ℕ) (row : Row) → inhabited row ≡ false → cut_row most row ≡ bottom
unfolding cut_row
cut_out most row e = rw e refl

cut_grows : (most : ℕ) (a b : Row) → IsInhabited a → IsBelow a b → IsBelow (cut_row most a) (cut_row most b)
unfolding cut_row
cut_grows most a b i l =
    let e = (inhabited_is a).1 i in let f = (inhabited_is b).1 (inhabited_up a b l i) in rw (e, f) (record {
      weight = l.weight;
      preference = l.preference;
      origin = l.origin;
      med = l.med;
      has = l.has;
      lacks = l.lacks;
      may = l.may;
      must = l.must;
      length = (let q = l.length in (omega arith, omega arith));
    })

pub cut_inhabited : (most : ℕ) (row : Row) → IsInhabited row → IsInhabited (cut_row most row)
unfolding cut_row
cut_inhabited most row i = let e = (inhabited_is row).1 i in rw e (record {
  weight = i.weight;
  preference = i.preference;
  origin = i.origin;
  med = i.med;
  communities = i.communities;
  routers = i.routers;
  length = (let q = i.length in omega arith);
})

-- the cut leaves no route, or an inhabited row
pub cut_either : (most : ℕ) (row : Row) → (cut_row most row ≡ bottom) ⊎ (IsInhabited (cut_row most row))
cut_either most row = elim (uninhabited_or row) [
  | inl i ↦ inr (cut_inhabited most row i)
  | inr none ↦ inl (cut_out most row none)
]

cut_is_row : (most : ℕ) (row : Row) → most < 2 ^ 64 → HasWords row → IsRow (cut_row most row)
unfolding cut_row
cut_is_row most row small w = go (inhabited row) where
  go : (b : Bool) → IsRow (cond b (record row { length = record { low = min row.length.low most; high = min row.length.high most } }) bottom)
  go true = row_of (record row { length = record { low = min row.length.low most; high = min row.length.high most } }) (omega arith, omega arith)
      (record { weight = w.weight; preference = w.preference; origin = w.origin; med = w.med; has = w.has; lacks = w.lacks; may = w.may; must = w.must })
  go false = row_of bottom (omega arith, omega arith) bottom_words

cut_short : (most : ℕ) (row : Row) → (cut_row most row).length.high ≤ most
unfolding cut_row
cut_short most row = go (inhabited row) where
  go : (b : Bool) → (cond b (record row { length = record { low = min row.length.low most; high = min row.length.high most } }) bottom).length.high ≤ most
  go true = omega arith
  go false = omega arith

pub longest_small : (net : NetValue) → IsNet net → longest net ≤ 1344
longest_small net valid = let f = valid.few_routers in omega arith

pub imported_out : (net : NetValue) (prefix : PrefixValue) (to : End) (row : Row) → inhabited row ≡ false → imported net prefix to row ≡ bottom
unfolding imported
imported_out net prefix to row none = ap (cut_row (longest net)) (map_out net to.router to.import prefix row none) ∙ cut_out (longest net) bottom refl

imported_below : (net : NetValue) (prefix : PrefixValue) (to : End) (a b : Row) → IsNet net → to.router < length net.routers → IsInhabited a → IsBelow a b → IsUnder (imported net prefix to a) (imported net prefix to b)
unfolding imported
imported_below net prefix to a b valid inside i l = elim (uninhabited_or (abstract_map net to.router to.import prefix a)) [
  | inl some ↦ under_below (cut_grows (longest net) (abstract_map net to.router to.import prefix a) (abstract_map net to.router to.import prefix b) some (map_grows net to.router to.import prefix a b valid inside i l))
  | inr none ↦ under_none (cut_out (longest net) (abstract_map net to.router to.import prefix a) none)
]

imported_grows : (net : NetValue) (prefix : PrefixValue) (to : End) (a b : Row) → IsNet net → to.router < length net.routers → IsUnder a b → IsUnder (imported net prefix to a) (imported net prefix to b)
imported_grows net prefix to a b valid inside u = elim u [
  | under_none e ↦ under_none (ap (imported net prefix to) e ∙ imported_out net prefix to bottom refl)
  | under_below l ↦ elim (uninhabited_or a) [
    | inl i ↦ imported_below net prefix to a b valid inside i l
    | inr none ↦ under_none (imported_out net prefix to a none)
  ]
]

pub imported_either : (net : NetValue) (prefix : PrefixValue) (to : End) (row : Row) → (imported net prefix to row ≡ bottom) ⊎ (IsInhabited (imported net prefix to row))
unfolding imported
imported_either net prefix to row = cut_either (longest net) (abstract_map net to.router to.import prefix row)

pub imported_is_row : (net : NetValue) (prefix : PrefixValue) (to : End) (row : Row) → IsNet net → to.router < length net.routers → HasWords row → IsRow (imported net prefix to row)
unfolding imported
imported_is_row net prefix to row valid inside w =
    cut_is_row (longest net) (abstract_map net to.router to.import prefix row) (let f = valid.few_routers in omega arith) (policy_words net to.router to.import prefix row valid inside w)

pub imported_short : (net : NetValue) (prefix : PrefixValue) (to : End) (row : Row) → (imported net prefix to row).length.high ≤ longest net
unfolding imported
imported_short net prefix to row = cut_short (longest net) (abstract_map net to.router to.import prefix row)

-- ---- from end to end

pub received_words : (u : ℕ) (row : Row) → HasWords row → HasWords (received u row)
unfolding received
received_words u row w = go (has row.must u) where
  go : (p : Bool) → HasWords (cond p bottom (record row { weight = single 0; preference = single 100; may = less row.may u }))
  go true = bottom_words
  go false = record {
    weight = (omega arith, omega arith);
    preference = (omega arith, omega arith);
    origin = w.origin;
    med = w.med;
    has = w.has;
    lacks = w.lacks;
    must = w.must;
    may = (let l = and_le_l row.may (bit_not w64 (2 ^ u)) in let s = w.may in omega arith);
  }

pub between_grows : (net : NetValue) (prefix : PrefixValue) (from to : End) (a b : Row) → IsNet net → from.router < length net.routers → to.router < length net.routers → IsBelow a b → IsUnder (between net prefix from to a) (between net prefix from to b)
between_grows net prefix from to a b valid from_in to_in l =
    imported_grows net prefix to (received to.router (exported net prefix from a)) (received to.router (exported net prefix from b)) valid to_in
    (elim (exported_grows net prefix from a b valid from_in l) [
      | under_none e ↦ under_none (ap (received to.router) e ∙ received_none to.router (let f = valid.few_routers in omega arith))
      | under_below m ↦ received_grows to.router (exported net prefix from a) (exported net prefix from b) m
    ])

pub between_free_grows : (net : NetValue) (prefix : PrefixValue) (from to : End) (a b : Row) → IsNet net → from.router < length net.routers → to.router < length net.routers → IsBelow a b → IsUnder (between_free net prefix from to a) (between_free net prefix from to b)
between_free_grows net prefix from to a b valid from_in to_in l = elim (exported_grows net prefix from a b valid from_in l) [
  | under_none e ↦ under_none (ap (λ (row : Row). imported net prefix to (received_free to.router row)) e ∙ imported_out net prefix to (received_free to.router bottom) (free_none to.router))
  | under_below m ↦ imported_grows net prefix to (received_free to.router (exported net prefix from a)) (received_free to.router (exported net prefix from b)) valid to_in
      (under_below (free_grows to.router (exported net prefix from a) (exported net prefix from b) m))
]

pub between_under_free : (net : NetValue) (prefix : PrefixValue) (from to : End) (row : Row) → IsNet net → to.router < length net.routers → IsUnder (between net prefix from to row) (between_free net prefix from to row)
between_under_free net prefix from to row valid to_in =
    imported_grows net prefix to (received to.router (exported net prefix from row)) (received_free to.router (exported net prefix from row)) valid to_in
    (received_under_free to.router (exported net prefix from row))

pub between_either : (net : NetValue) (prefix : PrefixValue) (from to : End) (row : Row) → (between net prefix from to row ≡ bottom) ⊎ (IsInhabited (between net prefix from to row))
between_either net prefix from to row = imported_either net prefix to (received to.router (exported net prefix from row))

pub between_short : (net : NetValue) (prefix : PrefixValue) (from to : End) (row : Row) → (between net prefix from to row).length.high ≤ longest net
between_short net prefix from to row = imported_short net prefix to (received to.router (exported net prefix from row))

pub between_is_row : (net : NetValue) (prefix : PrefixValue) (from to : End) (row : Row) → IsNet net → from.router < length net.routers → to.router < length net.routers → HasWords row → IsRow (between net prefix from to row)
between_is_row net prefix from to row valid from_in to_in w =
    imported_is_row net prefix to (received to.router (exported net prefix from row)) valid to_in
    (received_words to.router (exported net prefix from row) (exported_words net prefix from row valid from_in w))

exported_inhabited : (net : NetValue) (prefix : PrefixValue) (from : End) (row : Row) → may_leave net row ≡ true → IsInhabited (abstract_map net from.router from.export prefix row) → IsInhabited (exported net prefix from row)
unfolding exported
exported_inhabited net prefix from row e i = rw e (sent_inhabited from.router (abstract_map net from.router from.export prefix row) i)

imported_inhabited : (net : NetValue) (prefix : PrefixValue) (to : End) (row : Row) → IsInhabited (abstract_map net to.router to.import prefix row) → IsInhabited (imported net prefix to row)
unfolding imported
imported_inhabited net prefix to row i = cut_inhabited (longest net) (abstract_map net to.router to.import prefix row) i

pub passes_opens : (net : NetValue) (prefix : PrefixValue) (from to : End) (row : Row) → IsNet net → from.router < length net.routers → to.router < length net.routers → passes_between net prefix from to row ≡ true → IsInhabited (between_free net prefix from to row)
passes_opens net prefix from to row valid from_in to_in p = go (passes_parts net prefix from to row p) where
  go : PassesParts net prefix from to row → IsInhabited (between_free net prefix from to row)
  go parts =
      let begun = free_inhabited to.router (exported net prefix from row)
      (exported_inhabited net prefix from row (surely_may_leave net row valid parts.inhabited parts.leaves) (map_inhabited net from.router from.export prefix row valid from_in parts.inhabited parts.export_sure)) in
      imported_inhabited net prefix to (received_free to.router (exported net prefix from row))
      (map_inhabited net to.router to.import prefix (received_free to.router (exported net prefix from row)) valid to_in begun parts.import_sure)
