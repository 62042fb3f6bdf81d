-- The routers that feed each other are found, and their rows lengthened.
use Rattle.std.proofs.Common.{ℕ, ◌≡◌, ◌≢◌, ◌+◌, ◌*◌, ◌^◌, ◌<◌, ◌≤◌, ◌⊎◌, inl, inr, Bool, true, false, List, bit_or, bit_and, arith, ap, sym, subst, ◌∙◌, refl}
use Rattle.std.proofs.lemmas.Bool.Decides.{nat_tests}
use Rattle.std.proofs.lemmas.Nat.{and_le_l}
use Rattle.net_types.specs.declared.arcs.Arc.{Arc}
use Rattle.net_types.specs.Sets.{has, IsPart}
use Rattle.net_types.proofs.SetLemmas.{has_common}
use Rattle.net_types.proofs.TurnLemmas.{has_none}
use Rattle.abstract_route.specs.declared.rows.Row.{Row}
use Rattle.abstract_route.specs.Rows.{row_at}
use Rattle.abstract_route.proofs.FitLemmas.{has_full}
use Rattle.possible_fixpoint.specs.declared.marks.ArcSet.{ArcSet}
use Rattle.possible_fixpoint.specs.Climbing.{IsFed, raised_row}
use Rattle.possible_fixpoint.specs.Feeding.{AreLiving, AreReceivers, Brings, IsFedBy, IsGreatestFed}
use Rattle.possible_fixpoint.specs.Flow.{Flow, Lawful}
use Rattle.possible_fixpoint.specs.Marks.{has_arc, number}
use Rattle.possible_fixpoint.specs.Possible.{AreRows, Solves}
use Rattle.possible_fixpoint.specs.Standing.{Advanced, AreGiving, IsLengthened, Solvable, Stands}
use Rattle.possible_fixpoint.proofs.BitLemmas.{earlier_arc, has_more, number_low}
use Rattle.possible_fixpoint.proofs.ClimbLemmas.{fed_reach, raised_below, raised_is_row}
use Rattle.possible_fixpoint.proofs.JoinLemmas.{MayJoin, advanced_refl, advanced_trans, improved_joined}

pub none_found : (flow : Flow) (seen : ArcSet) (set : ℕ) → AreReceivers flow seen set 0 0
none_found flow seen set = record {
  arc = λ u h. absurd (let e = has_none u in cc);
  all = λ u arc l b. absurd (omega arith);
}

-- an arc that brings nothing from the set
pub found_same : (flow : Flow) (seen : ArcSet) (set found : ℕ) (arc : Arc) → (has_arc seen arc ≡ true → has set (flow.sender arc) ≡ true → ⊥) → AreReceivers flow seen set (number arc) found → AreReceivers flow seen set (number arc + 1) found
found_same flow seen set found arc not before = record {
  arc = before.arc;
  all = λ u a l b. elim (earlier_arc a arc l) [
    | inl same ↦ absurd (not (subst (λ (x : Arc). has_arc seen x ≡ true) same b.gave) (subst (λ (x : Arc). has set (flow.sender x) ≡ true) same b.from))
    | inr less ↦ before.all u a less b
  ];
}

-- one that brings something
pub found_more : (flow : Flow) (seen : ArcSet) (set found : ℕ) (arc : Arc) → has_arc seen arc ≡ true → has set (flow.sender arc) ≡ true → AreReceivers flow seen set (number arc) found → AreReceivers flow seen set (number arc + 1) (bit_or found (2 ^ flow.receiver arc))
found_more flow seen set found arc is from before = record {
  arc = λ u h. elim (old_or_new u h) [
    | inl old ↦ before.arc u old
    | inr new ↦ (arc, record { gave = is; from = from; to = new })
  ];
  all = λ u a l b. elim (earlier_arc a arc l) [
    | inl same ↦ (let p = has_more found (flow.receiver arc) u in let t : flow.receiver arc ≡ u = subst (λ (x : Arc). flow.receiver x ≡ u) same b.to in grind (arith, nat_tests))
    | inr less ↦ (let p = has_more found (flow.receiver arc) u in let q = before.all u a less b in grind (arith, nat_tests))
  ];
} where
  old_or_new : (u : ℕ) → has (bit_or found (2 ^ flow.receiver arc)) u ≡ true → (has found u ≡ true) ⊎ (flow.receiver arc ≡ u)
  old_or_new u h = let p = has_more found (flow.receiver arc) u in grind (arith, nat_tests)

-- the same, by what the calls answer
pub found_there : (flow : Flow) (seen : ArcSet) (set found from to result : ℕ) (arc : Arc) → has_arc seen arc ≡ true → from ≡ flow.sender arc → has set from ≡ true → to ≡ flow.receiver arc → result ≡ bit_or found (2 ^ to) → AreReceivers flow seen set (number arc) found → AreReceivers flow seen set (number arc + 1) result
found_there flow seen set found from to result arc is at holds goes made before =
    rw (made, goes) (found_more flow seen set found arc is (subst (λ (n : ℕ). has set n ≡ true) at holds) before)

-- every fed set is part of the set
pub record HasFed (flow : Flow) (seen : ArcSet) (set : ℕ) : Type 0 where
  pub part : (other : ℕ) → IsFedBy flow seen other → IsPart other set

full_has_fed : (flow : Flow) (seen : ArcSet) → Solvable flow → AreLiving flow seen → HasFed flow seen 18446744073709551615
full_has_fed flow seen solvable living = record { part = λ other fed. record { members = λ u h. inside (fed.arc u h) } } where
  inside : {other u : ℕ} → ((arc : Arc) × Brings flow seen other u arc) → has 18446744073709551615 u ≡ true
  inside {other} {u} (arc, b) =
      let t = solvable.lawful.receiver arc (living.arc arc b.gave) in let s = b.to in let few = solvable.few in
      has_full u (omega arith)

-- the members that a member brings something are still above every fed set
next_has_fed : (flow : Flow) (seen : ArcSet) (set found : ℕ) → Solvable flow → AreLiving flow seen → HasFed flow seen set → AreReceivers flow seen set (2 * flow.links) found → HasFed flow seen (bit_and set found)
next_has_fed flow seen set found solvable living has_fed receivers = record {
  part = λ other fed. record {
    members = λ u h.
        let p = (has_fed.part other fed).members in
        let a = fed.arc u h in
        let inside = number_low a.0 flow.links (solvable.lawful.link a.0 (living.arc a.0 a.1.gave)) in
        let q = receivers.all u a.0 inside (record { gave = a.1.gave; from = p (flow.sender a.0) a.1.from; to = a.1.to }) in
        let r = p u h in
        let s = has_common set found u in grind (arith, nat_tests);
  };
}

settled_is_greatest : (flow : Flow) (seen : ArcSet) (set found : ℕ) → HasFed flow seen set → AreReceivers flow seen set (2 * flow.links) found → bit_and set found ≡ set → IsGreatestFed flow seen set
settled_is_greatest flow seen set found has_fed receivers same = record {
  fed = record { arc = λ u h. receivers.arc u (let s = has_common set found u in let t : has (bit_and set found) u ≡ has set u = ap (λ n. has n u) same in grind (arith, nat_tests)) };
  greatest = has_fed.part;
}

-- how the taking out stands: the set, and what is left of it next
pub record IsFeeding (flow : Flow) (seen : ArcSet) (set next : ℕ) : Type 0 where
  pub has_fed : HasFed flow seen set
  pub left : (found : ℕ) × AreReceivers flow seen set (2 * flow.links) found × (next ≡ bit_and set found)

pub feeding_begins : (flow : Flow) (seen : ArcSet) (found next : ℕ) → Solvable flow → AreLiving flow seen → AreReceivers flow seen 18446744073709551615 (2 * flow.links) found → next ≡ bit_and 18446744073709551615 found → IsFeeding flow seen 18446744073709551615 next
feeding_begins flow seen found next solvable living receivers is = record { has_fed = full_has_fed flow seen solvable living; left = (found, receivers, is) }

pub feeding_goes_on : (flow : Flow) (seen : ArcSet) (set next found later : ℕ) → Solvable flow → AreLiving flow seen → IsFeeding flow seen set next → AreReceivers flow seen next (2 * flow.links) found → later ≡ bit_and next found → IsFeeding flow seen next later
feeding_goes_on flow seen set next found later solvable living before receivers is = record {
  has_fed = rw before.left.2 (next_has_fed flow seen set before.left.0 solvable living before.has_fed before.left.1);
  left = (found, receivers, is);
}

pub feeding_ends : (flow : Flow) (seen : ArcSet) (set next : ℕ) → IsFeeding flow seen set next → next ≡ set → IsGreatestFed flow seen set
feeding_ends flow seen set next before same = settled_is_greatest flow seen set before.left.0 before.has_fed before.left.1 (sym before.left.2 ∙ same)

pub feeding_falls : (flow : Flow) (seen : ArcSet) (set next : ℕ) → IsFeeding flow seen set next → next ≢ set → next < set
feeding_falls flow seen set next before not = let l = and_le_l set before.left.0 in let e = before.left.2 in grind arith

-- ---- lengthening

-- what is fed by the arcs that gave is fed at the rows
pub fed_by_is_fed : (flow : Flow) (xs : List Row) (seen : ArcSet) (set : ℕ) → AreGiving flow xs seen → IsFedBy flow seen set → IsFed flow xs (λ u. has set u)
fed_by_is_fed flow xs seen set giving fed u h =
    let a = fed.arc u h in
    (a.0, record { lives = giving.lives a.0 a.1.gave; receiver = a.1.to; sender = a.1.from; gives = giving.gives a.0 a.1.gave })

-- in every solution the members have paths of so many entries
pub record Climbs (flow : Flow) (most set : ℕ) : Type 0 where
  pub high : (ys : List Row) → AreRows ys → Solves flow ys → (u : ℕ) → has set u ≡ true → most ≤ (row_at ys u).length.high

pub climbs : (flow : Flow) (set : ℕ) (xs : List Row) (seen : ArcSet) (dirty : ℕ) → Solvable flow → Stands flow xs seen dirty → IsGreatestFed flow seen set → Climbs flow (21 * flow.routers) set
climbs flow set xs seen dirty solvable s g = record {
  high = λ ys words solves u member.
      fed_reach flow (21 * flow.routers) xs ys (λ v. has set v) solvable.lawful solvable.lengthens s.between.words words (s.between.low ys words solves) solves
      (fed_by_is_fed flow xs seen set s.giving g.fed) u member;
}

-- how the lengthening of the members stands
pub record Lengthening (flow : Flow) (xs ys : List Row) (seen : ArcSet) (dirty marks : ℕ) : Type 0 where
  pub standing : Stands flow ys seen marks
  pub advanced : Advanced xs ys dirty marks

pub lengthening_begins : (flow : Flow) (xs : List Row) (seen : ArcSet) (dirty : ℕ) → Stands flow xs seen dirty → Lengthening flow xs xs seen dirty dirty
lengthening_begins flow xs seen dirty s = record { standing = s; advanced = advanced_refl xs dirty }

pub lengthening_goes_on : (flow : Flow) (most set u : ℕ) (xs ys zs : List Row) (seen : ArcSet) (dirty marks more : ℕ) → Lawful flow → most < 2 ^ 64 → Climbs flow most set → u < flow.routers → Lengthening flow xs ys seen dirty marks → IsLengthened most set u ys zs marks more → Lengthening flow xs zs seen dirty more
lengthening_goes_on flow most set u xs ys zs seen dirty marks more laws small climb h l i = go (has set u) refl where
  go : (t : Bool) → has set u ≡ t → Lengthening flow xs zs seen dirty more
  go false is = let o = i.other is in rw (o.0, o.1) l
  go true is =
      let b = l.standing.between in
      let may : MayJoin flow u (raised_row most (row_at ys u)) = record {
        inside = h;
        is_row = raised_is_row most (row_at ys u) small (b.words.each u (let e = b.long in omega arith));
        low = λ ws rows solves. raised_below most (row_at ys u) (row_at ws u) ((b.low ws rows solves).each u (let e = b.long in omega arith)) (climb.high ws rows solves u is);
      } in
      let j = improved_joined flow 0 (2 * flow.links) u (raised_row most (row_at ys u)) ys zs seen marks more laws may l.standing (i.member is) in
      record { standing = j.standing; advanced = advanced_trans xs ys zs dirty marks more l.advanced j.advanced }

-- the same, for the set of those that feed each other
pub lengthened_on : (flow : Flow) (most set u : ℕ) (xs ys zs : List Row) (seen : ArcSet) (dirty marks more : ℕ) → Solvable flow → most ≡ 21 * flow.routers → IsGreatestFed flow seen set → Stands flow xs seen dirty → u < flow.routers → Lengthening flow xs ys seen dirty marks → IsLengthened most set u ys zs marks more → Lengthening flow xs zs seen dirty more
lengthened_on flow most set u xs ys zs seen dirty marks more solvable is g s h l i =
    lengthening_goes_on flow most set u xs ys zs seen dirty marks more solvable.lawful (rw is solvable.lengthens.small) (rw is (climbs flow set xs seen dirty solvable s g)) h l i
