-- Round a set that feeds itself lengths climb to the cut, in every solution; and rows whose lengths are raised.
use Rattle.std.proofs.Common.{ℕ, zero, suc, ◌≡◌, ◌<◌, ◌≤◌, ◌^◌, Bool, true, List, min, max, arith, subst}
use Rattle.net_types.specs.declared.arcs.Arc.{Arc}
use Rattle.abstract_route.specs.declared.rows.Row.{Row}
use Rattle.abstract_route.specs.Rows.{IsBelow, IsRow, row_at}
use Rattle.abstract_route.proofs.FitLemmas.{inhabited_up}
use Rattle.abstract_route.proofs.RowLemmas.{part_refl}
use Rattle.abstract_maps.proofs.LengthLemmas.{gives_lengthens, longest_is_small}
use Rattle.possible_fixpoint.specs.Climbing.{Feeds, IsFed, Lengthens, raised_row}
use Rattle.possible_fixpoint.specs.Flow.{Flow, Lawful}
use Rattle.possible_fixpoint.specs.Laws.{FedReachTheCut, FlowLengthens}
use Rattle.possible_fixpoint.specs.Possible.{AreBelow, AreRows, Solves}

pub flow_lengthens : FlowLengthens
flow_lengthens net prefix failed distances alive valid = record {
  small = longest_is_small net valid;
  longer = λ arc row i. gives_lengthens net prefix arc row i;
}

-- a member's length is one more than that of the member that feeds it
fed_step : (flow : Flow) (most : ℕ) (rows others : List Row) (set : ℕ → Bool) → Lawful flow → Lengthens flow most → AreRows rows → AreRows others → AreBelow rows others → Solves flow others → (k u : ℕ) (arc : Arc) → Feeds flow rows set u arc → min k most ≤ (row_at others (flow.sender arc)).length.high → min (suc k) most ≤ (row_at others u).length.high
fed_step flow most rows others set laws longer r_words o_words below solves k u arc f before =
    let v = flow.sender arc in
    let inside = laws.sender arc f.lives in
    let same = solves.long in
    let long = below.long in
    let grown = laws.grows arc (row_at rows v) (row_at others v) (r_words.each v (omega arith)) (o_words.each v (omega arith)) (below.each v (omega arith)) in
    let some = inhabited_up (flow.gives arc (row_at rows v)) (flow.gives arc (row_at others v)) grown f.gives in
    let higher = longer.longer arc (row_at others v) some in
    let above = (solves.learned arc f.lives).length in
    subst (λ (w : ℕ). min (suc k) most ≤ (row_at others w).length.high) f.receiver (omega arith)

fed_rises : (flow : Flow) (most : ℕ) (rows others : List Row) (set : ℕ → Bool) → Lawful flow → Lengthens flow most → AreRows rows → AreRows others → AreBelow rows others → Solves flow others → IsFed flow rows set → (k u : ℕ) → set u ≡ true → min k most ≤ (row_at others u).length.high
fed_rises flow most rows others set laws longer r_words o_words below solves fed zero u member = omega arith
fed_rises flow most rows others set laws longer r_words o_words below solves fed (suc k) u member =
    fed_step flow most rows others set laws longer r_words o_words below solves k u (fed u member).0 (fed u member).1
    (fed_rises flow most rows others set laws longer r_words o_words below solves fed k (flow.sender (fed u member).0) (fed u member).1.sender)

pub fed_reach : FedReachTheCut
fed_reach flow most rows others set laws longer r_words o_words below solves fed u member =
    let e = fed_rises flow most rows others set laws longer r_words o_words below solves fed most u member in omega arith

-- ---- raised rows

pub raised_up : (most : ℕ) (row : Row) → IsBelow row (raised_row most row)
raised_up most row = record {
  weight = (omega arith, omega arith);
  preference = (omega arith, omega arith);
  length = (omega arith, omega arith);
  origin = (omega arith, omega arith);
  med = (omega arith, omega arith);
  has = part_refl row.has;
  lacks = part_refl row.lacks;
  may = part_refl row.may;
  must = part_refl row.must;
}

pub raised_below : (most : ℕ) (row other : Row) → IsBelow row other → most ≤ other.length.high → IsBelow (raised_row most row) other
raised_below most row other l h = record {
  weight = l.weight;
  preference = l.preference;
  origin = l.origin;
  med = l.med;
  has = l.has;
  lacks = l.lacks;
  may = l.may;
  must = l.must;
  length = (let p = l.length in (omega arith, omega arith));
}

max_small : (a b : ℕ) → a < 2 ^ 64 → b < 2 ^ 64 → max a b < 2 ^ 64
max_small a b p q = omega arith

pub raised_is_row : (most : ℕ) (row : Row) → most < 2 ^ 64 → IsRow row → IsRow (raised_row most row)
raised_is_row most row small is = record {
  low = is.low;
  high = (is.high.0, is.high.1, max_small row.length.high most is.high.2 small, is.high.3, is.high.4);
  sets = is.sets;
}
