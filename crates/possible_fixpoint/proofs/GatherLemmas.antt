-- What a worker gathers, arc after arc, and what it raises.
use Rattle.std.proofs.Common.{ℕ, ◌≡◌, ◌+◌, ◌*◌, ◌<◌, ◌≤◌, ◌||◌, ◌⊎◌, inl, inr, Bool, true, false, List, length, arith, ap, sym, subst, ◌∙◌, refl}
use Rattle.std.proofs.lemmas.List.{length-set}
use Rattle.net_types.specs.declared.arcs.Arc.{Arc}
use Rattle.net_types.specs.Arcs.{down_of, up_of}
use Rattle.abstract_route.specs.declared.rows.Row.{Row}
use Rattle.abstract_route.specs.Rows.{IsBelow, IsRow, joined, row_at}
use Rattle.abstract_route.proofs.RowLemmas.{below_trans}
use Rattle.flow_board.specs.Pass.{IsMet, Pass, raised}
use Rattle.possible_fixpoint.specs.declared.notes.Notes.{Notes}
use Rattle.possible_fixpoint.specs.Flow.{Flow}
use Rattle.possible_fixpoint.specs.Marks.{number}
use Rattle.possible_fixpoint.specs.Notebook.{Grows, IsKept}
use Rattle.possible_fixpoint.specs.Possible.{possible}
use Rattle.possible_fixpoint.specs.Standing.{Solvable}
use Rattle.possible_fixpoint.specs.Working.{Gathers, Grown, Works}
use Rattle.possible_fixpoint.proofs.BitLemmas.{earlier_arc}
use Rattle.possible_fixpoint.proofs.NoteLemmas.{grows_none, grows_on}
use Rattle.possible_fixpoint.proofs.RaiseLemmas.{raised_rank, raised_rows, raised_up}
use Rattle.possible_fixpoint.proofs.VisitLemmas.{number_down, number_up}

-- a row that was read is below the least solution
pub read_under : (flow : Flow) (p : Pass) (u : ℕ) (row : Row) → Works flow p → IsMet p u row → IsBelow row (row_at (possible flow) u)
read_under flow p u row works met = subst (λ (xs : List Row). IsBelow row (row_at xs u)) works.roof met.under_roof

-- what an arc gives of the start is below what it gives of a row that was read
start_given : (flow : Flow) (p : Pass) (arc : Arc) (row : Row) → Solvable flow → flow.lives arc ≡ true → Works flow p → IsRow row → IsMet p (flow.sender arc) row
    → IsBelow (flow.gives arc (row_at p.start (flow.sender arc))) (flow.gives arc row)
start_given flow p arc row solvable lives works is met =
    solvable.lawful.grows arc (row_at p.start (flow.sender arc)) row
    (works.start_rows.each (flow.sender arc) (let l = works.start_long in let s = solvable.lawful.sender arc lives in omega arith)) is met.above_start

between_same : (arc x : Arc) → number arc ≤ number x → number x < number arc + 1 → x ≡ arc
between_same arc x low high = elim (earlier_arc x arc high) [
  | inl same ↦ same
  | inr less ↦ absurd (omega arith)
]

-- an arc was asked
pub asked_gathers : (flow : Flow) (p : Pass) (arc : Arc) (from : ℕ) (row : Row) (b a : Notes) (grew : Bool) → Solvable flow → flow.lives arc ≡ true → Works flow p
    → from ≡ flow.sender arc → IsRow row → IsMet p from row → IsKept flow a → Grows (flow.receiver arc) b.rows a.rows grew
    → IsBelow (flow.gives arc row) (row_at a.rows (flow.receiver arc)) → Gathers flow p.start (flow.receiver arc) (number arc) (number arc + 1) b a grew
asked_gathers flow p arc from row b a grew solvable lives works at is met kept grows has = record {
  kept = kept;
  grows = grows;
  fed = λ x low high alive to.
      let same = between_same arc x low high in
      subst (λ (y : Arc). IsBelow (flow.gives y (row_at p.start (flow.sender y))) (row_at a.rows (flow.receiver arc))) (sym same)
      (below_trans (flow.gives arc (row_at p.start (flow.sender arc))) (flow.gives arc row) (row_at a.rows (flow.receiver arc))
      (start_given flow p arc row solvable lives works is (subst (λ (n : ℕ). IsMet p n row) at met)) has);
}

-- an arc that does not live, or goes to another router
pub passed_gathers : (flow : Flow) (start : List Row) (u : ℕ) (arc : Arc) (b : Notes) → IsKept flow b → (flow.lives arc ≡ true → flow.receiver arc ≡ u → ⊥)
    → Gathers flow start u (number arc) (number arc + 1) b b false
passed_gathers flow start u arc b kept none = record {
  kept = kept;
  grows = grows_none u b.rows false;
  fed = λ x low high alive to.
      let same = between_same arc x low high in
      absurd (none (subst (λ (y : Arc). flow.lives y ≡ true) same alive) (subst (λ (y : Arc). flow.receiver y ≡ u) same to));
}

pub gathers_none : (flow : Flow) (start : List Row) (u here : ℕ) (b : Notes) → IsKept flow b → Gathers flow start u here here b b false
gathers_none flow start u here b kept = record {
  kept = kept;
  grows = grows_none u b.rows false;
  fed = λ x low high alive to. absurd (omega arith);
}

before_or : (n here middle next : ℕ) → here ≤ n → n < next → (n < middle) ⊎ (middle ≤ n)
before_or n here middle next low high = grind arith

-- one stretch of arcs after another
pub gathers_on : (flow : Flow) (start : List Row) (u here middle next : ℕ) (a b c : Notes) (f g : Bool) → Gathers flow start u here middle a b f
    → Gathers flow start u middle next b c g → Gathers flow start u here next a c (f || g)
gathers_on flow start u here middle next a b c f g p q = record {
  kept = q.kept;
  grows = grows_on u a.rows b.rows c.rows f g p.grows q.grows;
  fed = λ x low high alive to. elim (before_or (number x) here middle next low high) [
    | inl before ↦ below_trans (flow.gives x (row_at start (flow.sender x))) (row_at b.rows u) (row_at c.rows u) (p.fed x low before alive to) (q.grows.up u)
    | inr after ↦ q.fed x after high alive to
  ];
}

pub gathers_at : (flow : Flow) (start other : List Row) (u here next m n : ℕ) (a b : Notes) (grew : Bool) → other ≡ start → here ≡ m → next ≡ n
    → Gathers flow start u here next a b grew → Gathers flow other u m n a b grew
gathers_at flow start other u here next m n a b grew same e f g = record {
  kept = g.kept;
  grows = g.grows;
  fed = λ x low high alive to.
      subst (λ (xs : List Row). IsBelow (flow.gives x (row_at xs (flow.sender x))) (row_at b.rows u)) (sym same)
      (g.fed x (let i = e in omega arith) (let i = f in omega arith) alive to);
}

-- both arcs of a link
pub both_gather : (flow : Flow) (p q : Pass) (u link : ℕ) (up down : Arc) (a b c : Notes) (f g : Bool) → up ≡ up_of link → down ≡ down_of link → q ≡ p
    → Gathers flow p.start u (number up) (number up + 1) a b f → Gathers flow q.start u (number down) (number down + 1) b c g
    → Gathers flow p.start u (2 * link) (2 * (link + 1)) a c (f || g)
both_gather flow p q u link up down a b c f g is_up is_down same first second =
    let e = number_up up link is_up in let d = number_down down link is_down in
    gathers_on flow p.start u (2 * link) (2 * link + 1) (2 * (link + 1)) a b c f g
    (gathers_at flow p.start p.start u (number up) (number up + 1) (2 * link) (2 * link + 1) a b f refl e (omega arith) first)
    (gathers_at flow q.start p.start u (number down) (number down + 1) (2 * link + 1) (2 * (link + 1)) b c g (ap (λ (r : Pass). r.start) (sym same)) d (omega arith) second)

-- the local row, and all arcs
pub local_then : (flow : Flow) (start : List Row) (u next : ℕ) (a b c : Notes) (f g : Bool) → Grows u a.rows b.rows f → Gathers flow start u 0 next b c g
    → Gathers flow start u 0 next a c (f || g)
local_then flow start u next a b c f g grows gathers = record {
  kept = gathers.kept;
  grows = grows_on u a.rows b.rows c.rows f g grows gathers.grows;
  fed = gathers.fed;
}

-- ---- one raise

offered : (flow : Flow) (p : Pass) (u : ℕ) (row old : Row) (changed : Bool) → Works flow p → u < flow.routers → IsRow row
    → IsMet p u old → (changed ≡ true → IsBelow row old → ⊥) → Grown flow p (raised p u row) changed
offered flow p u row old changed works h is met apart =
    let at : u < length p.own = let e = works.own_long in omega arith in
    record {
      works = record {
        start_long = works.start_long;
        own_long = length-set p.own u (joined (row_at p.own u) row) ∙ works.own_long;
        start_rows = works.start_rows;
        own_rows = raised_rows p.own u row at works.own_rows is;
        roof = works.roof;
      };
      same_board = refl;
      same_start = refl;
      same_roof = refl;
      up = raised_up p.own u row at;
      rank = λ t. raised_rank p.own u row at works.own_rows is (λ b. apart t (below_trans row (row_at p.own u) old b met.above_own));
    }

pub offer_grown : (flow : Flow) (p q : Pass) (u : ℕ) (row old : Row) (changed : Bool) → Works flow p → u < flow.routers → IsRow row
    → IsMet p u old → q ≡ raised p u row → (changed ≡ true → IsBelow row old → ⊥) → Grown flow p q changed
offer_grown flow p q u row old changed works h is met same apart = subst (λ (x : Pass). Grown flow p x changed) (sym same) (offered flow p u row old changed works h is met apart)

-- the same, in the terms of the code: a row of the notes is raised
pub offer_under : (flow : Flow) (p : Pass) (u at : ℕ) (row : Row) (notes : Notes) → Works flow p → IsKept flow notes → u < flow.routers → at ≡ u → row ≡ row_at notes.rows u
    → IsBelow row (row_at p.roof at)
offer_under flow p u at row notes works kept h place is = rw (place, is, works.roof) (kept.under u h)

pub offer_raised : (p q : Pass) (u at : ℕ) (row there : Row) → at ≡ u → row ≡ there → q ≡ raised p at row → q ≡ raised p u there
offer_raised p q u at row there place is made = made ∙ ap (λ (n : ℕ). raised p n row) place ∙ ap (λ (r : Row). raised p u r) is

pub offer_done : (flow : Flow) (p q : Pass) (u at : ℕ) (row old : Row) (notes : Notes) (changed : Bool) → Works flow p → IsKept flow notes → u < flow.routers → at ≡ u → row ≡ row_at notes.rows u
    → IsMet p at old → q ≡ raised p at row → (changed ≡ true → IsBelow row old → ⊥) → Grown flow p q changed
offer_done flow p q u at row old notes changed works kept h place is met made apart =
    offer_grown flow p q u row old changed works h (subst IsRow (sym is) (kept.words u h)) (subst (λ (n : ℕ). IsMet p n old) place met)
    (made ∙ ap (λ (n : ℕ). raised p n row) place) apart
