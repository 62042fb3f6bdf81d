-- A worker's turns.
use Rattle.std.proofs.Common.{ℕ, ◌≡◌, ◌+◌, ◌-◌, ◌*◌, ◌^◌, ◌<◌, ◌≤◌, ◌%◌, ◌||◌, ◌⊎◌, inl, inr, Bool, true, false, List, length, arith, ap, sym, subst, ◌∙◌, refl}
use Rattle.net_types.specs.Sets.{has}
use Rattle.abstract_route.specs.declared.rows.Row.{Row}
use Rattle.abstract_route.specs.Rows.{IsBelow, IsRow, bottom, joined, row_at}
use Rattle.abstract_route.proofs.HeightLemmas.{bottom_below, bottom_is_row}
use Rattle.abstract_route.proofs.RowLemmas.{below_refl, below_trans, join_right}
use Rattle.flow_board.specs.Pass.{Pass, raised}
use Rattle.possible_fixpoint.specs.declared.notes.Notes.{Notes}
use Rattle.possible_fixpoint.specs.Climbing.{raised_row}
use Rattle.possible_fixpoint.specs.Feeding.{AreLiving, IsGreatestFed}
use Rattle.possible_fixpoint.specs.Flow.{Flow}
use Rattle.possible_fixpoint.specs.Notebook.{Grows, IsBlank, IsKept}
use Rattle.possible_fixpoint.specs.Possible.{possible}
use Rattle.possible_fixpoint.specs.Standing.{Solvable, list_rank}
use Rattle.possible_fixpoint.specs.Working.{AreLong, AreRaised, Fed, Gathers, Grown, HasNone, Stood, Turning, Works}
use Rattle.possible_fixpoint.proofs.BitLemmas.{number_low, number_or}
use Rattle.possible_fixpoint.proofs.ClimbLemmas.{fed_reach, raised_below, raised_is_row}
use Rattle.possible_fixpoint.proofs.FeedLemmas.{fed_by_is_fed}
use Rattle.possible_fixpoint.proofs.LeastLemmas.{possible_is_least}
use Rattle.possible_fixpoint.proofs.NoteLemmas.{blank_kept, clash}
use Rattle.possible_fixpoint.proofs.RaiseLemmas.{at_other, at_same}
use Rattle.possible_fixpoint.proofs.RowLists.{are_below_refl, are_below_trans, list_rank_small, list_rank_up}

-- ---- seats

pub grown_itself : (flow : Flow) (p : Pass) → Works flow p → Grown flow p p false
grown_itself flow p works = record { works = works; same_board = refl; same_start = refl; same_roof = refl; up = are_below_refl p.own; rank = λ f. clash (sym f) }

either : (a b : Bool) → (a || b) ≡ true → (a ≡ true) ⊎ (b ≡ true)
either true b h = inl refl
either false b h = inr h

pub grown_on : (flow : Flow) (p q r : Pass) (a b : Bool) → Grown flow p q a → Grown flow q r b → Grown flow p r (a || b)
grown_on flow p q r a b g h =
    let e = list_rank_up p.own q.own g.up in
    let f = list_rank_up q.own r.own h.up in record {
      works = h.works;
      same_board = h.same_board ∙ g.same_board;
      same_start = h.same_start ∙ g.same_start;
      same_roof = h.same_roof ∙ g.same_roof;
      up = are_below_trans p.own q.own r.own g.up h.up;
      rank = λ t. elim (either a b t) [
        | inl y ↦ (let s = g.rank y in omega arith)
        | inr z ↦ (let s = h.rank z in omega arith)
      ];
    }

-- whether a word has changed need not be told
pub grown_off : (flow : Flow) (p q : Pass) (a : Bool) → Grown flow p q a → Grown flow p q false
grown_off flow p q a g = record { works = g.works; same_board = g.same_board; same_start = g.same_start; same_roof = g.same_roof; up = g.up; rank = λ f. clash (sym f) }

-- ---- one router

still_raised : (flow : Flow) (xs ys : List Row) (p : Pass) → ys ≡ xs → AreRaised flow xs p → AreRaised flow ys p
still_raised flow xs ys p same r = subst (λ (zs : List Row). AreRaised flow zs p) (sym same) r

now_raised : (flow : Flow) (u : ℕ) (xs ys : List Row) (p q : Pass) (grew : Bool) → Works flow p → u < flow.routers → AreRaised flow xs p → Grows u xs ys grew
    → q ≡ raised p u (row_at ys u) → AreRaised flow ys q
now_raised flow u xs ys p q grew works h r grows is = subst (λ (x : Pass). AreRaised flow ys x) (sym is) (record {
  each = λ v l. elim (number_or v u) [
    | inl same ↦ rw (same, at_same p.own u (joined (row_at p.own u) (row_at ys u)) at) (join_right (row_at p.own u) (row_at ys u))
    | inr other ↦ rw (at_other p.own u v (joined (row_at p.own u) (row_at ys u)) other, grows.other v other) (r.each v l)
  ];
}) where
  at : u < length p.own
  at = let e = works.own_long in omega arith

-- what was gathered for a router is raised
gathered_fed : (flow : Flow) (u : ℕ) (start : List Row) (b a : Notes) (p : Pass) (grew : Bool) → Solvable flow → u < flow.routers → start ≡ p.start → AreRaised flow a.rows p
    → IsBelow (flow.source u) (row_at a.rows u) → Gathers flow start u 0 (2 * flow.links) b a grew → Fed flow p u
gathered_fed flow u start b a p grew solvable h same r local g = record {
  local = below_trans (flow.source u) (row_at a.rows u) (row_at p.own u) local (r.each u h);
  learned = λ arc lives to.
      subst (λ (xs : List Row). IsBelow (flow.gives arc (row_at xs (flow.sender arc))) (row_at p.own u)) same
      (below_trans (flow.gives arc (row_at start (flow.sender arc))) (row_at a.rows u) (row_at p.own u)
      (g.fed arc (omega arith) (number_low arc flow.links (solvable.lawful.link arc lives)) lives to) (r.each u h));
}

-- how a worker stands after it served a router
pub record Served (flow : Flow) (u : ℕ) (p q : Pass) (a : Notes) (changed : Bool) : Type 0 where
  pub stood : Stood flow p q a changed
  pub fed : Fed flow q u

pub served_same : (flow : Flow) (u : ℕ) (p s : Pass) (b a : Notes) (grew : Bool) → Solvable flow → u < flow.routers → Works flow p → s ≡ p → AreRaised flow b.rows p
    → IsBelow (flow.source u) (row_at a.rows u) → Gathers flow p.start u 0 (2 * flow.links) b a grew → grew ≡ false → Served flow u p s a false
served_same flow u p s b a grew solvable h works same r local g none =
    let now = still_raised flow b.rows a.rows p (g.grows.same none) r in
    subst (λ (x : Pass). Served flow u p x a false) (sym same) (record {
      stood = record { grown = grown_itself flow p works; kept = g.kept; raised = now };
      fed = gathered_fed flow u p.start b a p grew solvable h refl now local g;
    })

pub served_raised : (flow : Flow) (u : ℕ) (p s q : Pass) (b a : Notes) (grew changed : Bool) → Solvable flow → u < flow.routers → Works flow p → s ≡ p → AreRaised flow b.rows p
    → IsBelow (flow.source u) (row_at a.rows u) → Gathers flow p.start u 0 (2 * flow.links) b a grew → q ≡ raised s u (row_at a.rows u) → Grown flow s q changed → Served flow u p q a changed
served_raised flow u p s q b a grew changed solvable h works same r local g is grown =
    let grown_p : Grown flow p q changed = subst (λ (x : Pass). Grown flow x q changed) same grown in
    let now = now_raised flow u b.rows a.rows p q grew works h r g.grows (is ∙ ap (λ (x : Pass). raised x u (row_at a.rows u)) same) in
    record {
      stood = record { grown = grown_p; kept = g.kept; raised = now };
      fed = gathered_fed flow u p.start b a q grew solvable h (sym grown_p.same_start) now local g;
    }

-- ---- turns

pub stood_still : (flow : Flow) (p s : Pass) (notes : Notes) → Works flow p → s ≡ p → IsKept flow notes → AreRaised flow notes.rows p → Stood flow p s notes false
stood_still flow p s notes works same k r = subst (λ (x : Pass). Stood flow p x notes false) (sym same) (record { grown = grown_itself flow p works; kept = k; raised = r })

pub fed_up : (flow : Flow) (p q : Pass) (u : ℕ) (changed : Bool) → Works flow p → Grown flow p q changed → u < flow.routers → Fed flow p u → Fed flow q u
fed_up flow p q u changed works grown h fed = record {
  local = below_trans (flow.source u) (row_at p.own u) (row_at q.own u) fed.local up;
  learned = λ arc lives to.
      subst (λ (xs : List Row). IsBelow (flow.gives arc (row_at xs (flow.sender arc))) (row_at q.own u)) (sym grown.same_start)
      (below_trans (flow.gives arc (row_at p.start (flow.sender arc))) (row_at p.own u) (row_at q.own u) (fed.learned arc lives to) up);
} where
  up : IsBelow (row_at p.own u) (row_at q.own u)
  up = grown.up.each u (let l = works.own_long in omega arith)

pub turning_begins : (flow : Flow) (worker workers : ℕ) (p : Pass) (notes : Notes) → Works flow p → IsKept flow notes → AreRaised flow notes.rows p
    → Turning flow worker workers 0 p p notes false
turning_begins flow worker workers p notes works k r = record {
  stood = stood_still flow p p notes works refl k r;
  fed = record { each = λ u h mine. absurd (omega arith) };
}

earlier : (u k : ℕ) → u < k + 1 → (u ≡ k) ⊎ (u < k)
earlier u k h = grind arith

pub turning_on : (flow : Flow) (worker workers k : ℕ) (p q r : Pass) (b a : Notes) (f g : Bool) → k < flow.routers → Turning flow worker workers k p q b f
    → Stood flow q r a g → (k % workers ≡ worker → Fed flow r k) → Turning flow worker workers (k + 1) p r a (f || g)
turning_on flow worker workers k p q r b a f g h t s now = record {
  stood = record {
    grown = grown_on flow p q r f g t.stood.grown s.grown;
    kept = s.kept;
    raised = s.raised;
  };
  fed = record {
    each = λ u l mine. elim (earlier u k l) [
      | inl same ↦ subst (λ (x : ℕ). Fed flow r x) (sym same) (now (subst (λ (x : ℕ). x % workers ≡ worker) same mine))
      | inr less ↦ fed_up flow q r u g t.stood.grown.works s.grown (omega arith) (t.fed.each u less mine)
    ];
  };
}

-- two stretches of work
pub stood_on : (flow : Flow) (p q r : Pass) (b a : Notes) (f g : Bool) → Stood flow p q b f → Stood flow q r a g → Stood flow p r a (f || g)
stood_on flow p q r b a f g s t = record {
  grown = grown_on flow p q r f g s.grown t.grown;
  kept = t.kept;
  raised = t.raised;
}

pub stood_off : (flow : Flow) (p q : Pass) (a : Notes) (f : Bool) → Stood flow p q a f → Stood flow p q a false
stood_off flow p q a f s = record { grown = grown_off flow p q f s.grown; kept = s.kept; raised = s.raised }

-- a turn after what was done before
pub work_on : (flow : Flow) (p q r s : Pass) (b m a : Notes) (changed : Bool) → Stood flow p q b false → Stood flow q r m changed → Stood flow r s a false → Stood flow p s a false
work_on flow p q r s b m a changed x y z =
    stood_off flow p s a (changed || false) (stood_on flow p q s b a false (changed || false) x (stood_on flow q r s m a changed false y z))

pub work_ends : (flow : Flow) (p q r : Pass) (b m : Notes) (changed : Bool) → Stood flow p q b false → Stood flow q r m changed → Grown flow p r false
work_ends flow p q r b m changed x y = grown_off flow p r changed (grown_on flow p q r false changed x.grown y.grown)

-- the same work, seen from an equal seat
pub stood_from : (flow : Flow) (p s q : Pass) (a : Notes) (f : Bool) → s ≡ p → Stood flow s q a f → Stood flow p q a f
stood_from flow p s q a f same t = subst (λ (x : Pass). Stood flow x q a f) same t

-- the first notes of a phase
pub begins_raised : (flow : Flow) (p : Pass) (notes : Notes) → Solvable flow → HasNone flow p → IsBlank notes → AreRaised flow notes.rows p
begins_raised flow p notes solvable none blank = record {
  each = λ u h. rw (blank.rows u (let e = solvable.few in omega arith), none.each u h) (below_refl bottom);
}

pub work_begins : (flow : Flow) (p : Pass) (notes : Notes) → Solvable flow → Works flow p → HasNone flow p → IsBlank notes → Stood flow p p notes false
work_begins flow p notes solvable works none blank = stood_still flow p p notes works refl (blank_kept flow notes solvable blank) (begins_raised flow p notes solvable none blank)

-- a turn that changes a word leaves less to rise
pub turns_fall : (flow : Flow) (p q r : Pass) (b a : Notes) (changed : Bool) → changed ≡ true → Stood flow p q b changed → Stood flow q r a false
    → flow.routers * (14 * 2 ^ 64) - list_rank r.own < flow.routers * (14 * 2 ^ 64) - list_rank p.own
turns_fall flow p q r b a changed is s t =
    let less = s.grown.rank is in
    let up = list_rank_up q.own r.own t.grown.up in
    let high : list_rank r.own ≤ flow.routers * (14 * 2 ^ 64) = subst (λ (m : ℕ). list_rank r.own ≤ m * (14 * 2 ^ 64)) t.grown.works.own_long (list_rank_small r.own t.grown.works.own_rows) in
    omega arith

-- ---- lengths

pub gave_living : (flow : Flow) (notes : Notes) → IsKept flow notes → AreLiving flow notes.gave
gave_living flow notes k = record { arc = k.giving.lives }

-- at the routers that feed each other the least solution has paths as long as the cut
pub fed_long : (flow : Flow) (notes : Notes) (set : ℕ) → Solvable flow → IsKept flow notes → IsGreatestFed flow notes.gave set → AreLong flow (21 * flow.routers) set
fed_long flow notes set solvable k g =
    let best = possible_is_least flow solvable.lawful in record {
      each = λ u member. fed_reach flow (21 * flow.routers) (possible flow) (possible flow) (λ v. has set v) solvable.lawful solvable.lengthens best.words best.words
          (are_below_refl (possible flow)) best.solves (fed_by_is_fed flow (possible flow) notes.gave set k.giving g.fed) u member;
    }

pub long_words : (most : ℕ) (row : Row) → most < 2 ^ 64 → row ≡ raised_row most bottom → IsRow row
long_words most row small is = rw is (raised_is_row most bottom small bottom_is_row)

pub long_under : (flow : Flow) (most u : ℕ) (row : Row) → Solvable flow → u < flow.routers → row ≡ raised_row most bottom → most ≤ (row_at (possible flow) u).length.high
    → IsBelow row (row_at (possible flow) u)
long_under flow most u row solvable h is high =
    let best = possible_is_least flow solvable.lawful in
    rw is (raised_below most bottom (row_at (possible flow) u) (bottom_below (row_at (possible flow) u) (best.words.each u (let l = best.solves.long in omega arith))) high)

pub lifted_same : (flow : Flow) (u : ℕ) (p : Pass) (b a : Notes) (grew : Bool) → Works flow p → AreRaised flow b.rows p → IsKept flow a → Grows u b.rows a.rows grew → grew ≡ false
    → Stood flow p p a false
lifted_same flow u p b a grew works r k grows none = stood_still flow p p a works refl k (still_raised flow b.rows a.rows p (grows.same none) r)

pub lifted_raised : (flow : Flow) (u : ℕ) (p q : Pass) (b a : Notes) (grew changed : Bool) → Works flow p → u < flow.routers → AreRaised flow b.rows p → IsKept flow a
    → Grows u b.rows a.rows grew → q ≡ raised p u (row_at a.rows u) → Grown flow p q changed → Stood flow p q a false
lifted_raised flow u p q b a grew changed works h r k grows is grown = record {
  grown = grown_off flow p q changed grown;
  kept = k;
  raised = now_raised flow u b.rows a.rows p q grew works h r grows is;
}

-- nothing was raised
pub looked_raised : (flow : Flow) (p s : Pass) (b a : Notes) → s ≡ p → a.rows ≡ b.rows → AreRaised flow b.rows p → AreRaised flow a.rows s
looked_raised flow p s b a same rows r = subst (λ (x : Pass). AreRaised flow a.rows x) (sym same) (still_raised flow b.rows a.rows p rows r)
