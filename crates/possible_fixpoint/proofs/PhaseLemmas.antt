-- Phases: what all workers reach, and why phases end.
use Rattle.std.proofs.Common.{ℕ, ◌≡◌, ◌+◌, ◌-◌, ◌*◌, ◌^◌, ◌<◌, ◌≤◌, ◌%◌, ◌⊎◌, inl, inr, false, List, [], ◌∷◌, length, replicate, arith, ap, sym, subst, ◌∙◌, refl, IfOk, Result, Ok, Err}
use Rattle.std.proofs.lemmas.List.{length-replicate, get_or-replicate}
use Rattle.net_types.specs.declared.arcs.Arc.{Arc}
use Rattle.net_types.specs.Arcs.{down_of, up_of}
use Rattle.abstract_route.specs.declared.rows.Row.{Row}
use Rattle.abstract_route.specs.Rows.{IsBelow, bottom, row_at}
use Rattle.abstract_route.proofs.HeightLemmas.{bottom_below, bottom_is_row, joined_is_row}
use Rattle.abstract_route.proofs.RowLemmas.{below_trans, join_left, join_right}
use Rattle.abstract_maps.specs.AbstractMap.{IsShort}
use Rattle.flow_board.specs.Pass.{IsClosed, Pass, both_raises, no_raises}
use Rattle.flow_board.specs.RowLists.{AreBelow as AreBoardBelow}
use Rattle.flow_board.proofs.PassLemmas.{length-both_raises, length-no_raises, row_at-both_raises, row_at-no_raises}
use Rattle.possible_fixpoint.specs.Flow.{Flow}
use Rattle.possible_fixpoint.specs.Marks.{number}
use Rattle.possible_fixpoint.specs.Phases.{AddsNothing, AreLocalMet, AreMet, IsOnTheWay, Phased}
use Rattle.possible_fixpoint.specs.Possible.{AreBelow, AreRows, IsLeast, Solves, possible}
use Rattle.possible_fixpoint.specs.Standing.{Solvable, list_rank}
use Rattle.possible_fixpoint.specs.Working.{AllFed, AllFedIn, Fed, Grown, HasNone, Works}
use Rattle.possible_fixpoint.proofs.BitLemmas.{earlier_arc, number_low}
use Rattle.possible_fixpoint.proofs.LeastLemmas.{least_is_one, possible_is_least}
use Rattle.possible_fixpoint.proofs.NoteLemmas.{clash}
use Rattle.possible_fixpoint.proofs.RowLists.{are_below_trans, list_rank_even, list_rank_small, list_rank_up}
use Rattle.possible_fixpoint.proofs.VisitLemmas.{number_down, number_up}
use Rattle.possible_fixpoint.proofs.WorkLemmas.{fed_up, grown_on}

-- ---- two seats are joined

-- the pass with the raises of both
abbrev pub both : Pass → Pass → Pass
both a b = record { board = a.board; start = a.start; roof = a.roof; own = both_raises a.own b.own }

both_low : (flow : Flow) (a b : Pass) (u : ℕ) → Works flow a → u < length (both_raises a.own b.own) → u < flow.routers
both_low flow a b u wa h = let e = length-both_raises a.own b.own in let f = wa.own_long in omega arith

both_works : (flow : Flow) (a b : Pass) → Works flow a → Works flow b → Works flow (both a b)
both_works flow a b wa wb = record {
  start_long = wa.start_long;
  own_long = length-both_raises a.own b.own ∙ wa.own_long;
  start_rows = wa.start_rows;
  own_rows = record {
    each = λ u h.
        let low = both_low flow a b u wa h in
        rw (row_at-both_raises a.own b.own u (let e = wa.own_long in omega arith))
        (joined_is_row (row_at a.own u) (row_at b.own u) (wa.own_rows.each u (let e = wa.own_long in omega arith)) (wb.own_rows.each u (let e = wb.own_long in omega arith)));
  };
  roof = wa.roof;
}

-- it has worked on from the one
both_left : (flow : Flow) (a b : Pass) → Works flow a → Works flow b → Grown flow a (both a b) false
both_left flow a b wa wb = record {
  works = both_works flow a b wa wb;
  same_board = refl;
  same_start = refl;
  same_roof = refl;
  up = record {
    long = sym (length-both_raises a.own b.own);
    each = λ u h. rw (row_at-both_raises a.own b.own u h) (join_left (row_at a.own u) (row_at b.own u));
  };
  rank = λ f. clash (sym f);
}

-- and from the other
both_right : (flow : Flow) (a b : Pass) → Works flow a → Works flow b → a.board ≡ b.board → a.start ≡ b.start → a.roof ≡ b.roof → Grown flow b (both a b) false
both_right flow a b wa wb board start roof = record {
  works = both_works flow a b wa wb;
  same_board = board;
  same_start = start;
  same_roof = roof;
  up = record {
    long = wb.own_long ∙ sym wa.own_long ∙ sym (length-both_raises a.own b.own);
    each = λ u h. rw (row_at-both_raises a.own b.own u (let e = wa.own_long in let f = wb.own_long in omega arith)) (join_right (row_at a.own u) (row_at b.own u));
  };
  rank = λ f. clash (sym f);
}

pub crew_grown : (flow : Flow) (p one other a b x : Pass) → one ≡ p → other ≡ p → Grown flow one a false → Grown flow other b false → x ≡ both a b → Grown flow p x false
crew_grown flow p one other a b x e f ga gb is =
    subst (λ (r : Pass). Grown flow p r false) (sym is)
    (grown_on flow p a (both a b) false false (subst (λ (w : Pass). Grown flow w a false) e ga) (both_left flow a b ga.works gb.works))

of_either : (r first left right many : ℕ) → first ≤ r → r < first + many → left + right ≡ many → (r < first + left) ⊎ (first + left ≤ r)
of_either r first left right many a b c = grind arith

pub crew_fed : (flow : Flow) (p one other a b x : Pass) (first left right middle many workers : ℕ) → one ≡ p → other ≡ p → Grown flow one a false → Grown flow other b false → x ≡ both a b
    → left + right ≡ many → middle ≡ first + left → AllFedIn flow a first left workers → AllFedIn flow b middle right workers → AllFedIn flow x first many workers
crew_fed flow p one other a b x first left right middle many workers e f ga gb is all mid fa fb =
    subst (λ (r : Pass). AllFedIn flow r first many workers) (sym is)
    (record {
      each = λ u h low high. elim (of_either (u % workers) first left right many low high all) [
        | inl left_one ↦ fed_up flow a (both a b) u false ga.works (both_left flow a b ga.works gb.works) h (fa.each u h low left_one)
        | inr right_one ↦ fed_up flow b (both a b) u false gb.works (both_right flow a b ga.works gb.works board start roof) h (fb.each u h (omega arith) (omega arith))
      ];
    })
  where
    same : one ≡ other
    same = e ∙ sym f

    board : a.board ≡ b.board
    board = ga.same_board ∙ ap (λ (w : Pass). w.board) same ∙ sym gb.same_board

    start : a.start ≡ b.start
    start = ga.same_start ∙ ap (λ (w : Pass). w.start) same ∙ sym gb.same_start

    roof : a.roof ≡ b.roof
    roof = ga.same_roof ∙ ap (λ (w : Pass). w.roof) same ∙ sym gb.same_roof

-- a seat that knows the same
pub part_works : (flow : Flow) (p q : Pass) → q ≡ p → Works flow p → Works flow q
part_works flow p q same works = subst (λ (x : Pass). Works flow x) (sym same) works

pub part_none : (flow : Flow) (p q : Pass) → q ≡ p → HasNone flow p → HasNone flow q
part_none flow p q same none = subst (λ (x : Pass). HasNone flow x) (sym same) none

-- one worker
pub alone_fed : (flow : Flow) (p : Pass) (worker workers k : ℕ) → k ≡ flow.routers → AllFed flow p worker workers k → AllFedIn flow p worker 1 workers
alone_fed flow p worker workers k is fed = record { each = λ u h low high. fed.each u (omega arith) (let a = low in let b = high in omega arith) }

-- ---- a phase

to_board : (xs ys : List Row) → AreBelow xs ys → AreBoardBelow xs ys
to_board xs ys b = record { long = b.long; each = b.each }

from_board : (xs ys : List Row) → AreBoardBelow xs ys → AreBelow xs ys
from_board xs ys b = record { long = b.long; each = b.each }

pub way_under : (flow : Flow) (xs tops : List Row) → IsOnTheWay flow xs → tops ≡ possible flow → AreBoardBelow xs tops
way_under flow xs tops way is = to_board xs tops (rw is way.under)

no_raises_rows : (n : ℕ) → AreRows (no_raises n)
no_raises_rows n = record { each = λ u h. rw (row_at-no_raises n u (let e = length-no_raises n in omega arith)) bottom_is_row }

-- a board's first seat
pub opened_works : (flow : Flow) (rows tops : List Row) (p first : Pass) → IsOnTheWay flow rows → tops ≡ possible flow → p ≡ first → first.start ≡ rows → first.roof ≡ tops
    → first.own ≡ no_raises (length rows) → Works flow p
opened_works flow rows tops p first way is at start roof own = subst (λ (q : Pass). Works flow q) (sym at) (record {
  start_long = ap length start ∙ way.long;
  own_long = ap length own ∙ length-no_raises (length rows) ∙ way.long;
  start_rows = subst AreRows (sym start) way.words;
  own_rows = subst AreRows (sym own) (no_raises_rows (length rows));
  roof = roof ∙ is;
})

pub opened_none : (flow : Flow) (rows : List Row) (p first : Pass) → IsOnTheWay flow rows → p ≡ first → first.own ≡ no_raises (length rows) → HasNone flow p
opened_none flow rows p first way at own = record {
  each = λ u h. ap (λ (q : Pass). row_at q.own u) at ∙ ap (λ (xs : List Row). row_at xs u) own ∙ row_at-no_raises (length rows) u (let e = way.long in omega arith);
}

-- a board is closed
pub closed_phased : (flow : Flow) (rows tops ys : List Row) (p q : Pass) (m workers : ℕ) → Solvable flow → tops ≡ possible flow → 0 < workers → m ≡ flow.routers
    → p.start ≡ rows → p.roof ≡ tops → Grown flow p q false → AllFedIn flow q 0 workers workers → IsClosed q m ys → Phased flow rows ys
closed_phased flow rows tops ys p q m workers solvable is some many at roof grown fed cl = record {
  way = record {
    long = cl.long ∙ many;
    words = record { each = cl.fit.each };
    under = subst (λ (xs : List Row). AreBelow ys xs) (grown.same_roof ∙ roof ∙ is) (from_board ys q.roof cl.under_roof);
  };
  up = subst (λ (xs : List Row). AreBelow xs ys) start (from_board q.start ys cl.above_start);
  local = λ u h. below_trans (flow.source u) (row_at q.own u) (row_at ys u) (each u h).local (above u h);
  learned = λ arc lives.
      let to = solvable.lawful.receiver arc lives in
      below_trans (flow.gives arc (row_at rows (flow.sender arc))) (row_at q.own (flow.receiver arc)) (row_at ys (flow.receiver arc))
      (subst (λ (xs : List Row). IsBelow (flow.gives arc (row_at xs (flow.sender arc))) (row_at q.own (flow.receiver arc))) start ((each (flow.receiver arc) to).learned arc lives refl))
      (above (flow.receiver arc) to);
}
  where
    start : q.start ≡ rows
    start = grown.same_start ∙ at

    part : (u : ℕ) → u % workers < workers
    part u = omega arith

    each : (u : ℕ) → u < flow.routers → Fed flow q u
    each u h = fed.each u h (omega arith) (let p = part u in omega arith)

    above : (u : ℕ) → u < flow.routers → IsBelow (row_at q.own u) (row_at ys u)
    above u h = cl.above_own.each u (let e = grown.works.own_long in omega arith)

compare : (a b : ℕ) → a ≤ b → (b ≤ a) ⊎ (a < b)
compare a b h = grind arith

-- a phase whose rows do not solve the flow has raised a row
pub phases_fall : (flow : Flow) (xs ys : List Row) → IsOnTheWay flow xs → Phased flow xs ys → (Solves flow ys → ⊥)
    → flow.routers * (14 * 2 ^ 64) - list_rank ys < flow.routers * (14 * 2 ^ 64) - list_rank xs
phases_fall flow xs ys way p not = elim (compare (list_rank xs) (list_rank ys) (list_rank_up xs ys p.up)) [
  | inl even ↦ absurd (not (solves (list_rank_even xs ys way.words p.way.words p.up even)))
  | inr less ↦ (let high = small in omega arith)
]
  where
    small : list_rank ys ≤ flow.routers * (14 * 2 ^ 64)
    small = subst (λ (m : ℕ). list_rank ys ≤ m * (14 * 2 ^ 64)) p.way.long (list_rank_small ys p.way.words)

    solves : xs ≡ ys → Solves flow ys
    solves same = record {
      long = p.way.long;
      local = p.local;
      learned = λ arc lives. subst (λ (zs : List Row). IsBelow (flow.gives arc (row_at zs (flow.sender arc))) (row_at ys (flow.receiver arc))) same (p.learned arc lives);
    }

-- rows below the least solution that solve the flow are the least solution
pub way_least : (flow : Flow) (ys : List Row) → Solvable flow → IsOnTheWay flow ys → Solves flow ys → ys ≡ possible flow
way_least flow ys solvable way solves =
    let best = possible_is_least flow solvable.lawful in
    let least : IsLeast flow ys = record {
      words = way.words;
      solves = solves;
      least = λ zs words z. are_below_trans ys (possible flow) zs way.under (best.least zs words z);
    } in least_is_one flow ys (possible flow) least best

bottom_at : (xs : List Row) (n u : ℕ) → xs ≡ replicate n bottom → u < n → row_at xs u ≡ bottom
bottom_at xs n u is h = ap (λ (ys : List Row). row_at ys u) is ∙ get_or-replicate n u bottom bottom h

-- the first rows
pub bottoms_way : (flow : Flow) (xs : List Row) (n : ℕ) → Solvable flow → n ≡ flow.routers → xs ≡ replicate n bottom → IsOnTheWay flow xs
bottoms_way flow xs n solvable many is =
    let best = possible_is_least flow solvable.lawful in
    let long : length xs ≡ n = ap length is ∙ length-replicate n bottom in record {
      long = long ∙ many;
      words = record { each = λ u h. rw (bottom_at xs n u is (omega arith)) bottom_is_row };
      under = record {
        long = long ∙ many ∙ sym best.solves.long;
        each = λ u h. rw (bottom_at xs n u is (omega arith)) (bottom_below (row_at (possible flow) u) (best.words.each u (let e = best.solves.long in omega arith)));
      };
    }

-- where there is no router there is nothing to solve
pub none_least : (flow : Flow) (xs : List Row) (n : ℕ) → Solvable flow → n ≡ flow.routers → xs ≡ replicate n bottom → n ≡ 0 → xs ≡ possible flow
none_least flow xs n solvable many is none =
    let best = possible_is_least flow solvable.lawful in
    go xs (possible flow) (let e : length xs ≡ n = ap length is ∙ length-replicate n bottom in omega arith) (let e = best.solves.long in omega arith) where
      go : (a b : List Row) → length a ≡ 0 → length b ≡ 0 → a ≡ b
      go [] [] e f = refl
      go (x ∷ a) b e f = absurd (omega arith)
      go [] (y ∷ b) e f = absurd (omega arith)

pub under_ok : {A E : Type 0} (r : Result A E) (P Q : A → Type 0) → ((x : A) → P x → Q x) → IfOk r P → IfOk r Q
under_ok (Ok x) P Q f h = f x h
under_ok (Err e) P Q f h = tt

-- ---- the test at the end

pub way_short : (flow : Flow) (rows : List Row) (u : ℕ) → Solvable flow → IsOnTheWay flow rows → u < flow.routers → IsShort (row_at rows u)
way_short flow rows u solvable way h = solvable.short u (row_at rows u) h (way.under.each u (let e = way.long in omega arith))

met_more : (flow : Flow) (xs : List Row) (arc : Arc) (m n : ℕ) → number arc ≡ m → n ≡ m + 1 → AreMet flow xs m → AddsNothing flow xs arc → AreMet flow xs n
met_more flow xs arc m n at next before now x h = elim (earlier_arc x arc (omega arith)) [
  | inl same ↦ subst (λ (y : Arc). AddsNothing flow xs y) (sym same) now
  | inr less ↦ before x (omega arith)
]

pub both_met : (flow : Flow) (xs : List Row) (link : ℕ) (up down : Arc) → up ≡ up_of link → down ≡ down_of link → AddsNothing flow xs up → AddsNothing flow xs down
    → AreMet flow xs (2 * link) → AreMet flow xs (2 * (link + 1))
both_met flow xs link up down is_up is_down first second before =
    let e = number_up up link is_up in let d = number_down down link is_down in
    met_more flow xs down (2 * link + 1) (2 * (link + 1)) d (omega arith) (met_more flow xs up (2 * link) (2 * link + 1) e refl before first) second

pub met_at : (flow : Flow) (xs : List Row) (link : ℕ) (arc : Arc) → arc.link ≡ link → link < flow.links → AreMet flow xs (2 * flow.links) → AddsNothing flow xs arc
met_at flow xs link arc is h all = all arc (number_low arc flow.links (omega arith))

pub met_none : (flow : Flow) (xs : List Row) → AreMet flow xs 0
met_none flow xs arc h = absurd (omega arith)

pub all_solve : (flow : Flow) (xs : List Row) → Solvable flow → IsOnTheWay flow xs → AreLocalMet flow xs flow.routers → AreMet flow xs (2 * flow.links) → Solves flow xs
all_solve flow xs solvable way local met = record {
  long = way.long;
  local = local;
  learned = λ arc lives. met arc (number_low arc flow.links (solvable.lawful.link arc lives)) lives;
}

pub solves_met : (flow : Flow) (xs : List Row) → Solves flow xs → AreMet flow xs (2 * flow.links)
solves_met flow xs s arc h lives = s.learned arc lives

-- ---- the same, in the terms of the code

pub settled : (flow : Flow) (xs ys seen : List Row) → Solvable flow → Phased flow xs ys → seen ≡ ys → Solves flow seen → ys ≡ possible flow
settled flow xs ys seen solvable p same solves = way_least flow ys solvable p.way (subst (λ (zs : List Row). Solves flow zs) same solves)

pub phases_go_on : (flow : Flow) (xs begun ys seen : List Row) → IsOnTheWay flow xs → begun ≡ xs → Phased flow begun ys → seen ≡ ys → (Solves flow seen → ⊥)
    → flow.routers * (14 * 2 ^ 64) - list_rank ys < flow.routers * (14 * 2 ^ 64) - list_rank xs
phases_go_on flow xs begun ys seen way same p here not =
    phases_fall flow xs ys way (subst (λ (zs : List Row). Phased flow zs ys) same p) (λ s. not (subst (λ (zs : List Row). Solves flow zs) (sym here) s))

pub next_way : (flow : Flow) (xs ys : List Row) → Phased flow xs ys → IsOnTheWay flow ys
next_way flow xs ys p = p.way
