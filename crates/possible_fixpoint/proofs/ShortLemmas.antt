-- No row of the least solution is long.
use Rattle.std.proofs.Common.{ℕ, zero, suc, ◌≡◌, ◌<◌, ◌≤◌, inl, inr, Bool, true, false, List, length, Option, Some, None, arith, ap, ◌∙◌, refl, if◌then◌else◌}
use Rattle.std.proofs.lemmas.List.{length-replicate}
use Rattle.net_types.specs.declared.arcs.Arc.{Arc}
use Rattle.net_types.specs.declared.routes.Route.{Route}
use Rattle.net_types.specs.Distance.{distance_at}
use Rattle.net_types.specs.NetFacts.{IsNet}
use Rattle.net_types.specs.NetValue.{NetValue}
use Rattle.net_types.specs.PrefixValue.{PrefixValue}
use Rattle.net_types.specs.Sets.{has}
use Rattle.abstract_route.specs.declared.rows.Row.{Row}
use Rattle.abstract_route.specs.Rows.{bottom, carried_row, inhabited, joined, row_at}
use Rattle.concrete_algebra.specs.LocalRoutes.{local_of}
use Rattle.concrete_algebra.proofs.RoutingLemmas.{networks_route}
use Rattle.abstract_maps.specs.LocalRow.{exact_or_bottom, local_row}
use Rattle.abstract_maps.specs.Transfer.{transfer}
use Rattle.abstract_maps.proofs.ArcLemmas.{transfer_is_cut}
use Rattle.net_types.proofs.TurnLemmas.{turns-zero, turns-suc}
use Rattle.net_types.specs.Arcs.{up_of, down_of}
use Rattle.net_types.specs.Turns.{turns}
use Rattle.possible_fixpoint.proofs.EquationLemmas.{living, row_at-bottoms, row_at-equations}
use Rattle.possible_fixpoint.specs.Flow.{Flow, flow_of}
use Rattle.possible_fixpoint.specs.Laws.{PossibleIsShort}
use Rattle.possible_fixpoint.specs.Possible.{arriving, arriving_over, bottoms, enough, equations, gathered, possible}
use Rattle.possible_fixpoint.specs.declared.alive.Alive.{Alive}

-- neither sources nor what arcs give is longer
record Caps (flow : Flow) (most : ℕ) : Type 0 where
  source : (u : ℕ) → u < flow.routers → (flow.source u).length.high ≤ most
  gives : (arc : Arc) (row : Row) → (flow.gives arc row).length.high ≤ most

join_capped : (a b : Row) (most : ℕ) → a.length.high ≤ most → b.length.high ≤ most → (joined a b).length.high ≤ most
join_capped a b most p q = omega arith

arriving_capped : (flow : Flow) (most : ℕ) → Caps flow most → (xs : List Row) (u : ℕ) (arc : Arc) → (arriving flow xs u arc).length.high ≤ most
arriving_capped flow most caps xs u arc = elim (living flow xs u arc) [
  | inl (lives, to, is) ↦ rw is (caps.gives arc (row_at xs (flow.sender arc)))
  | inr is ↦ rw is (omega arith)
]

gathered_capped : (flow : Flow) (most : ℕ) → Caps flow most → (xs : List Row) (u k : ℕ) → u < flow.routers → (gathered flow xs u k).length.high ≤ most
unfolding gathered
gathered_capped flow most caps xs u zero low = caps.source u low
gathered_capped flow most caps xs u (suc k) low = join_capped (arriving_over flow xs u k) (gathered flow xs u k) most
    (join_capped (arriving flow xs u (up_of k)) (arriving flow xs u (down_of k)) most (arriving_capped flow most caps xs u (up_of k)) (arriving_capped flow most caps xs u (down_of k)))
    (gathered_capped flow most caps xs u k low)

turns_capped : (flow : Flow) (most : ℕ) → Caps flow most → (k u : ℕ) → u < flow.routers → (row_at (turns (equations flow) k (bottoms flow)) u).length.high ≤ most
turns_capped flow most caps zero u low = rw (turns-zero (equations flow) (bottoms flow), row_at-bottoms flow u low) (omega arith)
turns_capped flow most caps (suc k) u low = rw (turns-suc (equations flow) k (bottoms flow), row_at-equations flow (turns (equations flow) k (bottoms flow)) u low)
    (gathered_capped flow most caps (turns (equations flow) k (bottoms flow)) u flow.links low)

possible_capped : (flow : Flow) (most : ℕ) → Caps flow most → (u : ℕ) → u < flow.routers → (row_at (possible flow) u).length.high ≤ most
unfolding possible
possible_capped flow most caps u low = turns_capped flow most caps (enough flow.routers) u low

chosen_capped : (b : Bool) (row : Row) (most : ℕ) → row.length.high ≤ most → (if b then row else bottom).length.high ≤ most
chosen_capped true row most h = h
chosen_capped false row most h = omega arith

local_capped : (net : NetValue) (prefix : PrefixValue) (failed : List ℕ) (distances : List (Option ℕ)) (u : ℕ) → IsNet net → (local_row net prefix u (distance_at distances u)).length.high ≤ 1344
local_capped net prefix failed distances u valid = go (local_of net prefix u (distance_at distances u)) refl where
  go : (o : Option Route) → local_of net prefix u (distance_at distances u) ≡ o → (exact_or_bottom o).length.high ≤ 1344
  go None e = omega arith
  go (Some route) e =
      let p = (networks_route net prefix failed distances valid).local u route e in
      let f : length route.path ≡ p.mine = ap length p.path ∙ length-replicate p.mine u in let g = p.few in omega arith

flow_caps : (net : NetValue) (prefix : PrefixValue) (failed : List ℕ) (distances : List (Option ℕ)) (alive : Alive) → IsNet net → Caps (flow_of net prefix failed distances alive) 1344
flow_caps net prefix failed distances alive valid = record {
  source = λ u low. chosen_capped (has alive.locals u) (local_row net prefix u (distance_at distances u)) 1344 (local_capped net prefix failed distances u valid);
  gives = λ arc row. chosen_capped (inhabited (transfer net prefix arc row)) (carried_row (transfer net prefix arc row)) 1344
      (let e = transfer_is_cut net prefix arc row valid in let f = valid.few_routers in omega arith);
}

pub possible_is_short : PossibleIsShort
possible_is_short net prefix failed distances alive u row valid low below inhabited_row =
    let e = possible_capped (flow_of net prefix failed distances alive) 1344 (flow_caps net prefix failed distances alive valid) u low in
    let f = below.length in let g = inhabited_row.length in (omega arith, omega arith)
