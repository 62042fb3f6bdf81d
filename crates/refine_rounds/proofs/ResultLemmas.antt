-- What the result of a case says of each stable labelling, and that the rounds end where one drops nothing.
use Rattle.std.proofs.Common.{ℕ, zero, suc, ◌≡◌, ◌<◌, ◌≤◌, ◌+◌, ◌*◌, ◌^◌, ◌⊎◌, inl, inr, true, List, length, All, Option, Some, arith, ap, sym, subst, ◌∙◌}
use Rattle.std.proofs.lemmas.List.Elements.{All-from_get_or}
use Rattle.net_types.specs.declared.routes.Route.{Route}
use Rattle.net_types.specs.Distance.{AreDistances}
use Rattle.net_types.specs.NetFacts.{IsNet}
use Rattle.net_types.specs.NetValue.{NetValue}
use Rattle.net_types.specs.PrefixValue.{PrefixValue}
use Rattle.net_types.specs.Sets.{has}
use Rattle.net_types.specs.Turns.{turns}
use Rattle.net_types.proofs.TurnLemmas.{turns-suc, turns-zero}
use Rattle.ospf_paths.specs.DistanceList.{distance_list}
use Rattle.ospf_paths.proofs.LawLemmas.{distances_are_one}
use Rattle.ospf_paths.proofs.ListLemmas.{distance_list_is}
use Rattle.abstract_route.specs.declared.rows.Row.{Row}
use Rattle.abstract_route.specs.Rows.{bottom, row_at}
use Rattle.abstract_route.proofs.RowLemmas.{below_refl}
use Rattle.abstract_maps.specs.AbstractMap.{IsShort}
use Rattle.concrete_algebra.specs.Stability.{label_at}
use Rattle.possible_fixpoint.specs.declared.alive.Alive.{Alive}
use Rattle.possible_fixpoint.specs.Flow.{flow_of}
use Rattle.possible_fixpoint.specs.Held.{all_alive}
use Rattle.possible_fixpoint.specs.Possible.{possible}
use Rattle.possible_fixpoint.proofs.FlowLemmas.{flow_is_lawful}
use Rattle.possible_fixpoint.proofs.LeastLemmas.{possible_is_least}
use Rattle.possible_fixpoint.proofs.ShortLemmas.{possible_is_short}
use Rattle.certain_fixpoint.specs.CertainSet.{certain_set}
use Rattle.certain_fixpoint.proofs.CertainLemmas.{certain_inside, certain_set_is}
use Rattle.refine_rounds.specs.Idle.{idle_set}
use Rattle.refine_rounds.specs.Rounds.{IsSound, round_of}
use Rattle.refine_rounds.specs.Steps.{alive_after, last_alive, step}
use Rattle.refine_rounds.specs.Results.{CaseValue, CertainHold, Contains, DropsNothingHeld, FirstQuietRoundIsLast, ResultsAreCertain, ResultsContain, ResultsDropNothingHeld, result_at, result_of}
use Rattle.refine_rounds.specs.declared.rounds.Turn.{Turn}
use Rattle.refine_rounds.specs.Turning.{IsReached, IsTurn}
use Rattle.refine_rounds.proofs.RoundLemmas.{certain_routers_hold, rounds_are_sound}
use Rattle.refine_rounds.proofs.StepLemmas.{after_rounds, last_round_drops_nothing, result_is_sound, same_alive, step_falls}

-- ---- what the result says

pub results_contain : ResultsContain
unfolding result_of
results_contain net prefix failed valid labels stable =
    let sound = result_is_sound net prefix failed (distance_list net prefix failed) labels valid (distance_list_is net prefix failed valid) stable in
    (sound.1.holds, sound.0)

pub results_are_certain : ResultsAreCertain
unfolding result_of
results_are_certain net prefix failed valid labels stable u member =
    let sound = result_is_sound net prefix failed (distance_list net prefix failed) labels valid (distance_list_is net prefix failed valid) stable in
    holds (round_of net prefix failed (distance_list net prefix failed) (last_alive net prefix failed (distance_list net prefix failed))) sound.1 member where
      holds : (round : Rattle.certain_fixpoint.specs.Certain.Round) → IsSound round labels → has (certain_set round) u ≡ true → (route : Route) × (label_at labels u ≡ Some route)
      holds round sound member = certain_routers_hold round labels sound u ((certain_set_is round sound.valid u (certain_inside round u member)).0 member)

pub results_drop_nothing_held : ResultsDropNothingHeld
unfolding result_of
results_drop_nothing_held net prefix failed valid labels stable rounds =
    (rounds_are_sound net prefix failed (distance_list net prefix failed) labels valid (distance_list_is net prefix failed valid) stable rounds
    (alive_after net prefix failed (distance_list net prefix failed) rounds) (after_rounds net prefix failed (distance_list net prefix failed) valid rounds)).0

pub contains_if : (net : NetValue) (prefix : PrefixValue) (failed : List ℕ) (found : CaseValue) → IsNet net → found ≡ result_of net prefix failed → Contains net prefix failed found
contains_if net prefix failed found valid e = subst (λ (r : CaseValue). Contains net prefix failed r) (sym e) (results_contain net prefix failed valid)

pub certain_if : (net : NetValue) (prefix : PrefixValue) (failed : List ℕ) (found : CaseValue) → IsNet net → found ≡ result_of net prefix failed → CertainHold net prefix failed found
certain_if net prefix failed found valid e = subst (λ (r : CaseValue). CertainHold net prefix failed r) (sym e) (results_are_certain net prefix failed valid)

pub drops_if : (net : NetValue) (prefix : PrefixValue) (failed : List ℕ) (found : CaseValue) → IsNet net → found ≡ result_of net prefix failed → DropsNothingHeld net prefix failed found
drops_if net prefix failed found valid e = subst (λ (r : CaseValue). DropsNothingHeld net prefix failed r) (sym e) (results_drop_nothing_held net prefix failed valid)

-- ---- the rows are short

pub possible_rows_short : (net : NetValue) (prefix : PrefixValue) (failed : List ℕ) (distances : List (Option ℕ)) (alive : Alive) → IsNet net →
    AreDistances net prefix failed distances → All IsShort (possible (flow_of net prefix failed distances alive))
possible_rows_short net prefix failed distances alive valid are =
    All-from_get_or IsShort (possible (flow_of net prefix failed distances alive)) bottom (λ u low.
    let least = possible_is_least (flow_of net prefix failed distances alive) (flow_is_lawful net prefix failed distances alive valid are) in
    let few : u < length net.routers = subst (λ (n : ℕ). u < n) least.solves.long low in
    possible_is_short net prefix failed distances alive u (row_at (possible (flow_of net prefix failed distances alive)) u) valid few
    (below_refl (row_at (possible (flow_of net prefix failed distances alive)) u)))

pub short_if : (net : NetValue) (prefix : PrefixValue) (failed : List ℕ) (distances : List (Option ℕ)) (alive : Alive) (rows : List Row) → IsNet net →
    AreDistances net prefix failed distances → rows ≡ possible (flow_of net prefix failed distances alive) → All IsShort rows
short_if net prefix failed distances alive rows valid are is = subst (λ (xs : List Row). All IsShort xs) (sym is) (possible_rows_short net prefix failed distances alive valid are)

-- ---- the last round

compare : (a b : ℕ) → (a ≡ b) ⊎ (a < b) ⊎ (b < a)
compare a b = grind arith

stays : {X : Type 0} (f : X → X) (x : X) (k n : ℕ) → k ≤ n → f (turns f k x) ≡ turns f k x → turns f n x ≡ turns f k x
stays f x k zero le settled = ap (λ (m : ℕ). turns f m x) (let e : zero ≡ k = omega arith in e)
stays f x k (suc n) le settled = elim (at_or_past k n le) [
  | inl same ↦ ap (λ (m : ℕ). turns f m x) (sym same)
  | inr less ↦ turns-suc f n x ∙ ap f (stays f x k n less settled) ∙ settled
] where
  at_or_past : (a b : ℕ) → a ≤ suc b → (a ≡ suc b) ⊎ (a ≤ b)
  at_or_past a b h = grind arith

settled_same : {X : Type 0} (f : X → X) (x : X) (a b : ℕ) → f (turns f a x) ≡ turns f a x → f (turns f b x) ≡ turns f b x → turns f a x ≡ turns f b x
settled_same f x a b s t = elim (low_or_high a b) [
  | inl low ↦ sym (stays f x a b low s)
  | inr high ↦ stays f x b a high t
] where
  low_or_high : (a b : ℕ) → (a ≤ b) ⊎ (b ≤ a)
  low_or_high a b = grind arith

pub first_quiet_round_is_last : FirstQuietRoundIsLast
unfolding last_alive
first_quiet_round_is_last net prefix failed distances rounds quiet =
    settled_same (λ alive. step (round_of net prefix failed distances alive) alive) all_alive rounds (3 * 2 ^ 64 + 1) quiet (last_round_drops_nothing net prefix failed distances)

-- ---- the loop

pub reached_first : (net : NetValue) (prefix : PrefixValue) (failed : List ℕ) (distances : List (Option ℕ)) (alive : Alive) (turn : Turn) → alive ≡ all_alive →
    IsTurn net prefix failed distances alive turn → IsReached net prefix failed distances alive turn
reached_first net prefix failed distances alive turn all is = record {
  rounds = 0;
  is = all ∙ sym (turns-zero (λ a. step (round_of net prefix failed distances a) a) all_alive);
  now = is;
}

pub reached_next : (net : NetValue) (prefix : PrefixValue) (failed : List ℕ) (distances : List (Option ℕ)) (alive : Alive) (turn next : Turn) →
    IsReached net prefix failed distances alive turn → IsTurn net prefix failed distances turn.next next → IsReached net prefix failed distances turn.next next
reached_next net prefix failed distances alive turn next r is = record {
  rounds = suc r.rounds;
  is = r.now.next ∙ ap (λ a. step (round_of net prefix failed distances a) a) r.is ∙ sym (turns-suc (λ a. step (round_of net prefix failed distances a) a) r.rounds all_alive);
  now = is;
}

pub reached_last : (net : NetValue) (prefix : PrefixValue) (failed : List ℕ) (distances : List (Option ℕ)) (alive : Alive) (turn : Turn) →
    IsReached net prefix failed distances alive turn → turn.next ≡ alive → alive ≡ last_alive net prefix failed distances
reached_last net prefix failed distances alive turn r quiet =
    r.is ∙ first_quiet_round_is_last net prefix failed distances r.rounds
    (subst (λ (a : Alive). step (round_of net prefix failed distances a) a ≡ a) r.is (sym r.now.next ∙ quiet))

-- how much is alive
abbrev pub amount : Alive → ℕ
amount alive = alive.up + (alive.down + alive.locals)

pub amount_falls : (net : NetValue) (prefix : PrefixValue) (failed : List ℕ) (distances : List (Option ℕ)) (alive : Alive) (turn : Turn) →
    IsReached net prefix failed distances alive turn → (turn.next ≡ alive → ⊥) → amount turn.next < amount alive
amount_falls net prefix failed distances alive turn r differs =
    subst (λ (a : Alive). amount a < amount alive) (sym r.now.next)
    (less (step (round_of net prefix failed distances alive) alive) (step_falls (round_of net prefix failed distances alive) alive) (λ e. differs (r.now.next ∙ e))) where
      less : (next : Alive) → (next.up ≤ alive.up) × (next.down ≤ alive.down) × (next.locals ≤ alive.locals) → (next ≡ alive → ⊥) → amount next < amount alive
      less next low apart = elim (compare (amount next) (amount alive)) [
        | inl same ↦ absurd (apart (same_alive next alive (omega arith) (omega arith) (omega arith)))
        | inr (inl below) ↦ below
        | inr (inr above) ↦ absurd (omega arith)
      ]

-- ---- the whole

pub result_made : (net : NetValue) (prefix : PrefixValue) (failed : List ℕ) (distances : List (Option ℕ)) (alive : Alive) (turn : Turn) (idle : ℕ) → IsNet net →
    AreDistances net prefix failed distances → alive ≡ last_alive net prefix failed distances → IsTurn net prefix failed distances alive turn →
    idle ≡ idle_set (round_of net prefix failed distances all_alive) →
    (record { rows = turn.rows; certain = turn.certain; alive = alive; distances = distances; idle = idle }) ≡ result_of net prefix failed
unfolding result_of
result_made net prefix failed distances alive turn idle valid are last is quiet =
    made turn.rows turn.certain is.rows is.certain ∙
    ap (λ (a : Alive). result_at net prefix failed distances a) last ∙
    ap (λ (ds : List (Option ℕ)). result_at net prefix failed ds (last_alive net prefix failed ds)) (distances_are_one net prefix failed distances (distance_list net prefix failed) are (distance_list_is net prefix failed valid)) where
      made : (rows : List Row) (certain : ℕ) → rows ≡ possible (flow_of net prefix failed distances alive) → certain ≡ certain_set (round_of net prefix failed distances alive) →
          (record { rows = rows; certain = certain; alive = alive; distances = distances; idle = idle }) ≡ result_at net prefix failed distances alive
      made rows certain e f = λ i. record { rows = e i; certain = f i; alive = alive; distances = distances; idle = quiet i }
