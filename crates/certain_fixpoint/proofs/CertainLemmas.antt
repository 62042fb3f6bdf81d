-- The members of the certain set are the certain routers.
use Rattle.std.proofs.Common.{unwrap_or, ℕ, zero, suc, ◌≡◌, ◌<◌, ◌≤◌, ◌^◌, ◌==◌, ◌&&◌, ◌||◌, ◌⊎◌, inl, inr, Bool, true, false, length, Option, Some, arith, ap, sym, subst, ◌∙◌, lit<}
use Rattle.std.specs.Option.{is_some, option_map_or}
use Rattle.std.specs.List.{list_any, range_with_len}
use Rattle.net_types.specs.declared.arcs.Arc.{Arc}
use Rattle.net_types.specs.declared.routes.Route.{Route}
use Rattle.net_types.specs.Arcs.{is_up, receiver_of, sender_of, up_of, down_of}
use Rattle.net_types.specs.NetFacts.{IsNet}
use Rattle.net_types.specs.Sets.{has}
use Rattle.net_types.proofs.SetLemmas.{part_le}
use Rattle.abstract_maps.specs.Transfer.{passes}
use Rattle.concrete_algebra.specs.Laws.{IsRouting}
use Rattle.concrete_algebra.proofs.RoutingLemmas.{networks_route}
use Rattle.net_types.proofs.TestLemmas.{any_at, any_found, both, either, equal_self, is_some_of, left, pair, right, same_number, some_is}
use Rattle.net_types.proofs.TurnLemmas.{turns-zero, turns-suc, settles, set_in, set_past, set_small, has_none}
use Rattle.net_types.specs.Turns.{turns}
use Rattle.abstract_route.specs.Rows.{row_at}
use Rattle.certain_fixpoint.specs.Certain.{IsClosed, Leads, Round, local_at, problem_at}
use Rattle.certain_fixpoint.specs.CertainSet.{CertainSetIs, certain_set, joins, reaches, spread}

pub sender_is : (round : Round) (arc : Arc) (v u : ℕ) → Leads round arc v u → (problem_at round).sender arc ≡ v
sender_is round arc v u l = ap (λ (o : Option ℕ). unwrap_or o 0) l.from

pub receiver_is : (round : Round) (arc : Arc) (v u : ℕ) → Leads round arc v u → (problem_at round).receiver arc ≡ u
receiver_is round arc v u l = ap (λ (o : Option ℕ). unwrap_or o 0) l.to

-- ---- one step

-- router u is reached over an arc
record Reach (round : Round) (set u : ℕ) (arc : Arc) : Type 0 where
  v : ℕ
  leads : Leads round arc v u
  in_set : has set v ≡ true
  passing : passes round.net round.prefix arc (row_at round.rows v) ≡ true

reach_of : (round : Round) (set u : ℕ) (arc : Arc) → reaches round set u arc ≡ true → Reach round set u arc
reach_of round set u arc e =
    let a = both (is_up round.net round.failed arc) (option_map_or (λ w. w == u) (receiver_of round.net arc) false && option_map_or (λ v. has set v && passes round.net round.prefix arc (row_at round.rows v)) (sender_of round.net arc) false) e in
    let b = both (option_map_or (λ w. w == u) (receiver_of round.net arc) false) (option_map_or (λ v. has set v && passes round.net round.prefix arc (row_at round.rows v)) (sender_of round.net arc) false) a.1 in
    let to = some_is (λ w. w == u) (receiver_of round.net arc) b.0 in
    let from = some_is (λ v. has set v && passes round.net round.prefix arc (row_at round.rows v)) (sender_of round.net arc) b.1 in
    let c = both (has set from.0) (passes round.net round.prefix arc (row_at round.rows from.0)) from.2 in
    record {
      v = from.0;
      leads = record { up = a.0; from = from.1; to = to.1 ∙ ap Some (same_number to.0 u to.2) };
      in_set = c.0;
      passing = c.1;
    }

reaches_if : (round : Round) (set u v : ℕ) (arc : Arc) → Leads round arc v u → has set v ≡ true → passes round.net round.prefix arc (row_at round.rows v) ≡ true → reaches round set u arc ≡ true
reaches_if round set u v arc leads member passing =
    pair (is_up round.net round.failed arc) (option_map_or (λ w. w == u) (receiver_of round.net arc) false && option_map_or (λ v. has set v && passes round.net round.prefix arc (row_at round.rows v)) (sender_of round.net arc) false) leads.up
    (pair (option_map_or (λ w. w == u) (receiver_of round.net arc) false) (option_map_or (λ v. has set v && passes round.net round.prefix arc (row_at round.rows v)) (sender_of round.net arc) false)
    (ap (λ (o : Option ℕ). option_map_or (λ w. w == u) o false) leads.to ∙ equal_self u)
    (ap (λ (o : Option ℕ). option_map_or (λ v. has set v && passes round.net round.prefix arc (row_at round.rows v)) o false) leads.from ∙ pair (has set v) (passes round.net round.prefix arc (row_at round.rows v)) member passing))

over_link : (round : Round) (set u link : ℕ) (down : Bool) → reaches round set u (record { link = link; down = down }) ≡ true → (reaches round set u (up_of link) || reaches round set u (down_of link)) ≡ true
over_link round set u link false e = left (reaches round set u (up_of link)) (reaches round set u (down_of link)) e
over_link round set u link true e = right (reaches round set u (up_of link)) (reaches round set u (down_of link)) e

-- whether some link reaches the router
abbrev links_reach : Round → ℕ → ℕ → Bool
links_reach round set u = list_any (λ link. reaches round set u (up_of link) || reaches round set u (down_of link)) (range_with_len 0 (length round.net.links))

joins_kept : (round : Round) (set u : ℕ) → has set u ≡ true → joins round set u ≡ true
joins_kept round set u e = left (has set u) (is_some (local_at round u) || links_reach round set u) e

joins_local : (round : Round) (set u : ℕ) (route : Route) → local_at round u ≡ Some route → joins round set u ≡ true
joins_local round set u route e = right (has set u) (is_some (local_at round u) || links_reach round set u) (left (is_some (local_at round u)) (links_reach round set u) (ap is_some e))

joins_learned : (round : Round) (set u : ℕ) (arc : Arc) → arc.link < length round.net.links → reaches round set u arc ≡ true → joins round set u ≡ true
joins_learned round set u arc low e = right (has set u) (is_some (local_at round u) || links_reach round set u) (right (is_some (local_at round u)) (links_reach round set u)
    (any_at (λ link. reaches round set u (up_of link) || reaches round set u (down_of link)) 0 (length round.net.links) arc.link (omega arith) (omega arith) (over_link round set u arc.link arc.down e)))

spread_in : (round : Round) (set u : ℕ) → u < length round.net.routers → has (spread round set) u ≡ joins round set u
unfolding spread
spread_in round set u low = set_in (joins round set) (length round.net.routers) u low

spread_past : (round : Round) (set u : ℕ) → length round.net.routers ≤ u → has (spread round set) u ≡ false
unfolding spread
spread_past round set u high = set_past (joins round set) (length round.net.routers) u high

spread_small : (round : Round) → IsNet round.net → (set : ℕ) → spread round set < 2 ^ 64
unfolding spread
spread_small round valid set = set_small (joins round set) (length round.net.routers) valid.few_routers

inside_or_past : (u n : ℕ) → (u < n) ⊎ (n ≤ u)
inside_or_past u n = grind arith

spread_inside : (round : Round) (set u : ℕ) → has (spread round set) u ≡ true → u < length round.net.routers
spread_inside round set u e = elim (inside_or_past u (length round.net.routers)) [
  | inl low ↦ low
  | inr high ↦ absurd (let f = spread_past round set u high in cc)
]

-- ---- all steps

abbrev after : Round → ℕ → ℕ
after round k = turns (spread round) k 0

after_inside : (round : Round) (k u : ℕ) → has (after round k) u ≡ true → u < length round.net.routers
after_inside round zero u e = absurd (let f = has_none u in let g = ap (λ s. has s u) (turns-zero (spread round) 0) in cc)
after_inside round (suc k) u e = spread_inside round (after round k) u (sym (ap (λ s. has s u) (turns-suc (spread round) k 0)) ∙ e)

after_small : (round : Round) → IsNet round.net → (k : ℕ) → after round k < 2 ^ 64
after_small round valid zero = rw (turns-zero (spread round) 0) (lit< tt)
after_small round valid (suc k) = rw (turns-suc (spread round) k 0) (spread_small round valid (after round k))

after_rises : (round : Round) (k : ℕ) → after round k ≤ after round (suc k)
after_rises round k = part_le (after round k) (after round (suc k)) (record {
  members = λ x e. ap (λ s. has s x) (turns-suc (spread round) k 0) ∙ spread_in round (after round k) x (after_inside round k x e) ∙ joins_kept round (after round k) x e;
})

settled : (round : Round) → IsNet round.net → spread round (after round (2 ^ 64)) ≡ after round (2 ^ 64)
settled round valid = settles (spread round) (λ s. s) 0 (2 ^ 64) (after_rises round) (λ k same. same) (after_small round valid (2 ^ 64))

-- each member is in every closed set
after_in_closed : (round : Round) (set : ℕ → Bool) → IsClosed round set → (k u : ℕ) → has (after round k) u ≡ true → set u ≡ true
after_in_closed round set closed zero u e = absurd (let f = has_none u in let g = ap (λ s. has s u) (turns-zero (spread round) 0) in cc)
after_in_closed round set closed (suc k) u e =
    let now : has (spread round (after round k)) u ≡ true = sym (ap (λ s. has s u) (turns-suc (spread round) k 0)) ∙ e in
    let low = spread_inside round (after round k) u now in
    elim (either (has (after round k) u) (is_some (local_at round u) || links_reach round (after round k) u) (sym (spread_in round (after round k) u low) ∙ now)) [
      | inl kept ↦ after_in_closed round set closed k u kept
      | inr new ↦ elim (either (is_some (local_at round u)) (links_reach round (after round k) u) new) [
        | inl local ↦ let r = is_some_of (local_at round u) local in closed.local u r.0 low r.1
        | inr reached ↦
            let link = any_found (λ link. reaches round (after round k) u (up_of link) || reaches round (after round k) u (down_of link)) 0 (length round.net.links) reached in
            elim (either (reaches round (after round k) u (up_of link.0)) (reaches round (after round k) u (down_of link.0)) link.1) [
              | inl up ↦ let r = reach_of round (after round k) u (up_of link.0) up in
                  closed.learned (up_of link.0) r.v u r.leads (after_in_closed round set closed k r.v r.in_set) r.passing
              | inr down ↦ let r = reach_of round (after round k) u (down_of link.0) down in
                  closed.learned (down_of link.0) r.v u r.leads (after_in_closed round set closed k r.v r.in_set) r.passing
            ]
      ]
    ]

-- and the members are one
after_is_closed : (round : Round) → IsNet round.net → IsClosed round (λ u. has (after round (2 ^ 64)) u)
after_is_closed round valid = record {
  local = λ u route low local. stays u low (joins_local round (after round (2 ^ 64)) u route local);
  learned = λ arc v u leads member passing.
      let routing : IsRouting (problem_at round) = networks_route round.net round.prefix round.failed round.distances valid in
      let low : u < length round.net.routers = subst (λ (w : ℕ). w < length round.net.routers) (receiver_is round arc v u leads) (routing.receiver arc leads.up) in
      stays u low (joins_learned round (after round (2 ^ 64)) u arc (routing.link arc leads.up) (reaches_if round (after round (2 ^ 64)) u v arc leads member passing));
} where
  stays : (u : ℕ) → u < length round.net.routers → joins round (after round (2 ^ 64)) u ≡ true → has (after round (2 ^ 64)) u ≡ true
  stays u low e = sym (ap (λ s. has s u) (settled round valid)) ∙ spread_in round (after round (2 ^ 64)) u low ∙ e

pub certain_set_is : CertainSetIs
unfolding certain_set
certain_set_is round valid u low = (
  (λ e set closed. after_in_closed round set closed (2 ^ 64) u e),
  (λ certain. certain (λ w. has (after round (2 ^ 64)) w) (after_is_closed round valid)),
)

-- the certain set is a set of routers
pub certain_inside : (round : Round) (u : ℕ) → has (certain_set round) u ≡ true → u < length round.net.routers
unfolding certain_set
certain_inside round u e = after_inside round (2 ^ 64) u e

pub certain_small : (round : Round) → IsNet round.net → certain_set round < 2 ^ 64
unfolding certain_set
certain_small round valid = after_small round valid (2 ^ 64)
