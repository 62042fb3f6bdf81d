-- What stable labellings hold is possible.
use Rattle.std.proofs.Common.{ℕ, zero, suc, not, ◌≡◌, ◌<◌, Bool, true, false, List, [], ◌∷◌, length, Option, Some, arith, ap, sym, subst, ◌∙◌, refl, if◌then◌else◌}
use Rattle.std.proofs.lemmas.Bool.Decides.{nat_tests}
use Rattle.std.proofs.lemmas.Nat.Bits.{bit_at_ones}
use Rattle.net_types.specs.declared.arcs.Arc.{Arc}
use Rattle.net_types.specs.declared.routes.Route.{Route}
use Rattle.net_types.specs.declared.routes.Source.TheVariants.{Local, Learned}
use Rattle.net_types.specs.Arcs.{is_session, is_up}
use Rattle.net_types.specs.Distance.{distance_at}
use Rattle.net_types.specs.FailSets.{holds}
use Rattle.net_types.specs.NetFacts.{IsNet}
use Rattle.net_types.specs.NetValue.{NetValue}
use Rattle.net_types.specs.PrefixValue.{PrefixValue}
use Rattle.net_types.specs.Routes.{sent_med}
use Rattle.net_types.specs.Sets.{has}
use Rattle.abstract_route.specs.declared.rows.Row.{Row}
use Rattle.abstract_route.specs.Fits.{Fits, IsIn}
use Rattle.abstract_route.specs.Rows.{IsBelow, bottom, row_at}
use Rattle.abstract_route.proofs.FitLemmas.{fits_below}
use Rattle.concrete_algebra.specs.Chains.{IsChain}
use Rattle.concrete_algebra.specs.Problem.{problem_of}
use Rattle.concrete_algebra.specs.Stability.{IsStable, label_at}
use Rattle.concrete_algebra.proofs.RoutingLemmas.{networks_route}
use Rattle.concrete_algebra.proofs.ChainLemmas.{label_paths_are_short, labels_have_chains}
use Rattle.abstract_maps.specs.LocalRow.{local_row}
use Rattle.abstract_maps.specs.Transfer.{gives}
use Rattle.abstract_maps.proofs.ArcLemmas.{gives_sound}
use Rattle.abstract_maps.proofs.LocalLemmas.{local_is_exact}
use Rattle.net_types.proofs.TestLemmas.{first, pair}
use Rattle.possible_fixpoint.proofs.FlowLemmas.{flow_is_lawful}
use Rattle.possible_fixpoint.proofs.LeastLemmas.{possible_is_least}
use Rattle.possible_fixpoint.specs.Flow.{flow_of, is_alive, living_links, living_row}
use Rattle.possible_fixpoint.specs.Held.{IsHeldAlive, all_alive}
use Rattle.possible_fixpoint.specs.Laws.{AllIsHeldAlive, PossibleHoldsLabels, SolutionsHoldLabels}
use Rattle.possible_fixpoint.specs.Possible.{AreRows, Solves, possible}
use Rattle.possible_fixpoint.specs.declared.alive.Alive.{Alive}

-- a local route is sent with its own MED
local_in : (t : Route) (row : Row) → t.source ≡ Local → Fits t row → IsIn t row
local_in t row e f = subst (λ n. Fits (record t { med = n }) row) (sym (ap (λ s. sent_med s t.med) e)) f

chosen_is : (b : Bool) (row : Row) → b ≡ true → (if b then row else bottom) ≡ row
chosen_is true row e = refl
chosen_is false row e = absurd (cc)

-- a label is of a router
pub label_inside : (labels : List (Option Route)) (u : ℕ) (route : Route) → label_at labels u ≡ Some route → u < length labels
label_inside [] u route e = absurd (cc)
label_inside (label ∷ labels) zero route e = omega arith
label_inside (label ∷ labels) (suc u) route e = let f = label_inside labels u route e in omega arith

pub held_in : (net : NetValue) (prefix : PrefixValue) (failed : List ℕ) (distances : List (Option ℕ)) (alive : Alive) (labels : List (Option Route)) (rows : List Row) →
    IsNet net → IsStable (problem_of net prefix failed distances) labels → IsHeldAlive alive labels → AreRows rows →
    Solves (flow_of net prefix failed distances alive) rows →
    (chain : List ℕ) (u : ℕ) (route : Route) → u < length net.routers → IsChain (problem_of net prefix failed distances) labels chain u route →
    IsIn route (row_at rows u)
held_in net prefix failed distances alive labels rows valid stable held words solves [] u route low (label, local) =
    let path = (networks_route net prefix failed distances valid).local u route local in
    let exact = local_is_exact net prefix u (distance_at distances u) route valid low local in
    let is : living_row net prefix distances alive u ≡ local_row net prefix u (distance_at distances u) =
    chosen_is (has alive.locals u) (local_row net prefix u (distance_at distances u)) (held.local u route label path.source) in
    local_in route (row_at rows u) path.source
    (fits_below route (local_row net prefix u (distance_at distances u)) (row_at rows u)
    (subst (λ (r : Row). IsBelow r (row_at rows u)) is (solves.local u low)) exact.fits)
held_in net prefix failed distances alive labels rows valid stable held words solves (v ∷ later) u route low (sent, c, rest) =
    let routing = networks_route net prefix failed distances valid in
    let near : v < length net.routers = subst (λ (w : ℕ). w < length net.routers) c.from (routing.sender c.arc c.up) in
    let before : IsIn sent (row_at rows v) = held_in net prefix failed distances alive labels rows valid stable held words solves later v sent near rest in
    let lives = pair (is_up net failed c.arc) (is_alive alive c.arc) c.up (held.learned u route c.arc c.held (routing.carried c.arc sent route c.up c.carried).source) in
    let short = label_paths_are_short (problem_of net prefix failed distances) labels routing stable u route low c.held in
    let inside : v < length rows = let e = solves.long in omega arith in
    let after : IsIn route (gives net prefix c.arc (row_at rows v)) =
    gives_sound net prefix c.arc (row_at rows v) sent route valid (words.each v inside) (first (is_session net c.arc) (not (holds failed c.arc.link)) c.up) before c.carried short in
    let below : IsBelow (gives net prefix c.arc (row_at rows v)) (row_at rows u) =
    subst (λ (w : ℕ). IsBelow (gives net prefix c.arc (row_at rows v)) (row_at rows w)) c.to
    (subst (λ (w : ℕ). IsBelow (gives net prefix c.arc (row_at rows w)) (row_at rows ((problem_of net prefix failed distances).receiver c.arc))) c.from (solves.learned c.arc lives)) in
    fits_below (record route { med = sent_med route.source route.med }) (gives net prefix c.arc (row_at rows v)) (row_at rows u) below after

pub solutions_hold_labels : SolutionsHoldLabels
solutions_hold_labels net prefix failed distances alive labels rows valid are stable held words solves = record {
  each = λ u route label.
      let low : u < length net.routers = let e = label_inside labels u route label in let f = stable.long in omega arith in
      let c = labels_have_chains (problem_of net prefix failed distances) labels (networks_route net prefix failed distances valid) stable u route low label in
      held_in net prefix failed distances alive labels rows valid stable held words solves c.0 u route low c.1;
}

pub possible_holds_labels : PossibleHoldsLabels
possible_holds_labels net prefix failed distances alive labels valid are stable held =
    let flow = flow_of net prefix failed distances alive in
    let least = possible_is_least flow (flow_is_lawful net prefix failed distances alive valid are) in
    solutions_hold_labels net prefix failed distances alive labels (possible flow) valid are stable held least.words least.solves

-- ---- at first all is alive

has_full : (x : ℕ) → x < 64 → has 18446744073709551615 x ≡ true
has_full x low = let e = bit_at_ones 64 x low in grind (arith, nat_tests)

living_full : (down : Bool) (link : ℕ) → link < 64 → has (living_links down all_alive) link ≡ true
living_full false link low = has_full link low
living_full true link low = has_full link low

-- the arc that a label names is up
held_up : (net : NetValue) (prefix : PrefixValue) (failed : List ℕ) (distances : List (Option ℕ)) (labels : List (Option Route)) → IsNet net →
    (chain : List ℕ) (u : ℕ) (route : Route) (arc : Arc) → IsChain (problem_of net prefix failed distances) labels chain u route →
    route.source ≡ Learned arc → is_up net failed arc ≡ true
held_up net prefix failed distances labels valid [] u route arc (label, local) source =
    absurd (let e = ((networks_route net prefix failed distances valid).local u route local).source in apart arc (sym e ∙ source)) where
      apart : (arc : Arc) → Local ≡ Learned arc → ⊥
      apart arc e = cc
held_up net prefix failed distances labels valid (v ∷ later) u route arc (sent, c, rest) source =
    let e : Learned c.arc ≡ Learned arc = sym ((networks_route net prefix failed distances valid).carried c.arc sent route c.up c.carried).source ∙ source in
    subst (λ (a : Arc). is_up net failed a ≡ true) (same c.arc arc e) c.up where
      same : (a b : Arc) → Learned a ≡ Learned b → a ≡ b
      same a b e = cc

pub all_is_held_alive : AllIsHeldAlive
all_is_held_alive net prefix failed distances labels valid stable = record {
  local = λ u route label source.
      has_full u (let e = label_inside labels u route label in let f = stable.long in let g = valid.few_routers in omega arith);
  learned = λ u route arc label source.
      let low : u < length net.routers = let e = label_inside labels u route label in let f = stable.long in omega arith in
      let c = labels_have_chains (problem_of net prefix failed distances) labels (networks_route net prefix failed distances valid) stable u route low label in
      let up = held_up net prefix failed distances labels valid c.0 u route arc c.1 source in
      living_full arc.down arc.link (let e = (networks_route net prefix failed distances valid).link arc up in let f = valid.few_links in omega arith);
}
