-- What the view of a result says: hops, steps back, and, of each stable labelling, the truth.
use Rattle.std.proofs.Common.{ℕ, ◌≡◌, ◌<◌, ◌≤◌, ◌+◌, ◌&&◌, ◌⊎◌, inl, inr, ◌↔◌, Bool, true, false, length, List, Option, Some, None, unwrap_or, arith, ap, sym, subst, ◌∙◌, refl}
use Rattle.std.specs.Prelude.{All}
use Rattle.std.specs.Option.{is_some}
use Rattle.net_types.specs.declared.arcs.Arc.{Arc}
use Rattle.net_types.specs.declared.routes.Route.{Route}
use Rattle.net_types.specs.declared.routes.Source.TheVariants.{Local, Learned}
use Rattle.net_types.specs.Arcs.{is_up, receiver_of, sender_of}
use Rattle.net_types.specs.Distance.{AreDistances, HasHop, IsHop, distance_at}
use Rattle.net_types.specs.NetFacts.{IsNet}
use Rattle.net_types.specs.NetValue.{NetValue}
use Rattle.net_types.specs.Owners.{owns}
use Rattle.net_types.specs.PrefixValue.{PrefixValue}
use Rattle.net_types.specs.Routes.{is_on}
use Rattle.net_types.specs.Sets.{has}
use Rattle.net_types.proofs.TestLemmas.{both, is_some_of, pair}
use Rattle.ospf_paths.specs.DistanceList.{distance_list}
use Rattle.ospf_paths.proofs.Facts.{crossed}
use Rattle.ospf_paths.proofs.LawLemmas.{tight_arcs_approach}
use Rattle.ospf_paths.proofs.ListLemmas.{distance_list_is}
use Rattle.abstract_route.specs.Rows.{inhabited, row_at}
use Rattle.abstract_maps.specs.AbstractMap.{IsShort}
use Rattle.abstract_maps.specs.Transfer.{transfer}
use Rattle.concrete_algebra.specs.Laws.{IsRouting}
use Rattle.concrete_algebra.specs.LocalRoutes.{local_of}
use Rattle.concrete_algebra.specs.Problem.{problem_of}
use Rattle.concrete_algebra.specs.Stability.{IsStable, label_at}
use Rattle.concrete_algebra.proofs.RoutingLemmas.{networks_route, up_link}
use Rattle.possible_fixpoint.specs.Flow.{is_alive}
use Rattle.refine_rounds.specs.Results.{CaseValue, result_of}
use Rattle.implication.specs.View.{IsInside, View, back_over, goes, hop_over, is_hop, may_bring, some_arc, view_of}
use Rattle.implication.specs.Laws.{Brings, HopsAre, HopsOfCasesFall, LearningIs, StepsBackAre, ViewsAreInside}
use Rattle.implication.proofs.SetLemmas.{some_at, some_from}
use Rattle.implication.proofs.ArcLemmas.{crossed_ends, goes_from, goes_to, hop_arc_from, hop_arc_to, some_arc_at, some_arc_from}

unwrap : (a b : ℕ) → Some a ≡ Some b → a ≡ b
unwrap a b h = cc

-- ---- hops

pub hop_if : (net : NetValue) (prefix : PrefixValue) (failed : List ℕ) (known : CaseValue) (u v : ℕ) → HasHop net prefix failed known.distances u v → IsNet net → (view_of net prefix failed known).hop u v ≡ true
hop_if net prefix failed known u v (arc, hop) valid =
    let ends = crossed_ends net failed arc u v hop.tight.cost hop.tight.crosses in
    some_arc_at net (hop_over net prefix failed known.distances u v) arc (crossed net valid failed arc u v hop.tight.cost hop.tight.crosses).link
    (pair (goes net arc u v) (is_hop net prefix failed known.distances arc) (goes_to net arc u v ends.0 ends.1) (hop_arc_to net prefix failed known.distances arc u v hop))

pub hop_is : (net : NetValue) (prefix : PrefixValue) (failed : List ℕ) (known : CaseValue) (u v : ℕ) → (view_of net prefix failed known).hop u v ≡ true → HasHop net prefix failed known.distances u v
hop_is net prefix failed known u v e =
    let f = some_arc_from net (hop_over net prefix failed known.distances u v) e in
    let b = both (goes net f.0 u v) (is_hop net prefix failed known.distances f.0) f.1 in
    let g = goes_from net f.0 u v b.0 in
    let hop = hop_arc_from net prefix failed known.distances f.0 b.1 in
    let ends = crossed_ends net failed f.0 hop.0 hop.1 hop.2.tight.cost hop.2.tight.crosses in
    let from : hop.0 ≡ u = unwrap hop.0 u (sym ends.0 ∙ g.0) in
    let to : hop.1 ≡ v = unwrap hop.1 v (sym ends.1 ∙ g.1) in
    (f.0, subst (λ (x : ℕ). IsHop net prefix failed known.distances f.0 u x) to (subst (λ (x : ℕ). IsHop net prefix failed known.distances f.0 x hop.1) from hop.2))

-- ---- steps back

pub back_if : (net : NetValue) (prefix : PrefixValue) (failed : List ℕ) (known : CaseValue) (u v : ℕ) (arc : Arc) → IsNet net → Brings net prefix failed known u v arc → (view_of net prefix failed known).back u v ≡ true
unfolding may_bring
back_if net prefix failed known u v arc valid brings =
    let routing : IsRouting (problem_of net prefix failed known.distances) = networks_route net prefix failed known.distances valid in
    some_arc_at net (back_over net prefix failed known u v) arc (routing.link arc brings.up)
    (pair (goes net arc v u) (may_bring net prefix failed known v arc) (goes_to net arc v u brings.from brings.to)
    (pair (is_up net failed arc) (is_alive known.alive arc && inhabited (transfer net prefix arc (row_at known.rows v))) brings.up
    (pair (is_alive known.alive arc) (inhabited (transfer net prefix arc (row_at known.rows v))) brings.alive brings.route)))

pub back_is : (net : NetValue) (prefix : PrefixValue) (failed : List ℕ) (known : CaseValue) (u v : ℕ) → (view_of net prefix failed known).back u v ≡ true → (arc : Arc) × Brings net prefix failed known u v arc
unfolding may_bring
back_is net prefix failed known u v e =
    let f = some_arc_from net (back_over net prefix failed known u v) e in
    let b = both (goes net f.0 v u) (may_bring net prefix failed known v f.0) f.1 in
    let g = goes_from net f.0 v u b.0 in
    let c = both (is_up net failed f.0) (is_alive known.alive f.0 && inhabited (transfer net prefix f.0 (row_at known.rows v))) b.1 in
    let d = both (is_alive known.alive f.0) (inhabited (transfer net prefix f.0 (row_at known.rows v))) c.1 in
    (f.0, record { from = g.0; to = g.1; up = c.0; alive = d.0; route = d.1 })

-- ---- hops and steps back go to routers

pub inside_of : (net : NetValue) (prefix : PrefixValue) (failed : List ℕ) (known : CaseValue) → IsNet net → IsInside (view_of net prefix failed known)
inside_of net prefix failed known valid = record {
  few = valid.few_routers;
  hops = λ u v e. (let hop = hop_is net prefix failed known u v e in (crossed net valid failed hop.0 u v hop.1.tight.cost hop.1.tight.crosses).to);
  backs = λ u v e. (
      let b = back_is net prefix failed known u v e in
      let routing : IsRouting (problem_of net prefix failed known.distances) = networks_route net prefix failed known.distances valid in
      subst (λ (x : ℕ). x < length net.routers) (ap (λ (o : Option ℕ). unwrap_or o 0) b.1.from) (routing.sender b.0 b.1.up));
}

-- ---- the laws

pub hops_are : HopsAre
hops_are net prefix failed known u v valid = ((λ e. hop_is net prefix failed known u v e), (λ hop. hop_if net prefix failed known u v hop valid))

pub steps_back_are : StepsBackAre
steps_back_are net prefix failed known u v valid = ((λ e. back_is net prefix failed known u v e), (λ (arc, brings). back_if net prefix failed known u v arc valid brings))

pub learning_is : LearningIs
learning_is net prefix failed known u valid = (
  (λ e. let f = some_from (length net.routers) (λ v. some_arc net (back_over net prefix failed known u v)) e in let g = back_is net prefix failed known u f.0 f.2 in (f.0, g.0, g.1)),
  (λ (v, arc, brings).
      let back = back_if net prefix failed known u v arc valid brings in
      some_at (length net.routers) (λ w. some_arc net (back_over net prefix failed known u w)) v ((inside_of net prefix failed known valid).backs u v back) back),
)

pub views_are_inside : ViewsAreInside
views_are_inside net prefix failed known valid = inside_of net prefix failed known valid

-- a hop goes to a router that is nearer
pub hops_of_cases_fall : HopsOfCasesFall
hops_of_cases_fall net prefix failed known valid u v e =
    let hop = (hop_is net prefix failed known u v e).1 in
    let near = hop.tight.near in
    let far = hop.tight.far in
    subst (λ (o : Option ℕ). unwrap_or (distance_at known.distances v) 0 < unwrap_or o 0) (sym near)
    (subst (λ (o : Option ℕ). unwrap_or o 0 < hop.tight.cost + hop.tight.distance) (sym far)
    (tight_arcs_approach net failed known.distances (hop_is net prefix failed known u v e).0 u v (hop.tight.cost + hop.tight.distance) hop.tight.distance valid hop.tight near far))
