-- The view of the result of a case tells truly of each stable labelling, so what the result implies holds there.
use Rattle.std.proofs.Common.{ℕ, ◌≡◌, ◌<◌, ◌≤◌, ◌&&◌, ◌⊎◌, inl, inr, Bool, true, false, length, List, Option, Some, None, unwrap_or, cond, nat_lt, arith, ap, sym, subst, ◌∙◌, refl}
use Rattle.std.specs.Prelude.{All, IfNone}
use Rattle.std.specs.Option.{is_some, option_map}
use Rattle.std.specs.List.{position_or_len}
use Rattle.std.proofs.lemmas.Bool.Decides.{nat_tests}
use Rattle.net_types.specs.declared.arcs.Arc.{Arc}
use Rattle.net_types.specs.declared.network.Link.{Link}
use Rattle.net_types.specs.declared.network.Router.{Router}
use Rattle.net_types.specs.Order.{same_text}
use Rattle.net_types.specs.declared.routes.Route.{Route}
use Rattle.net_types.specs.declared.routes.Source.TheVariants.{Local, Learned}
use Rattle.net_types.specs.Arcs.{receiver_of, sender_of, to_end}
use Rattle.net_types.specs.Distance.{AreDistances, distance_at}
use Rattle.net_types.specs.NetFacts.{IsNet}
use Rattle.net_types.specs.NetValue.{NetValue}
use Rattle.net_types.specs.Numbering.{router_number}
use Rattle.net_types.specs.PrefixValue.{PrefixValue}
use Rattle.net_types.specs.Routes.{is_on}
use Rattle.net_types.specs.Sets.{has}
use Rattle.net_types.proofs.TestLemmas.{is_some_of, pair}
use Rattle.ospf_paths.specs.DistanceList.{distance_list}
use Rattle.ospf_paths.proofs.ListLemmas.{distance_list_is}
use Rattle.abstract_route.specs.Fits.{IsIn}
use Rattle.abstract_route.specs.Rows.{IsRow, inhabited, row_at}
use Rattle.abstract_route.proofs.FitLemmas.{fits_inhabited, inhabited_is}
use Rattle.abstract_maps.specs.Transfer.{transfer}
use Rattle.abstract_maps.proofs.ArrivalLemmas.{arrival_fits}
use Rattle.concrete_algebra.specs.LocalRoutes.{local_of}
use Rattle.concrete_algebra.specs.Problem.{problem_of}
use Rattle.concrete_algebra.specs.Stability.{Arrives, IsBest, IsCandidate, IsChoice, IsStable, label_at}
use Rattle.concrete_algebra.proofs.RoutingLemmas.{networks_route, up_link}
use Rattle.possible_fixpoint.specs.Flow.{flow_of}
use Rattle.possible_fixpoint.specs.Held.{AreIn, IsHeldAlive}
use Rattle.possible_fixpoint.specs.Possible.{AreRows}
use Rattle.possible_fixpoint.proofs.FlowLemmas.{flow_is_lawful}
use Rattle.possible_fixpoint.proofs.LeastLemmas.{possible_is_least}
use Rattle.refine_rounds.specs.Results.{CaseValue, CertainHold, Contains, result_of}
use Rattle.refine_rounds.specs.Steps.{last_alive}
use Rattle.refine_rounds.proofs.ResultLemmas.{certain_if, contains_if, possible_rows_short}
use Rattle.abstract_maps.specs.AbstractMap.{IsShort}
use Rattle.property_book.specs.declared.property.Kind.{Kind}
use Rattle.property_book.specs.declared.property.Kind.TheVariants.{Reach, Isolated, Waypoint}
use Rattle.property_book.specs.declared.property.Property.{Property}
use Rattle.property_book.specs.declared.verdict.Broken.{Broken}
use Rattle.property_book.specs.Meaning.{HasKind}
use Rattle.property_book.proofs.StepLemmas.{came}
use Rattle.implication.specs.declared.cases.Case.{Case}
use Rattle.implication.specs.declared.seen.Seen.{Seen}
use Rattle.implication.specs.OnTheWay.{AreNear, IsCase, IsSeen, view_seen}
use Rattle.implication.specs.View.{View, back_over, some_arc, view_of}
use Rattle.implication.specs.Implied.{HoldsWith, IsAnswer, IsImplied, IsKindImplied}
use Rattle.implication.proofs.SetLemmas.{off, some_at}
use Rattle.implication.specs.Laws.{ImpliedHolds}
use Rattle.implication.proofs.ViewLemmas.{back_if, hop_if, inside_of}
use Rattle.implication.proofs.WalkLemmas.{Tells, isolation_holds, reach_holds, waypoint_holds}

-- ---- the rows of a result

pub record HasRows (net : NetValue) (known : CaseValue) : Type 0 where
  pub words : AreRows known.rows
  pub long : length known.rows ≡ length net.routers
  pub short : All IsShort known.rows

result_rows : (net : NetValue) (prefix : PrefixValue) (failed : List ℕ) → IsNet net → HasRows net (result_of net prefix failed)
unfolding result_of
result_rows net prefix failed valid =
    let ds = distance_list net prefix failed in
    let are = distance_list_is net prefix failed valid in
    let alive = last_alive net prefix failed ds in
    let least = possible_is_least (flow_of net prefix failed ds alive) (flow_is_lawful net prefix failed ds alive valid are) in
    record { words = least.words; long = least.solves.long; short = possible_rows_short net prefix failed ds alive valid are }

pub rows_if : (net : NetValue) (prefix : PrefixValue) (failed : List ℕ) (known : CaseValue) → IsNet net → known ≡ result_of net prefix failed → HasRows net known
rows_if net prefix failed known valid is = subst (λ (r : CaseValue). HasRows net r) (sym is) (result_rows net prefix failed valid)

result_distances : (net : NetValue) (prefix : PrefixValue) (failed : List ℕ) → (result_of net prefix failed).distances ≡ distance_list net prefix failed
unfolding result_of
result_distances net prefix failed = refl

pub distances_if : (net : NetValue) (prefix : PrefixValue) (failed : List ℕ) (known : CaseValue) → known ≡ result_of net prefix failed → known.distances ≡ distance_list net prefix failed
distances_if net prefix failed known is = ap (λ (r : CaseValue). r.distances) is ∙ result_distances net prefix failed

-- a case whose result is known
pub is_case : (case : Case) → IsNet case.net.now → case.known.now ≡ result_of case.net.now case.prefix case.failed.now → IsCase case
is_case case valid is = record {
  inside = inside_of case.net.now case.prefix case.failed.now case.known.now valid;
  short = (rows_if case.net.now case.prefix case.failed.now case.known.now valid is).short;
}

-- and what is seen of it
pub is_seen : (seen : Seen) → IsNet seen.net.now → seen.known.now ≡ result_of seen.net.now seen.prefix seen.failed.now →
    AreNear (view_seen seen) seen.nearby.now.hops seen.nearby.now.backs → IsSeen seen
is_seen seen valid is near = record {
  inside = inside_of seen.net.now seen.prefix seen.failed.now seen.known.now valid;
  short = (rows_if seen.net.now seen.prefix seen.failed.now seen.known.now valid is).short;
  near = near;
}

-- ---- labels

-- a local label is the router's own
own_label : (net : NetValue) (prefix : PrefixValue) (failed : List ℕ) (ds : List (Option ℕ)) (labels : List (Option Route)) → IsNet net → IsStable (problem_of net prefix failed ds) labels →
    (u : ℕ) (route : Route) → u < length net.routers → label_at labels u ≡ Some route → route.source ≡ Local → local_of net prefix u (distance_at ds u) ≡ Some route
own_label net prefix failed ds labels valid stable u route low held source =
    let best : IsBest (problem_of net prefix failed ds) labels u route = subst (λ (o : Option Route). IsChoice (problem_of net prefix failed ds) labels u o) held (stable.each u low) in
    go best.candidate where
      go : IsCandidate (problem_of net prefix failed ds) labels u route → local_of net prefix u (distance_at ds u) ≡ Some route
      go (inl (arc, sent, a)) =
          let p = (networks_route net prefix failed ds valid).carried arc sent route a.up a.carried in
          absurd (let e : Local ≡ Learned arc = sym source ∙ p.source in cc)
      go (inr c) = c.local

sender_low : (net : NetValue) (prefix : PrefixValue) (failed : List ℕ) (ds : List (Option ℕ)) (arc : Arc) (v : ℕ) → IsNet net → (problem_of net prefix failed ds).up arc ≡ true → sender_of net arc ≡ Some v → v < length net.routers
sender_low net prefix failed ds arc v valid up from =
    subst (λ (x : ℕ). x < length net.routers) (ap (λ (o : Option ℕ). unwrap_or o 0) from) ((networks_route net prefix failed ds valid).sender arc up)

receiver_there : (net : NetValue) (arc : Arc) (u : ℕ) → (link : Link) × (Rattle.net_types.specs.Arcs.link_of net arc ≡ Some link) → unwrap_or (receiver_of net arc) 0 ≡ u → receiver_of net arc ≡ Some u
receiver_there net arc u (link, is) to =
    let there : receiver_of net arc ≡ Some (to_end arc.down link).router = ap (λ (o : Option Link). option_map (λ (l : Link). (to_end arc.down l).router) o) is in
    there ∙ ap Some (sym (ap (λ (o : Option ℕ). unwrap_or o 0) there) ∙ to)

-- a learned label came by a step back
step_back : (net : NetValue) (prefix : PrefixValue) (failed : List ℕ) (known : CaseValue) (labels : List (Option Route)) → IsNet net → HasRows net known → IsStable (problem_of net prefix failed known.distances) labels →
    AreIn labels known.rows × IsHeldAlive known.alive labels → (u v : ℕ) (route : Route) (arc : Arc) → u < length net.routers → label_at labels u ≡ Some route → route.source ≡ Learned arc → sender_of net arc ≡ Some v →
    (v < length net.routers) × ((view_of net prefix failed known).back u v ≡ true)
step_back net prefix failed known labels valid rows stable holds u v route arc low held over from =
    let c = came net valid prefix failed known.distances labels u route arc stable low held over in
    let at : unwrap_or (sender_of net arc) 0 ≡ v = ap (λ (o : Option ℕ). unwrap_or o 0) from in
    let sends : label_at labels v ≡ Some c.0 = subst (λ (x : ℕ). label_at labels x ≡ Some c.0) at c.1.held in
    let v_low = sender_low net prefix failed known.distances arc v valid c.1.up from in
    let words : IsRow (row_at known.rows v) = rows.words.each v (let l = rows.long in omega arith) in
    let fits = arrival_fits net prefix failed known.distances labels u arc (row_at known.rows v) c.0 route valid words stable c.1 (holds.0.each v c.0 sends) in (
      v_low,
      back_if net prefix failed known u v arc valid (record {
        from = from;
        to = receiver_there net arc u (up_link net failed arc c.1.up) c.1.to;
        up = c.1.up;
        alive = holds.1.learned u route arc held over;
        route = (inhabited_is (transfer net prefix arc (row_at known.rows v))).1 (fits_inhabited route (transfer net prefix arc (row_at known.rows v)) fits);
      }),
    )

none_if : {X : Type 0} (o : Option X) → is_some o ≡ false → o ≡ None
none_if None e = refl
none_if (Some x) e = absurd (cc)

pub tells : (net : NetValue) (prefix : PrefixValue) (failed : List ℕ) (known : CaseValue) (labels : List (Option Route)) → IsNet net → known ≡ result_of net prefix failed →
    IsStable (problem_of net prefix failed known.distances) labels → Tells (view_of net prefix failed known) net prefix failed known.distances labels
tells net prefix failed known labels valid is stable =
    let rows = rows_if net prefix failed known valid is in
    let holds = contains_if net prefix failed known valid is labels stable in
    record {
      valid = valid;
      are = subst (λ (ds : List (Option ℕ)). AreDistances net prefix failed ds) (sym (distances_if net prefix failed known is)) (distance_list_is net prefix failed valid);
      stable = stable;
      count = refl;
      owner = λ u. refl;
      learned = λ u v route arc low held over from.
          let b = step_back net prefix failed known labels valid rows stable holds u v route arc low held over from in
          (some_at (length net.routers) (λ w. some_arc net (back_over net prefix failed known u w)) v b.0 b.1, b.1);
      local = λ u route low held source.
          pair (is_some (local_of net prefix u (distance_at known.distances u))) (has known.alive.locals u)
          (ap is_some (own_label net prefix failed known.distances labels valid stable u route low held source)) (holds.1.local u route held source);
      held = λ u member. certain_if net prefix failed known valid is labels stable u member;
      must = λ u w route member held. (holds.0.each u route held).must w member;
      far = λ u e. is_some_of (distance_at known.distances u) e;
      near = λ u e. none_if (distance_at known.distances u) e;
      hop = λ u v hop. hop_if net prefix failed known u v hop valid;
    }

-- ---- what is implied holds

kind_holds : (net : NetValue) (prefix : PrefixValue) (failed : List ℕ) (known : CaseValue) (labels : List (Option Route)) → Tells (view_of net prefix failed known) net prefix failed known.distances labels →
    (start : ℕ) → start < length net.routers → (kind : Kind) → IsKindImplied net (view_of net prefix failed known) start kind → HasKind net prefix failed known.distances labels start kind
kind_holds net prefix failed known labels told start low Reach implied = reach_holds (view_of net prefix failed known) net prefix failed known.distances labels told start low implied
kind_holds net prefix failed known labels told start low Isolated implied = isolation_holds (view_of net prefix failed known) net prefix failed known.distances labels told start low implied
kind_holds net prefix failed known labels told start low (Waypoint host) implied = λ via is.
    waypoint_holds (view_of net prefix failed known) net prefix failed known.distances labels told via start low (implied via is)

place_low : (k n u : ℕ) (test : Bool) → nat_lt k n ≡ test → cond test (Some k) None ≡ Some u → u < n
place_low k n u true less e = let same : k ≡ u = unwrap k u e in let low : k < n = from_test k n less in omega arith where
  unwrap : (x y : ℕ) → Some x ≡ Some y → x ≡ y
  unwrap x y h = cc

  from_test : (x y : ℕ) → nat_lt x y ≡ true → x < y
  from_test x y h = grind (arith, nat_tests)
place_low k n u false less e = absurd (cc)

router_low : (net : NetValue) (host : List ℕ) (u : ℕ) → router_number net host ≡ Some u → u < length net.routers
router_low net host u e =
    place_low (position_or_len (λ (router : Router). same_text router.host host) net.routers) (length net.routers) u
    (nat_lt (position_or_len (λ (router : Router). same_text router.host host) net.routers) (length net.routers)) refl e

pub implied_holds : (net : NetValue) (property : Property) (failed : List ℕ) (known : CaseValue) → IsNet net → known ≡ result_of net property.prefix failed →
    IsImplied net property failed known → HoldsWith net property failed
implied_holds net property failed known valid is implied = λ start at labels stable.
    let ds = distances_if net property.prefix failed known is in
    let there : IsStable (problem_of net property.prefix failed known.distances) labels = subst (λ (xs : List (Option ℕ)). IsStable (problem_of net property.prefix failed xs) labels) (sym ds) stable in
    subst (λ (xs : List (Option ℕ)). HasKind net property.prefix failed xs labels start property.kind) ds
    (kind_holds net property.prefix failed known labels (tells net property.prefix failed known labels valid is there) start (router_low net property.router start at) property.kind (implied start at))

pub answer_holds : (net : NetValue) (property : Property) (failed : List ℕ) (known : CaseValue) (found : Option Broken) → IsNet net → known ≡ result_of net property.prefix failed →
    IsAnswer net property failed known found → IfNone found (HoldsWith net property failed)
answer_holds net property failed known None valid is answer = implied_holds net property failed known valid is answer
answer_holds net property failed known (Some broken) valid is answer = tt

pub what_is_implied_holds : ImpliedHolds
what_is_implied_holds net property failed valid implied = implied_holds net property failed (result_of net property.prefix failed) valid refl implied
