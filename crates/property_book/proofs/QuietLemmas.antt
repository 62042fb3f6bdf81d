-- In a network without sessions no label of a stable labelling is learned, and each router holds its local route.
use Rattle.std.proofs.Common.{ℕ, ◌≡◌, ◌<◌, ◌≤◌, ◌⊎◌, inl, inr, ◌&&◌, Bool, true, false, not, List, length, map, Option, Some, None, arith, ap, sym, subst, ◌∙◌, refl}
use Rattle.std.specs.List.{range_with_len}
use Rattle.std.specs.declared.cmp.Ordering.TheVariants.{Equal}
use Rattle.std.specs.Option.{option_map_or}
use Rattle.std.specs.Ordering.{nat_cmp}
use Rattle.std.proofs.lemmas.Bool.{false≢true}
use Rattle.std.proofs.lemmas.Bool.Decides.{nat_tests}
use Rattle.std.proofs.lemmas.List.{get_or_past}
use Rattle.std.proofs.lemmas.List.FromFn.{length-map-range_with_len, get_or-map-range_with_len}
use Rattle.net_types.specs.declared.arcs.Arc.{Arc}
use Rattle.net_types.specs.declared.network.Link.{Link}
use Rattle.net_types.specs.declared.routes.Route.{Route}
use Rattle.net_types.specs.declared.routes.Source.{Source}
use Rattle.net_types.specs.declared.routes.Source.TheVariants.{Local}
use Rattle.net_types.specs.Arcs.{HasNoSession, is_session, is_up, link_of}
use Rattle.net_types.specs.Better.{is_better, med_step, origin_rank, source_rank}
use Rattle.net_types.specs.Distance.{distance_at}
use Rattle.net_types.specs.FailSets.{holds}
use Rattle.net_types.specs.NetFacts.{IsNet}
use Rattle.net_types.specs.NetValue.{NetValue}
use Rattle.net_types.specs.PrefixValue.{PrefixValue}
use Rattle.ospf_paths.proofs.Facts.{all_at}
use Rattle.concrete_algebra.specs.LocalRoutes.{local_of}
use Rattle.concrete_algebra.specs.Problem.{problem_of}
use Rattle.concrete_algebra.specs.Stability.{IsCandidate, IsChoice, comes_over_arc, is_learned, label_at}
use Rattle.concrete_algebra.proofs.RoutingLemmas.{networks_route}
use Rattle.property_book.specs.QuietLaws.{AreLocalRoutes, LocalRoutesAreStable, NothingIsLearned, SomeAreStable}
use Rattle.property_book.proofs.StepLemmas.{came, learned_over}

first_of_both : (p q : Bool) → (p && q) ≡ true → p ≡ true
first_of_both true q e = refl
first_of_both false q e = absurd (false≢true e)

not_up : (net : NetValue) → HasNoSession net → (failed : List ℕ) (arc : Arc) → is_up net failed arc ≡ true → ⊥
not_up net quiet failed arc up = go (link_of net arc) refl (first_of_both (is_session net arc) (not (holds failed arc.link)) up) where
  go : (o : Option Link) → link_of net arc ≡ o → option_map_or (λ (link : Link). link.session) o false ≡ true → ⊥
  go None is e = false≢true e
  go (Some link) is e = false≢true (sym (all_at (λ (l : Link). l.session ≡ false) net.links arc.link link quiet is) ∙ e)

inside_or_not : (u n : ℕ) → (u < n) ⊎ (n ≤ u)
inside_or_not u n = grind arith

pub none_learned : NothingIsLearned
none_learned net prefix failed ds labels valid quiet stable u = go (is_learned (label_at labels u)) refl where
  go : (b : Bool) → is_learned (label_at labels u) ≡ b → is_learned (label_at labels u) ≡ false
  go false e = e
  go true e =
      let l = learned_over (label_at labels u) e in
      elim (inside_or_not u (length net.routers)) [
        | inl low ↦ absurd (not_up net quiet failed l.1 (came net valid prefix failed ds labels u l.0 l.1 stable low l.2 l.3).1.up)
        | inr past ↦ absurd (let f : None ≡ Some l.0 = sym (get_or_past labels u None (let long = stable.long in omega arith)) ∙ l.2 in cc)
      ]

-- ---- each router holds its local route

nat_cmp-same : (n : ℕ) → nat_cmp n n ≡ Equal
nat_cmp-same n = grind (arith, nat_tests)

med_local : (net : NetValue) (s : Source) (m : ℕ) → s ≡ Local → med_step net s s m m ≡ Equal
med_local net s m e = ap (λ (x : Source). med_step net x x m m) e

not_better : (net : NetValue) (route : Route) → route.source ≡ Local → is_better net route route ≡ false
not_better net route local =
    rw (
      nat_cmp-same route.weight,
      nat_cmp-same route.preference,
      nat_cmp-same (source_rank route.source),
      nat_cmp-same (length route.path),
      nat_cmp-same (origin_rank route.origin),
      med_local net route.source route.med local,
    ) refl

holds_local : (net : NetValue) (prefix : PrefixValue) (failed : List ℕ) (ds : List (Option ℕ)) (labels : List (Option Route)) → HasNoSession net → (u : ℕ) → (label local : Option Route) → label_at labels u ≡ label → local_of net prefix u (distance_at ds u) ≡ local → is_learned label ≡ false → IsChoice (problem_of net prefix failed ds) labels u label → label ≡ local
holds_local net prefix failed ds labels quiet u None None held is plain choice = refl
holds_local net prefix failed ds labels quiet u None (Some route) held is plain choice =
    absurd (choice route (inr (record { local = is; may = inr (ap (λ (o : Option Route). is_learned o) held) })))
holds_local net prefix failed ds labels quiet u (Some label) local held is plain choice = elim choice.candidate [
  | inl (arc, sent, a) ↦ absurd (not_up net quiet failed arc a.up)
  | inr c ↦ sym c.local ∙ is
]

only_local : (net : NetValue) → IsNet net → (prefix : PrefixValue) (failed : List ℕ) (ds : List (Option ℕ)) (labels : List (Option Route)) → HasNoSession net → (u : ℕ) → (local : Option Route) → label_at labels u ≡ local → local_of net prefix u (distance_at ds u) ≡ local → IsChoice (problem_of net prefix failed ds) labels u local
only_local net valid prefix failed ds labels quiet u None held is = none where
  none : (route : Route) → IsCandidate (problem_of net prefix failed ds) labels u route → ⊥
  none route (inl (arc, sent, a)) = not_up net quiet failed arc a.up
  none route (inr c) = let e : None ≡ Some route = sym is ∙ c.local in cc
only_local net valid prefix failed ds labels quiet u (Some route) held is = record {
  candidate = inr (record { local = is; may = inr (ap (λ (o : Option Route). is_learned o) held ∙ ap (λ (s : Source). comes_over_arc s) source) });
  best = best;
} where
  source : route.source ≡ Local
  source = ((networks_route net prefix failed ds valid).local u route is).source

  best : (other : Route) → IsCandidate (problem_of net prefix failed ds) labels u other → is_better net other route ≡ false
  best other (inl (arc, sent, a)) = absurd (not_up net quiet failed arc a.up)
  best other (inr c) =
      let same : route ≡ other = (let e : Some route ≡ Some other = sym is ∙ c.local in cc) in
      subst (λ (r : Route). is_better net r route ≡ false) same (not_better net route ((networks_route net prefix failed ds valid).local u route is).source)

pub local_routes_are_stable : LocalRoutesAreStable
local_routes_are_stable net prefix failed ds labels valid quiet = (
  (λ stable. record {
    long = stable.long;
    each = λ u low.
        holds_local net prefix failed ds labels quiet u (label_at labels u) (local_of net prefix u (distance_at ds u)) refl refl
        (none_learned net prefix failed ds labels valid quiet stable u) (stable.each u low);
  }),
  (λ are. record {
    long = are.long;
    each = λ u low.
        subst (λ (o : Option Route). IsChoice (problem_of net prefix failed ds) labels u o) (sym (are.each u low))
        (only_local net valid prefix failed ds labels quiet u (local_of net prefix u (distance_at ds u)) (are.each u low) refl);
  }),
)

pub some_are_stable : SomeAreStable
some_are_stable net prefix failed ds valid quiet = (labels, (local_routes_are_stable net prefix failed ds labels valid quiet).1 are) where
  local : ℕ → Option Route
  local u = local_of net prefix u (distance_at ds u)

  labels : List (Option Route)
  labels = map (λ u. local_of net prefix u (distance_at ds u)) (range_with_len 0 (length net.routers))

  are : AreLocalRoutes net prefix ds labels
  are = record {
    long = length-map-range_with_len (λ u. local_of net prefix u (distance_at ds u)) 0 (length net.routers);
    each = λ u low. get_or-map-range_with_len (λ u. local_of net prefix u (distance_at ds u)) 0 (length net.routers) u u None low (omega arith);
  }
