-- When a labelling is stable. A labelling gives each router a route, its label, or none: the route that it uses and
-- sends on. Stable routing problems have one origin; several origins, and the source of a label, are this project's own.
use Rattle.std.specs.Prelude.{ℕ, ◌≡◌, ◌<◌, ◌⊎◌, Bool, true, false, List, length, Option, Some, None, slice_index_or}
use Rattle.net_types.specs.declared.arcs.Arc.{Arc}
use Rattle.net_types.specs.declared.routes.Route.{Route}
use Rattle.net_types.specs.declared.routes.Source.{Source}
use Rattle.net_types.specs.declared.routes.Source.TheVariants.{Local, Learned}
use Rattle.concrete_algebra.specs.Problem.{Problem}

-- the label of a router
abbrev pub label_at : List (Option Route) → ℕ → Option Route
label_at labels u = slice_index_or labels u None

-- a route of this source is learned
abbrev pub comes_over_arc : Source → Bool
comes_over_arc Local = false
comes_over_arc (Learned arc) = true

-- the label is a learned route
abbrev pub is_learned : Option Route → Bool
is_learned None = false
is_learned (Some route) = comes_over_arc route.source

-- the route comes to router u over the arc, which is up, from a sender whose label is this
pub record Arrives (problem : Problem) (labels : List (Option Route)) (u : ℕ) (arc : Arc) (sent route : Route) : Type 0 where
  pub up : problem.up arc ≡ true
  pub to : problem.receiver arc ≡ u
  pub held : label_at labels (problem.sender arc) ≡ Some sent
  pub carried : problem.carry arc sent ≡ Some route

-- the route is u's local one, and u may take it: an owner always, another router where its label is not learned, as
-- it redistributes OSPF's route only while it uses that
pub record IsLocalCandidate (problem : Problem) (labels : List (Option Route)) (u : ℕ) (route : Route) : Type 0 where
  pub local : problem.local u ≡ Some route
  pub may : (problem.owner u ≡ true) ⊎ (is_learned (label_at labels u) ≡ false)

-- the candidates of router u
abbrev pub IsCandidate : Problem → List (Option Route) → ℕ → Route → Type 0
IsCandidate problem labels u route =
    ((arc : Arc) × (sent : Route) × Arrives problem labels u arc sent route) ⊎ IsLocalCandidate problem labels u route

-- the route is a candidate of u, and no candidate is better
pub record IsBest (problem : Problem) (labels : List (Option Route)) (u : ℕ) (route : Route) : Type 0 where
  pub candidate : IsCandidate problem labels u route
  pub best : (other : Route) → IsCandidate problem labels u other → problem.better other route ≡ false

-- router u may hold this label: none where it has no candidate, else a best candidate
abbrev pub IsChoice : Problem → List (Option Route) → ℕ → Option Route → Type 0
IsChoice problem labels u None = (route : Route) → IsCandidate problem labels u route → ⊥
IsChoice problem labels u (Some route) = IsBest problem labels u route

abbrev pub IsStableAt : Problem → List (Option Route) → ℕ → Type 0
IsStableAt problem labels u = IsChoice problem labels u (label_at labels u)

-- the labelling breaks at router u
abbrev pub Breaks : Problem → List (Option Route) → ℕ → Type 0
Breaks problem labels u = IsStableAt problem labels u → ⊥

-- a stable labelling: one label for each router, and it breaks nowhere
pub record IsStable (problem : Problem) (labels : List (Option Route)) : Type 0 where
  pub long : length labels ≡ problem.routers
  pub each : (u : ℕ) → u < problem.routers → IsStableAt problem labels u

-- router u is the least one where the labelling breaks
pub record BreaksFirst (problem : Problem) (labels : List (Option Route)) (u : ℕ) : Type 0 where
  pub router : u < problem.routers
  pub breaks : Breaks problem labels u
  pub least : (v : ℕ) → v < u → IsStableAt problem labels v
