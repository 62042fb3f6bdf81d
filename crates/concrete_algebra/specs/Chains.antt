-- Where the routes of a labelling come from: chains of senders, down to a router that originates.
use Rattle.std.specs.Prelude.{ℕ, ◌≡◌, ◌<◌, ◌≤◌, ◌*◌, true, List, [], ◌∷◌, length, Option, Some}
use Rattle.net_types.specs.declared.arcs.Arc.{Arc}
use Rattle.net_types.specs.declared.routes.Route.{Route}
use Rattle.net_types.specs.Routes.{is_on}
use Rattle.concrete_algebra.specs.Laws.{IsRouting}
use Rattle.concrete_algebra.specs.Problem.{Problem}
use Rattle.concrete_algebra.specs.Stability.{Arrives, IsStable, label_at}

-- router u holds the route, which is carried over an arc that is up of the one that router v sends
pub record ComesFrom (problem : Problem) (labels : List (Option Route)) (u v : ℕ) (route sent : Route) : Type 0 where
  pub arc : Arc
  pub up : problem.up arc ≡ true
  pub to : problem.receiver arc ≡ u
  pub from : problem.sender arc ≡ v
  pub held : label_at labels u ≡ Some route
  pub carried : problem.carry arc sent ≡ Some route

-- the routers over which u's label came, the nearest first, down to one that originates it
abbrev pub IsChain : Problem → List (Option Route) → List ℕ → ℕ → Route → Type 0
IsChain problem labels [] u route = (label_at labels u ≡ Some route) × (problem.local u ≡ Some route)
IsChain problem labels (v ∷ later) u route = (sent : Route) × ComesFrom problem labels u v route sent × IsChain problem labels later v sent

-- each label of a stable labelling has a chain
abbrev pub LabelsHaveChains : Type 0
LabelsHaveChains =
    (problem : Problem) (labels : List (Option Route)) → IsRouting problem → IsStable problem labels →
    (u : ℕ) (route : Route) → u < problem.routers → label_at labels u ≡ Some route →
    (chain : List ℕ) × IsChain problem labels chain u route

-- the senders of a chain are fewer than the routers: they are distinct, and u is none of them
abbrev pub ChainsAreShort : Type 0
ChainsAreShort =
    (problem : Problem) (labels : List (Option Route)) → IsRouting problem →
    (chain : List ℕ) (u : ℕ) (route : Route) → u < problem.routers → IsChain problem labels chain u route → length chain < problem.routers

-- the routers on the path of a label are those of its chain, and its holder if that prepends
abbrev pub PathsAreChains : Type 0
PathsAreChains =
    (problem : Problem) (labels : List (Option Route)) → IsRouting problem →
    (chain : List ℕ) (u : ℕ) (route : Route) → IsChain problem labels chain u route →
    (x : ℕ) → (is_on x route.path ≡ true → is_on x (u ∷ chain) ≡ true) × (is_on x chain ≡ true → is_on x route.path ≡ true)

-- each router on the path of a label of a stable labelling holds a route
abbrev pub PathsAreHeld : Type 0
PathsAreHeld =
    (problem : Problem) (labels : List (Option Route)) → IsRouting problem → IsStable problem labels →
    (u : ℕ) (route : Route) → u < problem.routers → label_at labels u ≡ Some route →
    (x : ℕ) → is_on x route.path ≡ true → (held : Route) × (label_at labels x ≡ Some held)

-- the path of a label of a stable labelling has at most 21 entries for each router
abbrev pub LabelPathsAreShort : Type 0
LabelPathsAreShort =
    (problem : Problem) (labels : List (Option Route)) → IsRouting problem → IsStable problem labels →
    (u : ℕ) (route : Route) → u < problem.routers → label_at labels u ≡ Some route → length route.path ≤ 21 * problem.routers

-- the path of each candidate that comes over an arc, held or not, has no more
abbrev pub CandidatePathsAreShort : Type 0
CandidatePathsAreShort =
    (problem : Problem) (labels : List (Option Route)) → IsRouting problem → IsStable problem labels →
    (u : ℕ) (arc : Arc) (sent route : Route) → Arrives problem labels u arc sent route → length route.path ≤ 21 * problem.routers
