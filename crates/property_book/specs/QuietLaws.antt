-- What is true of networks without sessions, where OSPF alone decides.
use Rattle.std.specs.Prelude.{ℕ, ◌≡◌, ◌<◌, ◌↔◌, false, List, length, Option}
use Rattle.net_types.specs.declared.routes.Route.{Route}
use Rattle.net_types.specs.Distance.{distance_at}
use Rattle.net_types.specs.NetFacts.{IsNet}
use Rattle.net_types.specs.NetValue.{NetValue}
use Rattle.net_types.specs.PrefixValue.{PrefixValue}
use Rattle.net_types.specs.Arcs.{HasNoSession}
use Rattle.concrete_algebra.specs.LocalRoutes.{local_of}
use Rattle.concrete_algebra.specs.Problem.{problem_of}
use Rattle.concrete_algebra.specs.Stability.{IsStable, is_learned, label_at}

-- the labelling gives each router its local route
pub record AreLocalRoutes (net : NetValue) (prefix : PrefixValue) (distances : List (Option ℕ)) (labels : List (Option Route)) : Type 0 where
  pub long : length labels ≡ length net.routers
  pub each : (u : ℕ) → u < length net.routers → label_at labels u ≡ local_of net prefix u (distance_at distances u)

-- the labelling of local routes is stable, and no other is
abbrev pub LocalRoutesAreStable : Type 0
LocalRoutesAreStable =
    (net : NetValue) (prefix : PrefixValue) (failed : List ℕ) (distances : List (Option ℕ)) (labels : List (Option Route)) →
    IsNet net → HasNoSession net →
    IsStable (problem_of net prefix failed distances) labels ↔ AreLocalRoutes net prefix distances labels

-- so there is one
abbrev pub SomeAreStable : Type 0
SomeAreStable =
    (net : NetValue) (prefix : PrefixValue) (failed : List ℕ) (distances : List (Option ℕ)) → IsNet net → HasNoSession net →
    (labels : List (Option Route)) × IsStable (problem_of net prefix failed distances) labels

-- and no label of it is learned
abbrev pub NothingIsLearned : Type 0
NothingIsLearned =
    (net : NetValue) (prefix : PrefixValue) (failed : List ℕ) (distances : List (Option ℕ)) (labels : List (Option Route)) →
    IsNet net → HasNoSession net →
    IsStable (problem_of net prefix failed distances) labels → (u : ℕ) → is_learned (label_at labels u) ≡ false
