-- What is true of the labels of every file.
use Rattle.std.specs.Prelude.{ℕ, ◌≡◌, ◌<◌, ◌≤◌, ◌^◌, length, Some, All, slice_get}
use Rattle.net_types.specs.declared.routes.Source.{Source}
use Rattle.net_types.specs.declared.routes.Source.TheVariants.{Local, Learned}
use Rattle.net_types.specs.declared.routes.Route.{Route}
use Rattle.net_types.specs.Arcs.{receiver_of}
use Rattle.net_types.specs.FailSets.{IsFailureSet}
use Rattle.net_types.specs.NetFacts.{IsMask}
use Rattle.net_types.specs.NetValue.{NetValue}
use Rattle.label_file.specs.declared.contents.Labels.{Labels}

-- a source of the router: an arc that goes to it
abbrev pub IsSource : NetValue → ℕ → Source → Type 0
IsSource net router Local = Unit {0}
IsSource net router (Learned arc) = receiver_of net arc ≡ Some router

-- a route that a label of the router holds: its path has at most 1,344 routers of the network, its
-- communities are of the network, and each number fits its type
pub record IsLabel (net : NetValue) (router : ℕ) (route : Route) : Type 0 where
  pub weight : route.weight < 2 ^ 32
  pub preference : route.preference < 2 ^ 32
  pub med : route.med < 2 ^ 32
  pub short : length route.path ≤ 1344
  pub path : All (λ hop. hop < length net.routers) route.path
  pub communities : IsMask (length net.communities) route.communities
  pub source : IsSource net router route.source

-- labels of the network: one for each router, and failed links of the network
pub record AreLabels (net : NetValue) (labels : Labels) : Type 0 where
  pub failed : IsFailureSet labels.failed
  pub links : All (λ link. link < length net.links) labels.failed
  pub whole : length labels.labels ≡ length net.routers
  pub held : (router : ℕ) (route : Route) → slice_get labels.labels router ≡ Some (Some route) → IsLabel net router route
