-- What every proof about stable labellings uses of a stable routing problem, and that the problem of each network has
-- it.
use Rattle.std.specs.Prelude.{ℕ, ◌≡◌, ◌≢◌, ◌<◌, ◌≤◌, ◌+◌, ◌++◌, true, false, List, Option, Some, All, replicate}
use Rattle.net_types.specs.declared.arcs.Arc.{Arc}
use Rattle.net_types.specs.declared.network.NetCommunityEntry.{NetCommunityEntry}
use Rattle.net_types.specs.declared.routes.Route.{Route}
use Rattle.net_types.specs.declared.routes.Source.TheVariants.{Local, Learned}
use Rattle.net_types.specs.NetFacts.{IsNet, IsNetCommunityEntry}
use Rattle.net_types.specs.NetValue.{NetValue}
use Rattle.net_types.specs.PrefixValue.{PrefixValue}
use Rattle.net_types.specs.Sets.{has}
use Rattle.net_types.specs.Routes.{is_on}
use Rattle.concrete_algebra.specs.Maps.{deleted_by, is_deleted}
use Rattle.concrete_algebra.specs.Problem.{Problem, problem_of}

-- how an arc changes a route: the receiver stands in front at most 10 times, then the sender as often as its
-- export map says, at most 10 times, and once more, then the path as it was; the receiver was not on it, and is not
-- the sender; and the route comes from the arc
pub record CarriedPath (problem : Problem) (arc : Arc) (sent route : Route) : Type 0 where
  pub mine : ℕ
  pub theirs : ℕ
  pub few_mine : mine ≤ 10
  pub few_theirs : theirs ≤ 10
  pub path : route.path ≡ replicate mine (problem.receiver arc) ++ (replicate (theirs + 1) (problem.sender arc) ++ sent.path)
  pub fresh : is_on (problem.receiver arc) sent.path ≡ false
  pub apart : problem.receiver arc ≢ problem.sender arc
  pub source : route.source ≡ Learned arc

-- a local route of router u: its path is u at most 10 times
pub record LocalPath (u : ℕ) (route : Route) : Type 0 where
  pub mine : ℕ
  pub few : mine ≤ 10
  pub path : route.path ≡ replicate mine u
  pub source : route.source ≡ Local

-- what holds of the problem of every network: it has at most 64 routers and links, the ends of arcs that are up are
-- among them, and routes change as above
pub record IsRouting (problem : Problem) : Type 0 where
  pub few : problem.routers ≤ 64
  pub few_links : problem.links ≤ 64
  pub link : (arc : Arc) → problem.up arc ≡ true → arc.link < problem.links
  pub sender : (arc : Arc) → problem.up arc ≡ true → problem.sender arc < problem.routers
  pub receiver : (arc : Arc) → problem.up arc ≡ true → problem.receiver arc < problem.routers
  pub carried : (arc : Arc) (sent route : Route) → problem.up arc ≡ true → problem.carry arc sent ≡ Some route →
      CarriedPath problem arc sent route
  pub local : (u : ℕ) (route : Route) → problem.local u ≡ Some route → LocalPath u route

-- the problem of each network has it
abbrev pub NetworksRoute : Type 0
NetworksRoute =
    (net : NetValue) (prefix : PrefixValue) (failed : List ℕ) (distances : List (Option ℕ)) → IsNet net →
    IsRouting (problem_of net prefix failed distances)

-- the word of the communities that a list deletes holds those that it deletes, in a network of so many communities
abbrev pub DeletesAreNamed : Type 0
DeletesAreNamed =
    (count : ℕ) (entries : List NetCommunityEntry) (community : ℕ) → All (IsNetCommunityEntry count) entries → community < 64 →
    has (deleted_by entries) community ≡ is_deleted community entries
