-- What is true of forwarding, and of what a property means there: at every prefix, failure set, distances and
-- labelling of every network, valid or stable where a law asks for it.
use Rattle.std.specs.Prelude.{ℕ, ◌≡◌, ◌≢◌, ◌<◌, ◌≤◌, ◌*◌, ◌↔◌, ◌⊎◌, ◌++◌, true, false, List, [], ◌∷◌, length, Option, Some}
use Rattle.net_types.specs.declared.arcs.Arc.{Arc}
use Rattle.net_types.specs.declared.routes.Route.{Route}
use Rattle.net_types.specs.declared.routes.Source.TheVariants.{Learned}
use Rattle.net_types.specs.Arcs.{is_up, receiver_of, sender_of}
use Rattle.net_types.specs.Distance.{AreDistances, HasHop, IsNextHop, distance_at}
use Rattle.net_types.specs.NetFacts.{IsNet}
use Rattle.net_types.specs.NetValue.{NetValue}
use Rattle.net_types.specs.Owners.{owns}
use Rattle.net_types.specs.PrefixValue.{PrefixValue}
use Rattle.net_types.specs.Routes.{is_on}
use Rattle.concrete_algebra.specs.Problem.{problem_of}
use Rattle.concrete_algebra.specs.Stability.{IsStable, is_learned, label_at}
use Rattle.property_book.specs.declared.property.Property.{Property}
use Rattle.property_book.specs.Forwarding.{Forwards, GoesThrough, IsForwardWalk, IsIsolated, Reaches, last_of}
use Rattle.property_book.specs.Meaning.{Holds}

-- ---- where traffic goes

-- an owner delivers: it forwards to nobody
abbrev pub OwnersDeliver : Type 0
OwnersDeliver =
    (net : NetValue) (prefix : PrefixValue) (failed : List ℕ) (distances : List (Option ℕ)) (labels : List (Option Route)) (u v : ℕ) →
    owns net u prefix ≡ true → Forwards net prefix failed distances labels u v → ⊥

-- another router with a learned label forwards exactly to the sender of its arc
abbrev pub LearnedGoToSenders : Type 0
LearnedGoToSenders =
    (net : NetValue) (prefix : PrefixValue) (failed : List ℕ) (distances : List (Option ℕ)) (labels : List (Option Route))
    (u v : ℕ) (route : Route) (arc : Arc) →
    owns net u prefix ≡ false → label_at labels u ≡ Some route → route.source ≡ Learned arc →
    Forwards net prefix failed distances labels u v ↔ (sender_of net arc ≡ Some v)

-- and so to one router at most
abbrev pub LearnedGoOneWay : Type 0
LearnedGoOneWay =
    (net : NetValue) (prefix : PrefixValue) (failed : List ℕ) (distances : List (Option ℕ)) (labels : List (Option Route)) (u v w : ℕ) →
    is_learned (label_at labels u) ≡ true →
    Forwards net prefix failed distances labels u v → Forwards net prefix failed distances labels u w → v ≡ w

-- router u holds a route that came over an arc from router v, another one: the arc is up, v is on the route's path, and
-- holds a route itself, with a shorter path
pub record CameFrom (net : NetValue) (failed : List ℕ) (labels : List (Option Route)) (u v : ℕ) : Type 0 where
  pub route : Route
  pub held : label_at labels u ≡ Some route
  pub arc : Arc
  pub over : route.source ≡ Learned arc
  pub up : is_up net failed arc ≡ true
  pub to : receiver_of net arc ≡ Some u
  pub from : sender_of net arc ≡ Some v
  pub other : v ≢ u
  pub on_path : is_on v route.path ≡ true
  pub sent : Route
  pub sends : label_at labels v ≡ Some sent
  pub shorter : length sent.path < length route.path

-- at a stable labelling a router with a learned label, that is no owner, forwards, and whoever it forwards to is where
-- its route came from
abbrev pub LearnedGoBack : Type 0
LearnedGoBack =
    (net : NetValue) (prefix : PrefixValue) (failed : List ℕ) (distances : List (Option ℕ)) (labels : List (Option Route)) (u : ℕ) → IsNet net →
    IsStable (problem_of net prefix failed distances) labels → u < length net.routers → owns net u prefix ≡ false →
    is_learned (label_at labels u) ≡ true →
    ((v : ℕ) × Forwards net prefix failed distances labels u v) ×
    ((v : ℕ) → Forwards net prefix failed distances labels u v → CameFrom net failed labels u v)

-- a router without a learned label forwards exactly to the next hops of OSPF
abbrev pub OthersGoByHops : Type 0
OthersGoByHops =
    (net : NetValue) (prefix : PrefixValue) (failed : List ℕ) (distances : List (Option ℕ)) (labels : List (Option Route)) (u v : ℕ) →
    is_learned (label_at labels u) ≡ false →
    Forwards net prefix failed distances labels u v ↔ HasHop net prefix failed distances u v

-- and so along arcs to next hops, where a learned label goes back along its arc
abbrev pub HopsGoAlongArcs : Type 0
HopsGoAlongArcs =
    (net : NetValue) (prefix : PrefixValue) (failed : List ℕ) (distances : List (Option ℕ)) (labels : List (Option Route)) (u v : ℕ) →
    is_learned (label_at labels u) ≡ false →
    Forwards net prefix failed distances labels u v ↔
    ((arc : Arc) × IsNextHop net prefix failed distances arc × (sender_of net arc ≡ Some u) × (receiver_of net arc ≡ Some v))

-- ---- walks

-- a walk from an owner has no step
abbrev pub OwnersEndWalks : Type 0
OwnersEndWalks =
    (net : NetValue) (prefix : PrefixValue) (failed : List ℕ) (distances : List (Option ℕ)) (labels : List (Option Route)) (u : ℕ) (walk : List ℕ) →
    owns net u prefix ≡ true → IsForwardWalk net prefix failed distances labels u walk → walk ≡ []

-- a walk with one step more is a walk whose last router forwards to the next, and this is then the last
abbrev pub WalksGoOn : Type 0
WalksGoOn =
    (net : NetValue) (prefix : PrefixValue) (failed : List ℕ) (distances : List (Option ℕ)) (labels : List (Option Route)) (u v : ℕ) (walk : List ℕ) →
    (IsForwardWalk net prefix failed distances labels u (walk ++ v ∷ []) ↔
    (IsForwardWalk net prefix failed distances labels u walk × Forwards net prefix failed distances labels (last_of u walk) v)) ×
    (last_of u (walk ++ v ∷ []) ≡ v)

-- ---- reach

-- an owner reaches
abbrev pub OwnersReach : Type 0
OwnersReach =
    (net : NetValue) (prefix : PrefixValue) (failed : List ℕ) (distances : List (Option ℕ)) (labels : List (Option Route)) (u : ℕ) →
    owns net u prefix ≡ true → Reaches net prefix failed distances labels u

-- another router reaches exactly where it forwards to somebody, and each router to which it forwards reaches
abbrev pub ReachGoesOn : Type 0
ReachGoesOn =
    (net : NetValue) (prefix : PrefixValue) (failed : List ℕ) (distances : List (Option ℕ)) (labels : List (Option Route)) (u : ℕ) → IsNet net →
    owns net u prefix ≡ false →
    Reaches net prefix failed distances labels u ↔
    (((v : ℕ) × Forwards net prefix failed distances labels u v) ×
    ((v : ℕ) → Forwards net prefix failed distances labels u v → Reaches net prefix failed distances labels v))

-- some walk of a router that reaches ends at an owner, after 2 n steps at most
abbrev pub ReachEndsAtOwners : Type 0
ReachEndsAtOwners =
    (net : NetValue) (prefix : PrefixValue) (failed : List ℕ) (distances : List (Option ℕ)) (labels : List (Option Route)) (u : ℕ) →
    Reaches net prefix failed distances labels u →
    (walk : List ℕ) × IsForwardWalk net prefix failed distances labels u walk × (owns net (last_of u walk) prefix ≡ true) ×
    (length walk ≤ 2 * length net.routers)

-- traffic from u is stuck nowhere: each walk is at an owner or goes on
abbrev pub IsNowhereStuck : NetValue → PrefixValue → List ℕ → List (Option ℕ) → List (Option Route) → ℕ → Type 0
IsNowhereStuck net prefix failed distances labels u =
    (walk : List ℕ) → IsForwardWalk net prefix failed distances labels u walk → owns net (last_of u walk) prefix ≡ false →
    (v : ℕ) × Forwards net prefix failed distances labels (last_of u walk) v

-- traffic from u never goes round: no steps lead from a router where it comes back to this router
abbrev pub HasNoLoop : NetValue → PrefixValue → List ℕ → List (Option ℕ) → List (Option Route) → ℕ → Type 0
HasNoLoop net prefix failed distances labels u =
    (walk loop : List ℕ) → IsForwardWalk net prefix failed distances labels u walk →
    IsForwardWalk net prefix failed distances labels (last_of u walk) loop → last_of (last_of u walk) loop ≡ last_of u walk → loop ≡ []

-- a router reaches exactly where its traffic is stuck nowhere and never goes round: 2 n steps are enough, and no loop
-- keeps within them
abbrev pub ReachIsNoLoop : Type 0
ReachIsNoLoop =
    (net : NetValue) (prefix : PrefixValue) (failed : List ℕ) (distances : List (Option ℕ)) (labels : List (Option Route)) (u : ℕ) → IsNet net →
    Reaches net prefix failed distances labels u ↔
    (IsNowhereStuck net prefix failed distances labels u × HasNoLoop net prefix failed distances labels u)

-- without learned labels, whatever links have failed, exactly the owners and the routers with a distance reach
abbrev pub ReachByOspf : Type 0
ReachByOspf =
    (net : NetValue) (prefix : PrefixValue) (failed : List ℕ) (distances : List (Option ℕ)) (labels : List (Option Route)) (u : ℕ) → IsNet net →
    AreDistances net prefix failed distances → ((x : ℕ) → is_learned (label_at labels x) ≡ false) →
    Reaches net prefix failed distances labels u ↔
    ((owns net u prefix ≡ true) ⊎ ((distance : ℕ) × (distance_at distances u ≡ Some distance)))

-- ---- isolated

-- an isolated router forwards to nobody
abbrev pub IsolatedAreStuck : Type 0
IsolatedAreStuck =
    (net : NetValue) (prefix : PrefixValue) (failed : List ℕ) (distances : List (Option ℕ)) (labels : List (Option Route)) (u v : ℕ) →
    IsIsolated net prefix distances labels u → Forwards net prefix failed distances labels u v → ⊥

-- at a stable labelling the isolated routers are those that are no owners and forward to nobody
abbrev pub StuckAreIsolated : Type 0
StuckAreIsolated =
    (net : NetValue) (prefix : PrefixValue) (failed : List ℕ) (distances : List (Option ℕ)) (labels : List (Option Route)) (u : ℕ) → IsNet net →
    AreDistances net prefix failed distances → IsStable (problem_of net prefix failed distances) labels → u < length net.routers →
    IsIsolated net prefix distances labels u ↔
    ((owns net u prefix ≡ false) × ((v : ℕ) → Forwards net prefix failed distances labels u v → ⊥))

-- no router is isolated and reaches
abbrev pub IsolatedReachNobody : Type 0
IsolatedReachNobody =
    (net : NetValue) (prefix : PrefixValue) (failed : List ℕ) (distances : List (Option ℕ)) (labels : List (Option Route)) (u : ℕ) →
    IsIsolated net prefix distances labels u → Reaches net prefix failed distances labels u → ⊥

-- ---- waypoint

-- traffic goes through the router that it begins at
abbrev pub WaypointsCount : Type 0
WaypointsCount =
    (net : NetValue) (prefix : PrefixValue) (failed : List ℕ) (distances : List (Option ℕ)) (labels : List (Option Route)) (u : ℕ) →
    GoesThrough net prefix failed distances labels u u

-- traffic of an owner goes through no other router
abbrev pub OwnersGoAround : Type 0
OwnersGoAround =
    (net : NetValue) (prefix : PrefixValue) (failed : List ℕ) (distances : List (Option ℕ)) (labels : List (Option Route)) (w u : ℕ) →
    owns net u prefix ≡ true → GoesThrough net prefix failed distances labels w u → u ≡ w

-- all traffic goes through the one owner, if no other is there
abbrev pub SoleOwnersAreWaypoints : Type 0
SoleOwnersAreWaypoints =
    (net : NetValue) (prefix : PrefixValue) (failed : List ℕ) (distances : List (Option ℕ)) (labels : List (Option Route)) (w u : ℕ) →
    ((x : ℕ) → owns net x prefix ≡ true → x ≡ w) → GoesThrough net prefix failed distances labels w u

-- traffic of any other router than these goes through w exactly where that of each router to which it forwards does
abbrev pub WaypointsGoOn : Type 0
WaypointsGoOn =
    (net : NetValue) (prefix : PrefixValue) (failed : List ℕ) (distances : List (Option ℕ)) (labels : List (Option Route)) (w u : ℕ) →
    owns net u prefix ≡ false → u ≢ w →
    GoesThrough net prefix failed distances labels w u ↔
    ((v : ℕ) → Forwards net prefix failed distances labels u v → GoesThrough net prefix failed distances labels w v)

-- ---- properties

-- a property that holds with up to so many failed links holds with up to fewer
abbrev pub HoldsWithFewer : Type 0
HoldsWithFewer =
    (net : NetValue) (property : Property) (fewer : ℕ) → fewer ≤ property.failures → Holds net property →
    Holds net (record property { failures = fewer })
