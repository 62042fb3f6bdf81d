-- What is true of the distances of every network, prefix and failure set.
use Rattle.std.specs.Prelude.{ℕ, ◌≡◌, ◌≢◌, ◌<◌, ◌≤◌, ◌^◌, ◌↔◌, [], ◌∷◌, true, false, List, Option, Some, None, All, Contains, map, slice_get}
use Rattle.net_types.specs.declared.arcs.Arc.{Arc}
use Rattle.net_types.specs.declared.network.Link.{Link}
use Rattle.net_types.specs.Distance.{IsWalk, AreDistances, distance_at, IsTight, HasHop}
use Rattle.net_types.specs.FailSets.{holds, without}
use Rattle.net_types.specs.NetFacts.{IsNet}
use Rattle.net_types.specs.NetValue.{NetValue}
use Rattle.net_types.specs.Owners.{owns}
use Rattle.net_types.specs.PrefixValue.{PrefixValue}
use Rattle.ospf_paths.specs.DistanceList.{distance_list}

-- a router with a distance that is no owner has a next hop
abbrev pub FarRoutersHop : Type 0
FarRoutersHop =
    (net : NetValue) (prefix : PrefixValue) (failed : List ℕ) (distances : List (Option ℕ)) → IsNet net →
    AreDistances net prefix failed distances →
    (u distance : ℕ) → distance_at distances u ≡ Some distance → owns net u prefix ≡ false →
    (v : ℕ) × HasHop net prefix failed distances u v

-- a tight arc, and so one to a next hop, goes to a router that is nearer
abbrev pub TightArcsApproach : Type 0
TightArcsApproach =
    (net : NetValue) (failed : List ℕ) (distances : List (Option ℕ)) (arc : Arc) (u v near far : ℕ) → IsNet net →
    IsTight net failed distances arc u v → distance_at distances u ≡ Some near → distance_at distances v ≡ Some far →
    far < near

-- the arc is tight
abbrev pub IsTightArc : NetValue → List ℕ → List (Option ℕ) → Arc → Type 0
IsTightArc net failed distances arc = (u : ℕ) × (v : ℕ) × IsTight net failed distances arc u v

-- after the first arc of a least walk, which is tight, there is a least walk again
abbrev pub LeastWalksGoOn : Type 0
LeastWalksGoOn =
    (net : NetValue) (prefix : PrefixValue) (failed : List ℕ) (distances : List (Option ℕ)) → IsNet net →
    AreDistances net prefix failed distances →
    (arc : Arc) (arcs : List Arc) (u distance : ℕ) → IsWalk net prefix failed (arc ∷ arcs) u distance →
    distance_at distances u ≡ Some distance →
    (v : ℕ) × (rest : ℕ) × IsTight net failed distances arc u v × IsWalk net prefix failed arcs v rest ×
    (distance_at distances v ≡ Some rest)

-- so all arcs of a least walk are tight
abbrev pub LeastWalksAreTight : Type 0
LeastWalksAreTight =
    (net : NetValue) (prefix : PrefixValue) (failed : List ℕ) (distances : List (Option ℕ)) → IsNet net →
    AreDistances net prefix failed distances →
    (arcs : List Arc) (u distance : ℕ) → IsWalk net prefix failed arcs u distance → distance_at distances u ≡ Some distance →
    All (IsTightArc net failed distances) arcs

-- one network, prefix and failure set has one list of distances
abbrev pub DistancesAreOne : Type 0
DistancesAreOne =
    (net : NetValue) (prefix : PrefixValue) (failed : List ℕ) (a b : List (Option ℕ)) →
    AreDistances net prefix failed a → AreDistances net prefix failed b → a ≡ b

-- each distance is below 2 ^ 32
abbrev pub DistancesAreSmall : Type 0
DistancesAreSmall =
    (net : NetValue) (prefix : PrefixValue) (failed : List ℕ) (distances : List (Option ℕ)) → IsNet net →
    AreDistances net prefix failed distances →
    (u distance : ℕ) → distance_at distances u ≡ Some distance → distance < 2 ^ 32

-- the distance list is the list of distances
abbrev pub DistanceListIs : Type 0
DistanceListIs =
    (net : NetValue) (prefix : PrefixValue) (failed : List ℕ) → IsNet net →
    AreDistances net prefix failed (distance_list net prefix failed)

-- the failure set is the other with this link
pub record IsWith (failed : List ℕ) (link : ℕ) (more : List ℕ) : Type 0 where
  pub has : holds more link ≡ true
  pub others : (other : ℕ) → other ≢ link → holds more other ≡ holds failed other

-- where no direction of a link is tight, its failure changes no distance
abbrev pub SlackLinksKeepDistances : Type 0
SlackLinksKeepDistances =
    (net : NetValue) (prefix : PrefixValue) (failed more : List ℕ) (link : ℕ) (distances : List (Option ℕ)) → IsNet net →
    AreDistances net prefix failed distances →
    IsWith failed link more → ((arc : Arc) → IsTightArc net failed distances arc → arc.link ≢ link) →
    AreDistances net prefix more distances

-- and no tight arc
abbrev pub SlackLinksKeepTightArcs : Type 0
SlackLinksKeepTightArcs =
    (net : NetValue) (failed more : List ℕ) (link : ℕ) (distances : List (Option ℕ)) →
    IsWith failed link more → ((arc : Arc) → IsTightArc net failed distances arc → arc.link ≢ link) →
    (arc : Arc) (u v : ℕ) → IsTight net failed distances arc u v ↔ IsTight net more distances arc u v

-- a failure set is what is left of it without one of its links, with that link
abbrev pub HeldLinksComeBack : Type 0
HeldLinksComeBack = (set : List ℕ) (link : ℕ) → holds set link ≡ true → IsWith (without set link) link set

-- with more links failed, a router that has a distance had one before that was no greater
abbrev pub FailuresLengthen : Type 0
FailuresLengthen =
    (net : NetValue) (prefix : PrefixValue) (failed more : List ℕ) (before after : List (Option ℕ)) →
    AreDistances net prefix failed before → AreDistances net prefix more after →
    ((link : ℕ) → holds failed link ≡ true → holds more link ≡ true) →
    (u far : ℕ) → distance_at after u ≡ Some far →
    (near : ℕ) × (distance_at before u ≡ Some near) × (near ≤ far)

-- the other network has the same routers, and the same links but that these are no adjacencies
pub record LacksLinks (net : NetValue) (links : List ℕ) (other : NetValue) : Type 0 where
  pub routers : other.routers ≡ net.routers
  pub past : (k : ℕ) → slice_get net.links k ≡ None → slice_get other.links k ≡ None
  pub lacking : (k : ℕ) (link : Link) → slice_get net.links k ≡ Some link → Contains links k →
      slice_get other.links k ≡ Some (record link { adjacency = false })
  pub kept : (k : ℕ) (link : Link) → slice_get net.links k ≡ Some link → (Contains links k → ⊥) → slice_get other.links k ≡ Some link

-- a link that has failed counts as one that is no adjacency
abbrev pub FailingIsLacking : Type 0
FailingIsLacking =
    (net other : NetValue) (prefix : PrefixValue) (failed : List ℕ) (distances : List (Option ℕ)) → LacksLinks net failed other →
    AreDistances net prefix failed distances ↔ AreDistances other prefix [] distances

-- the link with its ends in the other order
abbrev pub turned : Link → Link
turned link = record link { low = link.high; high = link.low }

-- no distance hangs on which end of a link is called the low one
abbrev pub EndsAreAlike : Type 0
EndsAreAlike =
    (net other : NetValue) (prefix : PrefixValue) (failed : List ℕ) (distances : List (Option ℕ)) →
    other.routers ≡ net.routers → other.links ≡ map turned net.links →
    AreDistances net prefix failed distances → AreDistances other prefix failed distances
