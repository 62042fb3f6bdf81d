-- Distances and next hops of OSPF, after RFC 2328, section 16: least sums of the costs of outgoing
-- interfaces, and all equal least paths used. That only stubs have distances, and the subnets of links none, is
-- this project's own.
use Rattle.std.specs.Prelude.{ℕ, ◌≡◌, ◌≤◌, ◌<◌, ◌+◌, true, false, List, [], ◌∷◌, length, Option, Some, None, slice_get, slice_index_or}
use Rattle.net_types.specs.declared.arcs.Arc.{Arc}
use Rattle.net_types.specs.declared.network.Link.{Link}
use Rattle.net_types.specs.Arcs.{from_end, to_end}
use Rattle.net_types.specs.FailSets.{holds}
use Rattle.net_types.specs.NetValue.{NetValue}
use Rattle.net_types.specs.Owners.{owns, stub_cost}
use Rattle.net_types.specs.PrefixValue.{PrefixValue}

-- the arc is of an adjacency that has not failed, from router u, whose interface has this cost, to router v
pub record Crosses (net : NetValue) (failed : List ℕ) (arc : Arc) (u v cost : ℕ) : Type 0 where
  pub link : Link
  pub is : slice_get net.links arc.link ≡ Some link
  pub adjacency : link.adjacency ≡ true
  pub up : holds failed arc.link ≡ false
  pub from : (from_end arc.down link).router ≡ u
  pub to : (to_end arc.down link).router ≡ v
  pub costs : (from_end arc.down link).cost ≡ cost

-- the arcs lead from router u to a router with an OSPF stub of the prefix, and the costs of the outgoing
-- interfaces with the stub's cost have this sum
abbrev pub IsWalk : NetValue → PrefixValue → List ℕ → List Arc → ℕ → ℕ → Type 0
IsWalk net prefix failed [] u sum = stub_cost net prefix u ≡ Some sum
IsWalk net prefix failed (arc ∷ arcs) u sum =
    (v : ℕ) × (cost : ℕ) × (rest : ℕ) × Crosses net failed arc u v cost × IsWalk net prefix failed arcs v rest × (sum ≡ cost + rest)

-- the least sum of a walk from u
pub record IsLeastSum (net : NetValue) (prefix : PrefixValue) (failed : List ℕ) (u distance : ℕ) : Type 0 where
  pub walk : (arcs : List Arc) × IsWalk net prefix failed arcs u distance
  pub least : (arcs : List Arc) (sum : ℕ) → IsWalk net prefix failed arcs u sum → distance ≤ sum

-- the distance of u: the least sum, or none where there is no walk
abbrev pub IsDistance : NetValue → PrefixValue → List ℕ → ℕ → Option ℕ → Type 0
IsDistance net prefix failed u (Some distance) = IsLeastSum net prefix failed u distance
IsDistance net prefix failed u None = (arcs : List Arc) (sum : ℕ) → IsWalk net prefix failed arcs u sum → ⊥

-- a router's entry in a list of distances
abbrev pub distance_at : List (Option ℕ) → ℕ → Option ℕ
distance_at distances u = slice_index_or distances u None

-- the distances of all routers
pub record AreDistances (net : NetValue) (prefix : PrefixValue) (failed : List ℕ) (distances : List (Option ℕ)) : Type 0 where
  pub long : length distances ≡ length net.routers
  pub each : (u : ℕ) → u < length net.routers → IsDistance net prefix failed u (distance_at distances u)

-- the arc from u to v begins a least walk: both have a distance, and u's is its cost and v's together
pub record IsTight (net : NetValue) (failed : List ℕ) (distances : List (Option ℕ)) (arc : Arc) (u v : ℕ) : Type 0 where
  pub cost : ℕ
  pub crosses : Crosses net failed arc u v cost
  pub distance : ℕ
  pub far : distance_at distances v ≡ Some distance
  pub near : distance_at distances u ≡ Some (cost + distance)

-- the arc goes from router u to its next hop v: it is tight, and u is no owner
pub record IsHop (net : NetValue) (prefix : PrefixValue) (failed : List ℕ) (distances : List (Option ℕ)) (arc : Arc) (u v : ℕ) : Type 0 where
  pub tight : IsTight net failed distances arc u v
  pub no_owner : owns net u prefix ≡ false

-- some arc goes from u to its next hop v
abbrev pub HasHop : NetValue → PrefixValue → List ℕ → List (Option ℕ) → ℕ → ℕ → Type 0
HasHop net prefix failed distances u v = (arc : Arc) × IsHop net prefix failed distances arc u v

-- the arc goes from some router to its next hop
abbrev pub IsNextHop : NetValue → PrefixValue → List ℕ → List (Option ℕ) → Arc → Type 0
IsNextHop net prefix failed distances arc = (u : ℕ) × (v : ℕ) × IsHop net prefix failed distances arc u v
