-- Entries on the way to the distances: what the passes over the links keep, and what each visit of an
-- arc does. These words serve the proof of the passes alone; what is promised stands in net_types.
use Rattle.std.specs.Prelude.{ℕ, ◌≡◌, ◌≤◌, ◌<◌, ◌+◌, ◌*◌, Bool, true, false, List, [], ◌∷◌, length, map, Option, Some, None, slice_set}
use Rattle.net_types.specs.declared.arcs.Arc.{Arc}
use Rattle.net_types.specs.declared.network.Router.{Router}
use Rattle.net_types.specs.Distance.{Crosses, IsWalk, distance_at}
use Rattle.net_types.specs.NetValue.{NetValue}
use Rattle.net_types.specs.Owners.{stub_cost, stub_of}
use Rattle.net_types.specs.PrefixValue.{PrefixValue}

-- the routers' stub costs, with which the passes begin
abbrev pub stub_costs : PrefixValue → List Router → List (Option ℕ)
stub_costs prefix routers = map (λ router. stub_of prefix router.owned) routers

-- how many entries are there
unfoldable pub present : List (Option ℕ) → ℕ
present [] = 0
present (None ∷ distances) = present distances
present (Some distance ∷ distances) = 1 + present distances

-- what falls with each change
unfoldable pub weight : List (Option ℕ) → ℕ
weight [] = 0
weight (None ∷ distances) = 4294967296 + weight distances
weight (Some distance ∷ distances) = distance + weight distances

-- one entry a router, each at most the greatest cost for each entry that is there: a first entry is at
-- most one cost more than another entry, and later ones are less
pub record AreBounded (net : NetValue) (distances : List (Option ℕ)) : Type 0 where
  pub long : length distances ≡ length net.routers
  pub bound : (u distance : ℕ) → distance_at distances u ≡ Some distance → distance ≤ 65535 * present distances

-- each entry is the sum of a walk, and no stub is nearer
pub record AreSums (net : NetValue) (prefix : PrefixValue) (failed : List ℕ) (distances : List (Option ℕ)) : Type 0 where
  pub walk : (u distance : ℕ) → distance_at distances u ≡ Some distance → (arcs : List Arc) × IsWalk net prefix failed arcs u distance
  pub stub : (u cost : ℕ) → stub_cost net prefix u ≡ Some cost →
      (distance : ℕ) × (distance_at distances u ≡ Some distance) × (distance ≤ cost)

-- the arc shortens nothing
abbrev pub IsSettled : NetValue → List ℕ → List (Option ℕ) → Arc → Type 0
IsSettled net failed distances arc =
    (u v cost far : ℕ) → Crosses net failed arc u v cost → distance_at distances v ≡ Some far →
    (near : ℕ) × (distance_at distances u ≡ Some near) × (near ≤ cost + far)

-- from v at cost u has a lesser sum than its entry, and this sum becomes its entry
pub record Lowers (u v cost : ℕ) (before after : List (Option ℕ)) : Type 0 where
  pub far : ℕ
  pub is : distance_at before v ≡ Some far
  pub less : (near : ℕ) → distance_at before u ≡ Some near → cost + far < near
  pub set : after ≡ slice_set before u (Some (cost + far))

-- from v at cost u has no lesser sum than its entry, and no entry changes
pub record Keeps (u v cost : ℕ) (before after : List (Option ℕ)) : Type 0 where
  pub low : (far : ℕ) → distance_at before v ≡ Some far → (near : ℕ) × (distance_at before u ≡ Some near) × (near ≤ cost + far)
  pub same : after ≡ before

abbrev pub Lowered : ℕ → ℕ → ℕ → List (Option ℕ) → List (Option ℕ) → Bool → Type 0
Lowered u v cost before after true = Lowers u v cost before after
Lowered u v cost before after false = Keeps u v cost before after

-- what the visit of an arc did
pub record Shortens (net : NetValue) (failed : List ℕ) (arc : Arc) (before after : List (Option ℕ)) : Type 0 where
  pub from : ℕ
  pub to : ℕ
  pub cost : ℕ
  pub crosses : Crosses net failed arc from to cost
  pub lowers : Lowers from to cost before after

pub record Leaves (net : NetValue) (failed : List ℕ) (arc : Arc) (before after : List (Option ℕ)) : Type 0 where
  pub settled : IsSettled net failed before arc
  pub same : after ≡ before

abbrev pub Visited : NetValue → List ℕ → Arc → List (Option ℕ) → List (Option ℕ) → Bool → Type 0
Visited net failed arc before after true = Shortens net failed arc before after
Visited net failed arc before after false = Leaves net failed arc before after

-- what visits of the arcs of the links from low to below high did, and whether they changed an entry
pub record Passed (net : NetValue) (failed : List ℕ) (before after : List (Option ℕ)) (changed : Bool) (low high : ℕ) : Type 0 where
  pub bounded : AreBounded net after
  pub sums : (prefix : PrefixValue) → AreSums net prefix failed before → AreSums net prefix failed after
  pub down : weight after ≤ weight before
  pub same : changed ≡ false → after ≡ before
  pub settled : changed ≡ false → (arc : Arc) → low ≤ arc.link → arc.link < high → IsSettled net failed before arc
  pub falls : changed ≡ true → weight after < weight before
