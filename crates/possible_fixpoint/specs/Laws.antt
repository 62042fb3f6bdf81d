-- What is true of the flow of every network.
use Rattle.std.specs.Prelude.{ℕ, ◌≡◌, ◌<◌, length, ◌⊎◌, Bool, true, false, List, Option, ◌*◌, ◌≤◌}
use Rattle.net_types.specs.declared.routes.Route.{Route}
use Rattle.net_types.specs.declared.arcs.Arc.{Arc}
use Rattle.net_types.specs.Arcs.{is_up}
use Rattle.net_types.specs.Distance.{AreDistances}
use Rattle.net_types.specs.FailSets.{holds}
use Rattle.net_types.specs.NetFacts.{IsNet}
use Rattle.net_types.specs.NetValue.{NetValue}
use Rattle.net_types.specs.PrefixValue.{PrefixValue}
use Rattle.abstract_route.specs.declared.rows.Row.{Row}
use Rattle.abstract_route.specs.Rows.{IsBelow, bottom, row_at}
use Rattle.abstract_maps.specs.AbstractMap.{IsShort}
use Rattle.abstract_maps.specs.Transfer.{opens}
use Rattle.concrete_algebra.specs.Problem.{problem_of}
use Rattle.concrete_algebra.specs.Stability.{IsStable}
use Rattle.possible_fixpoint.specs.Climbing.{IsFed, Lengthens}
use Rattle.possible_fixpoint.specs.Flow.{Flow, Lawful, flow_of}
use Rattle.possible_fixpoint.specs.Held.{AreIn, IsHeldAlive, IsLessAlive, all_alive}
use Rattle.possible_fixpoint.specs.Possible.{AreBelow, AreRows, IsLeast, Solves, possible}
use Rattle.possible_fixpoint.specs.declared.alive.Alive.{Alive}

-- the flow of each network is lawful, whatever has failed and whatever is alive
abbrev pub FlowIsLawful : Type 0
FlowIsLawful =
    (net : NetValue) (prefix : PrefixValue) (failed : List ℕ) (distances : List (Option ℕ)) (alive : Alive) → IsNet net →
    AreDistances net prefix failed distances → Lawful (flow_of net prefix failed distances alive)

-- of a lawful flow, this value is the least solution
abbrev pub PossibleIsLeast : Type 0
PossibleIsLeast = (flow : Flow) → Lawful flow → IsLeast flow (possible flow)

-- there is no other
abbrev pub LeastIsOne : Type 0
LeastIsOne = (flow : Flow) (a b : List Row) → IsLeast flow a → IsLeast flow b → a ≡ b

-- so the flow of each network has a least solution
abbrev pub NetworksSettle : Type 0
NetworksSettle =
    (net : NetValue) (prefix : PrefixValue) (failed : List ℕ) (distances : List (Option ℕ)) (alive : Alive) → IsNet net →
    AreDistances net prefix failed distances →
    IsLeast (flow_of net prefix failed distances alive) (possible (flow_of net prefix failed distances alive))

-- with less alive, less is possible
abbrev pub PossibleFalls : Type 0
PossibleFalls =
    (net : NetValue) (prefix : PrefixValue) (failed : List ℕ) (distances : List (Option ℕ)) (fewer more : Alive) → IsNet net →
    AreDistances net prefix failed distances → IsLessAlive fewer more →
    AreBelow (possible (flow_of net prefix failed distances fewer)) (possible (flow_of net prefix failed distances more))

-- all that a stable labelling holds is alive where nothing has been dropped
abbrev pub AllIsHeldAlive : Type 0
AllIsHeldAlive =
    (net : NetValue) (prefix : PrefixValue) (failed : List ℕ) (distances : List (Option ℕ)) (labels : List (Option Route)) → IsNet net →
    IsStable (problem_of net prefix failed distances) labels → IsHeldAlive all_alive labels

-- each label of a stable labelling is in the row of its router, at rows that solve a flow in which all that the labelling
-- holds is alive
abbrev pub SolutionsHoldLabels : Type 0
SolutionsHoldLabels =
    (net : NetValue) (prefix : PrefixValue) (failed : List ℕ) (distances : List (Option ℕ)) (alive : Alive) (labels : List (Option Route)) (rows : List Row) →
    IsNet net → AreDistances net prefix failed distances → IsStable (problem_of net prefix failed distances) labels → IsHeldAlive alive labels →
    AreRows rows → Solves (flow_of net prefix failed distances alive) rows → AreIn labels rows

-- and so at the least of these rows
abbrev pub PossibleHoldsLabels : Type 0
PossibleHoldsLabels =
    (net : NetValue) (prefix : PrefixValue) (failed : List ℕ) (distances : List (Option ℕ)) (alive : Alive) (labels : List (Option Route)) →
    IsNet net → AreDistances net prefix failed distances → IsStable (problem_of net prefix failed distances) labels → IsHeldAlive alive labels →
    AreIn labels (possible (flow_of net prefix failed distances alive))

-- arcs that give nothing at the least solution may as well not live
abbrev pub IdleArcsAddNothing : Type 0
IdleArcsAddNothing =
    (flow : Flow) (fewer : Arc → Bool) → Lawful flow → ((arc : Arc) → fewer arc ≡ true → flow.lives arc ≡ true) →
    ((arc : Arc) → flow.lives arc ≡ true → (fewer arc ≡ true) ⊎ IsBelow (flow.gives arc (row_at (possible flow) (flow.sender arc))) bottom) →
    possible flow ≡ possible (record flow { lives = fewer })

-- where more links fail but no distance changes, and no arc over these links is open for its sender's row of the first
-- round, the rows of that round and of each round with less alive stay the same
abbrev pub IdleLinksKeepPossible : Type 0
IdleLinksKeepPossible =
    (net : NetValue) (prefix : PrefixValue) (failed more : List ℕ) (distances : List (Option ℕ)) (alive first : Alive) → IsNet net →
    AreDistances net prefix failed distances → AreDistances net prefix more distances → IsLessAlive alive first →
    ((link : ℕ) → holds failed link ≡ true → holds more link ≡ true) →
    ((arc : Arc) → is_up net failed arc ≡ true → holds more arc.link ≡ true →
    opens net prefix arc (row_at (possible (flow_of net prefix failed distances first)) ((flow_of net prefix failed distances first).sender arc)) ≡ false) →
    possible (flow_of net prefix failed distances alive) ≡ possible (flow_of net prefix more distances alive)

-- the arcs of each network lengthen, up to 21 entries for each router
abbrev pub FlowLengthens : Type 0
FlowLengthens =
    (net : NetValue) (prefix : PrefixValue) (failed : List ℕ) (distances : List (Option ℕ)) (alive : Alive) → IsNet net →
    Lengthens (flow_of net prefix failed distances alive) (21 * length net.routers)

-- where the routers of a set feed each other at some rows, they have paths as long as the cut in every solution above
abbrev pub FedReachTheCut : Type 0
FedReachTheCut =
    (flow : Flow) (most : ℕ) (rows others : List Row) (set : ℕ → Bool) → Lawful flow → Lengthens flow most →
    AreRows rows → AreRows others → AreBelow rows others → Solves flow others → IsFed flow rows set →
    (u : ℕ) → set u ≡ true → most ≤ (row_at others u).length.high

-- a row below a router's row of the least solution is short
abbrev pub PossibleIsShort : Type 0
PossibleIsShort =
    (net : NetValue) (prefix : PrefixValue) (failed : List ℕ) (distances : List (Option ℕ)) (alive : Alive) (u : ℕ) (row : Row) → IsNet net →
    u < length net.routers → IsBelow row (row_at (possible (flow_of net prefix failed distances alive)) u) → IsShort row
