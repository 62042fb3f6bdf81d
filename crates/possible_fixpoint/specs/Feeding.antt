-- The routers that feed each other over the arcs that were seen giving. No public clause cites these words.
use Rattle.std.specs.Prelude.{ℕ, ◌≡◌, ◌<◌, true}
use Rattle.net_types.specs.declared.arcs.Arc.{Arc}
use Rattle.net_types.specs.Sets.{has, IsPart}
use Rattle.possible_fixpoint.specs.declared.marks.ArcSet.{ArcSet}
use Rattle.possible_fixpoint.specs.Flow.{Flow}
use Rattle.possible_fixpoint.specs.Marks.{has_arc, number}

-- what was seen giving are arcs that live
pub record AreLiving (flow : Flow) (seen : ArcSet) : Type 0 where
  pub arc : (arc : Arc) → has_arc seen arc ≡ true → flow.lives arc ≡ true

-- an arc that gave something goes from a member of the set to u
pub record Brings (flow : Flow) (seen : ArcSet) (set u : ℕ) (arc : Arc) : Type 0 where
  pub gave : has_arc seen arc ≡ true
  pub from : has set (flow.sender arc) ≡ true
  pub to : flow.receiver arc ≡ u

-- each member is given something by a member
pub record IsFedBy (flow : Flow) (seen : ArcSet) (set : ℕ) : Type 0 where
  pub arc : (u : ℕ) → has set u ≡ true → (arc : Arc) × Brings flow seen set u arc

-- and it has the members of each such set
pub record IsGreatestFed (flow : Flow) (seen : ArcSet) (set : ℕ) : Type 0 where
  pub fed : IsFedBy flow seen set
  pub greatest : (other : ℕ) → IsFedBy flow seen other → IsPart other set

-- the routers that the arcs before a place bring something from the set
pub record AreReceivers (flow : Flow) (seen : ArcSet) (set next found : ℕ) : Type 0 where
  pub arc : (u : ℕ) → has found u ≡ true → (arc : Arc) × Brings flow seen set u arc
  pub all : (u : ℕ) (arc : Arc) → number arc < next → Brings flow seen set u arc → has found u ≡ true
