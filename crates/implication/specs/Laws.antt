-- What the words of the definition mean, and that it has one answer. All of this is the project's own.
use Rattle.std.specs.Prelude.{ℕ, ◌≡◌, ◌<◌, ◌⊎◌, ◌↔◌, List, [], ◌∷◌, Bool, true, false, Option, Some, unwrap_or}
use Rattle.net_types.specs.declared.arcs.Arc.{Arc}
use Rattle.net_types.specs.Arcs.{is_up, receiver_of, sender_of}
use Rattle.net_types.specs.Distance.{HasHop, distance_at}
use Rattle.net_types.specs.FailSets.{holds, without}
use Rattle.net_types.specs.NetFacts.{IsNet}
use Rattle.net_types.specs.NetValue.{NetValue}
use Rattle.net_types.specs.PrefixValue.{PrefixValue}
use Rattle.abstract_route.specs.Rows.{inhabited, row_at}
use Rattle.abstract_maps.specs.Transfer.{transfer}
use Rattle.possible_fixpoint.specs.Flow.{is_alive}
use Rattle.refine_rounds.specs.Idle.{IsIdle}
use Rattle.refine_rounds.specs.Results.{CaseValue, result_of}
use Rattle.property_book.specs.declared.property.Property.{Property}
use Rattle.property_book.specs.declared.verdict.Broken.{Broken}
use Rattle.implication.specs.View.{IsInside, View, owners_plain, view_of}
use Rattle.implication.specs.Closed.{IsMember}
use Rattle.implication.specs.Implied.{HoldsWith, IsAnswer, IsImplied, IsSolid, reach_leads, waypoint_leads}

-- ---- what the view of a result tells

-- the arc goes from router v to router u, is up and alive, and what it makes of v's row has a route
pub record Brings (net : NetValue) (prefix : PrefixValue) (failed : List ℕ) (known : CaseValue) (u v : ℕ) (arc : Arc) : Type 0 where
  pub from : sender_of net arc ≡ Some v
  pub to : receiver_of net arc ≡ Some u
  pub up : is_up net failed arc ≡ true
  pub alive : is_alive known.alive arc ≡ true
  pub route : inhabited (transfer net prefix arc (row_at known.rows v)) ≡ true

-- hops are those of OSPF
abbrev pub HopsAre : Type 0
HopsAre =
    (net : NetValue) (prefix : PrefixValue) (failed : List ℕ) (known : CaseValue) (u v : ℕ) → IsNet net →
    ((view_of net prefix failed known).hop u v ≡ true) ↔ HasHop net prefix failed known.distances u v

-- steps back go along the arcs that may bring a route
abbrev pub StepsBackAre : Type 0
StepsBackAre =
    (net : NetValue) (prefix : PrefixValue) (failed : List ℕ) (known : CaseValue) (u v : ℕ) → IsNet net →
    ((view_of net prefix failed known).back u v ≡ true) ↔ ((arc : Arc) × Brings net prefix failed known u v arc)

-- a router may learn where some arc may bring it a route
abbrev pub LearningIs : Type 0
LearningIs =
    (net : NetValue) (prefix : PrefixValue) (failed : List ℕ) (known : CaseValue) (u : ℕ) → IsNet net →
    ((view_of net prefix failed known).may_learn u ≡ true) ↔ ((v : ℕ) × (arc : Arc) × Brings net prefix failed known u v arc)

-- there are at most 64 routers, and hops and steps back go to routers
abbrev pub ViewsAreInside : Type 0
ViewsAreInside = (net : NetValue) (prefix : PrefixValue) (failed : List ℕ) (known : CaseValue) → IsNet net → IsInside (view_of net prefix failed known)

-- ---- the words

-- the exception is taken where no owner may learn
abbrev pub ExceptionIs : Type 0
ExceptionIs =
    (view : View) →
    (owners_plain view ≡ true) ↔ ((u : ℕ) → u < view.count → view.owner u ≡ true → view.may_learn u ≡ false)

-- u is an owner, or cannot learn, has a distance and only hops with the property
abbrev pub LeadsToOwner : View → (ℕ → Type 0) → ℕ → Type 0
LeadsToOwner view property u =
    (view.owner u ≡ true) ⊎
    ((view.may_learn u ≡ false) × (view.has_distance u ≡ true) × ((v : ℕ) → view.hop u v ≡ true → property v))

-- solid is what its rule says
abbrev pub SolidIs : Type 0
SolidIs = (view : View) (u : ℕ) → IsInside view → IsSolid view u ↔ LeadsToOwner view (IsSolid view) u

-- distances fall from hop to hop
abbrev pub HopsFall : View → (ℕ → ℕ) → Type 0
HopsFall view distance = (u v : ℕ) → view.hop u v ≡ true → distance v < distance u

-- they do in a case, where a router without a distance counts as at 0: it has no hop, and none goes to it
abbrev pub HopsOfCasesFall : Type 0
HopsOfCasesFall =
    (net : NetValue) (prefix : PrefixValue) (failed : List ℕ) (known : CaseValue) → IsNet net →
    HopsFall (view_of net prefix failed known) (λ u. unwrap_or (distance_at known.distances u) 0)

-- and, where they do, nothing more: it is in each set that the rule closes
abbrev pub SolidIsLeast : Type 0
SolidIsLeast =
    (view : View) (distance : ℕ → ℕ) → HopsFall view distance → (set : ℕ → Bool) →
    ((u : ℕ) → LeadsToOwner view (λ v. set v ≡ true) u → set u ≡ true) → (u : ℕ) → IsSolid view u → set u ≡ true

-- these steps lead from u to v
abbrev pub IsTrail : (ℕ → ℕ → Bool) → List ℕ → ℕ → ℕ → Type 0
IsTrail leads [] u v = u ≡ v
IsTrail leads (w ∷ ws) u v = (leads u w ≡ true) × IsTrail leads ws w v

-- what is in every closed set is what some steps lead to
abbrev pub ReachTrails : Type 0
ReachTrails =
    (view : View) (start u : ℕ) → IsInside view → start < view.count →
    IsMember (reach_leads view) start u ↔ ((ws : List ℕ) × IsTrail (reach_leads view) ws start u)

abbrev pub WaypointTrails : Type 0
WaypointTrails =
    (view : View) (via start u : ℕ) → IsInside view → start < view.count →
    IsMember (waypoint_leads view via) start u ↔ ((ws : List ℕ) × IsTrail (waypoint_leads view via) ws start u)

-- ---- the answer

-- two answers are one
abbrev pub AnswersAreOne : Type 0
AnswersAreOne =
    (net : NetValue) (property : Property) (failed : List ℕ) (known : CaseValue) (a b : Option Broken) →
    IsAnswer net property failed known a → IsAnswer net property failed known b → a ≡ b

-- what the result of a case implies is true in every stable labelling
abbrev pub ImpliedHolds : Type 0
ImpliedHolds =
    (net : NetValue) (property : Property) (failed : List ℕ) → IsNet net →
    IsImplied net property failed (result_of net property.prefix failed) → HoldsWith net property failed

-- where an idle link fails too, the result implies the same
abbrev pub IdleLinksKeepAnswers : Type 0
IdleLinksKeepAnswers =
    (net : NetValue) (property : Property) (set : List ℕ) (link : ℕ) → IsNet net → holds set link ≡ true →
    IsIdle net property.prefix (without set link) link →
    IsImplied net property set (result_of net property.prefix set) ↔
    IsImplied net property (without set link) (result_of net property.prefix (without set link))
