-- When the result of a case implies a property, and else what is broken first. All of this is the project's own.
use Rattle.std.specs.Prelude.{ℕ, ◌≡◌, ◌≢◌, ◌<◌, ◌==◌, ◌⊎◌, Bool, true, false, ◌&&◌, ◌||◌, not, List as Seq, Option, Some, MatchOption}
use Rattle.net_types.specs.declared.routes.Route.{Route}
use Rattle.net_types.specs.Numbering.{router_number}
use Rattle.net_types.specs.NetValue.{NetValue}
use Rattle.ospf_paths.specs.DistanceList.{distance_list}
use Rattle.concrete_algebra.specs.Problem.{problem_of}
use Rattle.concrete_algebra.specs.Stability.{IsStable}
use Rattle.refine_rounds.specs.Results.{CaseValue}
use Rattle.property_book.specs.declared.property.Kind.{Kind}
use Rattle.property_book.specs.declared.property.Kind.TheVariants.{Reach, Isolated, Waypoint}
use Rattle.property_book.specs.declared.property.Property.{Property}
use Rattle.property_book.specs.declared.verdict.Broken.{Broken}
use Rattle.property_book.specs.declared.verdict.Broken.TheVariants.{NoSureRoute, IsOwner, MayLearn, HasOspf, Bypass}
use Rattle.property_book.specs.Meaning.{HasKind}
use Rattle.implication.specs.View.{View, owners_plain, surely_learned, view_of}
use Rattle.implication.specs.Closed.{IsLeast, IsMember}

-- each member is an owner, or cannot learn, has a distance and only hops to members
pub record IsSolidSet (view : View) (set : ℕ → Bool) : Type 0 where
  pub each : (u : ℕ) → set u ≡ true → (view.owner u ≡ true) ⊎ ((view.may_learn u ≡ false) × (view.has_distance u ≡ true) × ((v : ℕ) → view.hop u v ≡ true → set v ≡ true))

-- OSPF alone leads from u to an owner: it is in such a set
abbrev pub IsSolid : View → ℕ → Type 0
IsSolid view u = (set : ℕ → Bool) × IsSolidSet view set × (set u ≡ true)

-- u is an owner, or has a distance and only solid hops, or surely holds a learned route
abbrev pub HasSureRoute : View → ℕ → Type 0
HasSureRoute view u = (view.owner u ≡ true) ⊎ ((view.has_distance u ≡ true) × ((v : ℕ) → view.hop u v ≡ true → IsSolid view v)) ⊎ (surely_learned view u ≡ true)

-- steps back, going past no owner
abbrev pub reach_leads : View → ℕ → ℕ → Bool
reach_leads view u v = not (view.owner u) && view.back u v

-- steps back and, from a router that has not surely learned, hops; past neither the waypoint nor an owner.
-- Excepting: no steps back from a router that has the waypoint on each path
abbrev pub leads_around : View → ℕ → Bool → ℕ → ℕ → Bool
leads_around view via excepting u v =
    not (u == via) && not (view.owner u) &&
    ((view.back u v && not (excepting && view.must_have u via)) || (not (surely_learned view u) && view.hop u v))

-- excepting where no owner at all may learn
abbrev pub waypoint_leads : View → ℕ → ℕ → ℕ → Bool
waypoint_leads view via = leads_around view via (owners_plain view)

-- traffic of the start may come to u, which has no route that is sure
abbrev pub LacksRoute : View → ℕ → ℕ → Type 0
LacksRoute view start u = IsMember (reach_leads view) start u × (HasSureRoute view u → ⊥)

-- traffic of the start may end at the owner u and not visit the waypoint
abbrev pub Bypasses : View → ℕ → ℕ → ℕ → Type 0
Bypasses view via start u = IsMember (waypoint_leads view via) start u × (view.owner u ≡ true) × (u ≢ via)

-- each kind is implied at the start
abbrev pub IsReachImplied : View → ℕ → Type 0
IsReachImplied view start = (u : ℕ) → IsMember (reach_leads view) start u → HasSureRoute view u

pub record IsIsolationImplied (view : View) (start : ℕ) : Type 0 where
  pub no_owner : view.owner start ≡ false
  pub cannot_learn : view.may_learn start ≡ false
  pub no_distance : view.has_distance start ≡ false

abbrev pub IsWaypointImplied : View → ℕ → ℕ → Type 0
IsWaypointImplied view via start = (u : ℕ) → IsMember (waypoint_leads view via) start u → view.owner u ≡ true → u ≡ via

-- a kind of property; a waypoint is named by its host
abbrev pub IsKindImplied : NetValue → View → ℕ → Kind → Type 0
IsKindImplied net view start Reach = IsReachImplied view start
IsKindImplied net view start Isolated = IsIsolationImplied view start
IsKindImplied net view start (Waypoint host) = (via : ℕ) → router_number net host ≡ Some via → IsWaypointImplied view via start

-- this is what is broken of it: the least router, and of an isolated router the first cause
abbrev pub IsKindBroken : NetValue → View → ℕ → Kind → Broken → Type 0
IsKindBroken net view start Reach (NoSureRoute u) = IsLeast (LacksRoute view start) u
IsKindBroken net view start Isolated IsOwner = view.owner start ≡ true
IsKindBroken net view start Isolated MayLearn = (view.owner start ≡ false) × (view.may_learn start ≡ true)
IsKindBroken net view start Isolated HasOspf = (view.owner start ≡ false) × (view.may_learn start ≡ false) × (view.has_distance start ≡ true)
IsKindBroken net view start (Waypoint host) (Bypass u) = (via : ℕ) × (router_number net host ≡ Some via) × IsLeast (Bypasses view via start) u
IsKindBroken net view start kind broken = ⊥

-- the result implies the property
abbrev pub IsImplied : NetValue → Property → Seq ℕ → CaseValue → Type 0
IsImplied net property failed known =
    (start : ℕ) → router_number net property.router ≡ Some start →
    IsKindImplied net (view_of net property.prefix failed known) start property.kind

-- or this is broken
abbrev pub IsBroken : NetValue → Property → Seq ℕ → CaseValue → Broken → Type 0
IsBroken net property failed known broken =
    (start : ℕ) × (router_number net property.router ≡ Some start) ×
    IsKindBroken net (view_of net property.prefix failed known) start property.kind broken

-- none where the result implies the property, else what is broken first
abbrev pub IsAnswer : NetValue → Property → Seq ℕ → CaseValue → Option Broken → Type 0
IsAnswer net property failed known found =
    MatchOption found (IsImplied net property failed known) (IsBroken net property failed known)

-- with these links failed, the property is true in every stable labelling
abbrev pub HoldsWith : NetValue → Property → Seq ℕ → Type 0
HoldsWith net property failed =
    (start : ℕ) → router_number net property.router ≡ Some start → (labels : Seq (Option Route)) →
    IsStable (problem_of net property.prefix failed (distance_list net property.prefix failed)) labels →
    HasKind net property.prefix failed (distance_list net property.prefix failed) labels start property.kind
