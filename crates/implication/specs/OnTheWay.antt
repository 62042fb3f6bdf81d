-- What private functions promise each other.
use Rattle.std.specs.Prelude.{ℕ, ◌≡◌, ◌<◌, Bool, true, ◌&&◌, ◌||◌, not, All, List as Seq, Some}
use Rattle.std.specs.List.{slice_get}
use Rattle.net_types.specs.Sets.{has}
use Rattle.abstract_maps.specs.AbstractMap.{IsShort}
use Rattle.implication.specs.declared.cases.Case.{Case}
use Rattle.implication.specs.declared.seen.Seen.{Seen}
use Rattle.implication.specs.declared.ways.Way.{Way}
use Rattle.implication.specs.declared.ways.Way.TheVariants.{Back, Around}
use Rattle.implication.specs.View.{IsInside, View, every_below, surely_learned, view_of}
use Rattle.implication.specs.Closed.{IsMember}
use Rattle.implication.specs.Implied.{IsSolid, leads_around, reach_leads}

-- the view of a case, and of what is seen of it
abbrev pub view_case : Case → View
view_case case = view_of case.net.now case.prefix case.failed.now case.known.now

abbrev pub view_seen : Seen → View
view_seen seen = view_of seen.net.now seen.prefix seen.failed.now seen.known.now

-- its hops and steps back go to routers, and its rows are short enough for transfers
pub record IsCase (case : Case) : Type 0 where
  pub inside : IsInside (view_case case)
  pub short : All IsShort case.known.now.rows

-- the set of the numbers below k that pass the test
pub record IsSetOf (test : ℕ → Bool) (k set : ℕ) : Type 0 where
  pub only : (x : ℕ) → has set x ≡ true → (x < k) × (test x ≡ true)
  pub all : (x : ℕ) → x < k → test x ≡ true → has set x ≡ true

-- the sets of the next hops of each router, and of the routers that steps back go to
pub record AreNear (view : View) (hops backs : Seq ℕ) : Type 0 where
  pub hop : (u set : ℕ) → u < view.count → slice_get hops u ≡ Some set → IsSetOf (view.hop u) view.count set
  pub back : (u set : ℕ) → u < view.count → slice_get backs u ≡ Some set → IsSetOf (view.back u) view.count set

-- what is seen of a case, with where one step leads
pub record IsSeen (seen : Seen) : Type 0 where
  pub inside : IsInside (view_seen seen)
  pub short : All IsShort seen.known.now.rows
  pub near : AreNear (view_seen seen) seen.nearby.now.hops seen.nearby.now.backs

-- the set with the numbers that pass the test
pub record IsWith (test : ℕ → Bool) (before after : ℕ) : Type 0 where
  pub members : (x : ℕ) → has after x ≡ (has before x || test x)

-- the set of what the members below k lead to, of the numbers below the count
pub record AreAfter (leads : ℕ → ℕ → Bool) (count before k set : ℕ) : Type 0 where
  pub only : (v : ℕ) → has set v ≡ true → (v < count) × ((u : ℕ) × (has before u ≡ true) × (leads u v ≡ true))
  pub all : (u v : ℕ) → u < k → v < count → has before u ≡ true → leads u v ≡ true → has set v ≡ true

-- the set has what is in every closed set, and nothing else
pub record IsReached (leads : ℕ → ℕ → Bool) (start set : ℕ) : Type 0 where
  pub only : (u : ℕ) → has set u ≡ true → IsMember leads start u
  pub all : (u : ℕ) → IsMember leads start u → has set u ≡ true

-- all hops of u are in the set
abbrev pub hops_in : View → ℕ → ℕ → Bool
hops_in view set u = every_below view.count (λ v. not (view.hop u v) || has set v)

-- u may stay in a set whose members are to be solid
abbrev pub stays : View → ℕ → ℕ → Bool
stays view set u = view.owner u || (not (view.may_learn u) && view.has_distance u && hops_in view set u)

-- the set has the solid routers, and nothing else
pub record AreSolid (view : View) (set : ℕ) : Type 0 where
  pub only : (u : ℕ) → has set u ≡ true → IsSolid view u
  pub all : (u : ℕ) → u < view.count → IsSolid view u → has set u ≡ true

-- u is an owner, or has a distance and only hops in the set, or surely holds a learned route
abbrev pub has_sure_route : View → ℕ → ℕ → Bool
has_sure_route view solid u = view.owner u || (view.has_distance u && hops_in view solid u) || surely_learned view u

-- how a set grows
abbrev pub leads : View → Way → ℕ → ℕ → Bool
leads view Back = reach_leads view
leads view (Around via excepting) = leads_around view via excepting

abbrev pub IsWayInside : View → Way → Type 0
IsWayInside view Back = Unit {0}
IsWayInside view (Around via excepting) = via < view.count
