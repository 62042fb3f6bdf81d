-- From the sets to the answer.
use Rattle.std.proofs.Common.{ℕ, ◌≡◌, ◌≢◌, ◌<◌, ◌==◌, ltb, ◌&&◌, ◌⊎◌, inl, inr, Bool, true, false, not, List, Option, Some, None, arith, sym, ◌∙◌, subst, refl}
use Rattle.std.specs.Prelude.{MatchOption}
use Rattle.std.specs.Option.{option_map}
use Rattle.std.proofs.lemmas.Bool.Decides.{nat_tests}
use Rattle.net_types.specs.Sets.{has}
use Rattle.net_types.specs.NetValue.{NetValue}
use Rattle.net_types.specs.Numbering.{router_number}
use Rattle.refine_rounds.specs.Results.{CaseValue}
use Rattle.property_book.specs.declared.property.Kind.TheVariants.{Isolated, Reach, Waypoint}
use Rattle.property_book.specs.declared.property.Property.{Property}
use Rattle.property_book.specs.declared.verdict.Broken.{Broken}
use Rattle.property_book.specs.declared.verdict.Broken.TheVariants.{Bypass, NoSureRoute}
use Rattle.implication.specs.View.{IsInside, View, owners_plain, view_of}
use Rattle.implication.specs.Closed.{IsMember, IsLeast}
use Rattle.implication.specs.Implied.{reach_leads, leads_around, waypoint_leads, Bypasses, IsAnswer, IsKindBroken, IsKindImplied, IsReachImplied, IsWaypointImplied, LacksRoute}
use Rattle.implication.specs.OnTheWay.{IsSetOf, IsReached, AreSolid, has_sure_route, leads}
use Rattle.implication.specs.declared.ways.Way.TheVariants.{Back, Around}
use Rattle.implication.proofs.ReachLemmas.{StaysBelow, stays_below}
use Rattle.net_types.specs.Turns.{set_of}
use Rattle.implication.proofs.SetLemmas.{made, off, true_or_false}
use Rattle.implication.proofs.SolidLemmas.{sure_from, to_sure}

-- what the start leads to is below the count
pub member_below : (leads : ℕ → ℕ → Bool) (count start u : ℕ) → StaysBelow leads count → start < count → IsMember leads start u → u < count
member_below leads count start u stays low member = from_test u count (member (λ x. ltb x count) (record {
  begins = to_test start count low;
  goes_on = λ x y h l. to_test y count (stays.below x y l);
})) where
  from_test : (a b : ℕ) → ltb a b ≡ true → a < b
  from_test a b h = grind (arith, nat_tests)

  to_test : (a b : ℕ) → a < b → ltb a b ≡ true
  to_test a b h = grind (arith, nat_tests)

and_not : (a b : Bool) → (a && not b) ≡ true → (a ≡ true) × (b ≡ false)
and_not a b h = (grind (arith, nat_tests), grind (arith, nat_tests))

not_and : (a b : Bool) → a ≡ true → (b ≡ true → ⊥) → (a && not b) ≡ true
not_and a true h not_b = absurd (not_b refl)
not_and a false h not_b = grind (arith, nat_tests)

-- ---- Reach

pub reach_none : (view : View) (start set solid lacking : ℕ) → IsInside view → start < view.count → IsReached (reach_leads view) start set → AreSolid view solid → IsSetOf (λ u. has set u && not (has_sure_route view solid u)) view.count lacking → ((x : ℕ) → x < 64 → has lacking x ≡ false) → IsReachImplied view start
reach_none view start set solid lacking inside low reached is found none u member =
    let below = member_below (reach_leads view) view.count start u (stays_below view Back inside) low member in
    let few = inside.few in
    elim (true_or_false (has_sure_route view solid u)) [
      | inl sure ↦ sure_from view solid u inside is sure
      | inr unsure ↦ absurd (off (has lacking u) (found.all u below (not_and (has set u) (has_sure_route view solid u) (reached.all u member) (λ sure. off (has_sure_route view solid u) sure unsure))) (none u (omega arith)))
    ]

pub reach_some : (view : View) (start set solid lacking x : ℕ) → IsInside view → start < view.count → IsReached (reach_leads view) start set → AreSolid view solid → IsSetOf (λ u. has set u && not (has_sure_route view solid u)) view.count lacking → IsLeast (λ y. has lacking y ≡ true) x → IsLeast (LacksRoute view start) x
reach_some view start set solid lacking x inside low reached is found least = record {
  has_it =
      let it = and_not (has set x) (has_sure_route view solid x) (found.only x least.has_it).1 in
      (reached.only x it.0, λ sure. off (has_sure_route view solid x) (to_sure view solid x is sure) it.1);
  none_below = λ v l (member, unsure). least.none_below v l (found.all v (member_below (reach_leads view) view.count start v (stays_below view Back inside) low member)
      (not_and (has set v) (has_sure_route view solid v) (reached.all v member) (λ sure. unsure (sure_from view solid v inside is sure))));
}

-- ---- Waypoint

and_other : (a b : Bool) (x y : ℕ) → (a && (b && not (x == y))) ≡ true → (a ≡ true) × (b ≡ true) × (x ≢ y)
and_other a b x y h = (grind (arith, nat_tests), grind (arith, nat_tests), λ e. grind (arith, nat_tests))

other_and : (a b : Bool) (x y : ℕ) → a ≡ true → b ≡ true → x ≢ y → (a && (b && not (x == y))) ≡ true
other_and a b x y h i n = grind (arith, nat_tests)

pub waypoint_none : (view : View) (via start set found : ℕ) → IsInside view → start < view.count → via < view.count → IsReached (waypoint_leads view via) start set → IsSetOf (λ u. has set u && (view.owner u && not (u == via))) view.count found → ((x : ℕ) → x < 64 → has found x ≡ false) → (u : ℕ) → IsMember (waypoint_leads view via) start u → view.owner u ≡ true → u ≡ via
waypoint_none view via start set found inside low is_router reached is none u member owner =
    let below = member_below (waypoint_leads view via) view.count start u (stays_below view (Around via (owners_plain view)) inside) low member in
    let few = inside.few in
    elim (here_or_not u via) [
      | inl same ↦ same
      | inr other ↦ absurd (off (has found u) (is.all u below (other_and (has set u) (view.owner u) u via (reached.all u member) owner other)) (none u (omega arith)))
    ] where
      here_or_not : (a b : ℕ) → (a ≡ b) ⊎ (a ≢ b)
      here_or_not a b = grind arith

pub waypoint_some : (view : View) (via start set found x : ℕ) → IsInside view → start < view.count → via < view.count → IsReached (waypoint_leads view via) start set → IsSetOf (λ u. has set u && (view.owner u && not (u == via))) view.count found → IsLeast (λ y. has found y ≡ true) x → IsLeast (Bypasses view via start) x
waypoint_some view via start set found x inside low is_router reached is least = record {
  has_it =
      let it = and_other (has set x) (view.owner x) x via (is.only x least.has_it).1 in
      (reached.only x it.0, it.1, it.2);
  none_below = λ v l (member, owner, other). least.none_below v l (is.all v (member_below (waypoint_leads view via) view.count start v (stays_below view (Around via (owners_plain view)) inside) low member)
      (other_and (has set v) (view.owner v) v via (reached.all v member) owner other));
}

-- the exception that the code found is the one of the definition
pub reached_around : (view : View) (via start set : ℕ) (excepting : Bool) → excepting ≡ owners_plain view → IsReached (leads_around view via excepting) start set → IsReached (waypoint_leads view via) start set
reached_around view via start set excepting is reached = subst (λ (b : Bool). IsReached (leads_around view via b) start set) is reached

-- ---- the answers

pub reach_answer : (view : View) (start set solid lacking : ℕ) (found : Option ℕ) → IsInside view → start < view.count → IsReached (reach_leads view) start set → AreSolid view solid →
    lacking ≡ set_of (λ u. has set u && not (has_sure_route view solid u)) view.count →
    MatchOption found ((x : ℕ) → x < 64 → has lacking x ≡ false) (λ x. IsLeast (λ y. has lacking y ≡ true) x) →
    MatchOption found (IsReachImplied view start) (IsLeast (LacksRoute view start))
reach_answer view start set solid lacking None inside low reached is lacks none =
    reach_none view start set solid lacking inside low reached is (made (λ u. has set u && not (has_sure_route view solid u)) view.count lacking lacks) none
reach_answer view start set solid lacking (Some x) inside low reached is lacks least =
    reach_some view start set solid lacking x inside low reached is (made (λ u. has set u && not (has_sure_route view solid u)) view.count lacking lacks) least

pub waypoint_answer : (view : View) (via start set around : ℕ) (excepting : Bool) (found : Option ℕ) → IsInside view → start < view.count → via < view.count → excepting ≡ owners_plain view →
    IsReached (leads_around view via excepting) start set → around ≡ set_of (λ u. has set u && (view.owner u && not (u == via))) view.count →
    MatchOption found ((x : ℕ) → x < 64 → has around x ≡ false) (λ x. IsLeast (λ y. has around y ≡ true) x) →
    MatchOption found (IsWaypointImplied view via start) (IsLeast (Bypasses view via start))
waypoint_answer view via start set around excepting None inside low is_router plain reached is none =
    waypoint_none view via start set around inside low is_router (reached_around view via start set excepting plain reached) (made (λ u. has set u && (view.owner u && not (u == via))) view.count around is) none
waypoint_answer view via start set around excepting (Some x) inside low is_router plain reached is least =
    waypoint_some view via start set around x inside low is_router (reached_around view via start set excepting plain reached) (made (λ u. has set u && (view.owner u && not (u == via))) view.count around is) least

-- ---- of a property

start_is : (a b : ℕ) → Some a ≡ Some b → a ≡ b
start_is a b h = cc

pub answer_at : (net : NetValue) (property : Property) (failed : List ℕ) (known : CaseValue) (start : ℕ) (found : Option Broken) → router_number net property.router ≡ Some start →
    MatchOption found (IsKindImplied net (view_of net property.prefix failed known) start property.kind) (IsKindBroken net (view_of net property.prefix failed known) start property.kind) →
    IsAnswer net property failed known found
answer_at net property failed known start None at implied = λ other is.
    subst (λ (x : ℕ). IsKindImplied net (view_of net property.prefix failed known) x property.kind) (start_is start other (sym at ∙ is)) implied
answer_at net property failed known start (Some broken) at is = (start, at, is)

pub answer_nowhere : (net : NetValue) (property : Property) (failed : List ℕ) (known : CaseValue) → router_number net property.router ≡ None → IsAnswer net property failed known None
answer_nowhere net property failed known none = λ start is. absurd (let e : None ≡ Some start = sym none ∙ is in cc)

-- ---- of a kind

pub reach_kind : (net : NetValue) (view : View) (start : ℕ) (found : Option ℕ) → MatchOption found (IsReachImplied view start) (IsLeast (LacksRoute view start)) →
    MatchOption (option_map NoSureRoute found) (IsKindImplied net view start Reach) (IsKindBroken net view start Reach)
reach_kind net view start None is = is
reach_kind net view start (Some u) is = is

pub waypoint_kind : (net : NetValue) (view : View) (via start : ℕ) (host : List ℕ) (found : Option ℕ) → router_number net host ≡ Some via →
    MatchOption found (IsWaypointImplied view via start) (IsLeast (Bypasses view via start)) →
    MatchOption (option_map Bypass found) (IsKindImplied net view start (Waypoint host)) (IsKindBroken net view start (Waypoint host))
waypoint_kind net view via start host None at is = λ other it. subst (λ (x : ℕ). IsWaypointImplied view x start) (start_is via other (sym at ∙ it)) is
waypoint_kind net view via start host (Some u) at is = (via, at, is)

pub isolation_kind : (net : NetValue) (view : View) (start : ℕ) → view.owner start ≡ false → view.may_learn start ≡ false → view.has_distance start ≡ false → IsKindImplied net view start Isolated
isolation_kind net view start owner learn distance = record { no_owner = owner; cannot_learn = learn; no_distance = distance }

pub waypoint_nowhere : (net : NetValue) (view : View) (start : ℕ) (host : List ℕ) → router_number net host ≡ None → IsKindImplied net view start (Waypoint host)
waypoint_nowhere net view start host none = λ via is. absurd (let e : None ≡ Some via = sym none ∙ is in cc)
