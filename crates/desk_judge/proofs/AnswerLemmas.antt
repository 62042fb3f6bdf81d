-- What is worked out to be broken in a case is what the result of the case breaks.
use Rattle.std.proofs.Common.{ℕ, ◌≡◌, ◌<◌, Bool, true, false, cond, nat_lt, length, List, Option, Some, None, arith, refl}
use Rattle.std.specs.Prelude.{MatchOption}
use Rattle.std.specs.List.{position_or_len}
use Rattle.std.proofs.lemmas.Bool.Decides.{nat_tests}
use Rattle.net_types.specs.NetFacts.{IsNet}
use Rattle.net_types.specs.NetValue.{NetValue}
use Rattle.net_types.specs.Numbering.{router_number}
use Rattle.net_types.specs.Order.{same_text}
use Rattle.net_types.specs.declared.network.Router.{Router}
use Rattle.property_book.specs.declared.property.Kind.{Kind}
use Rattle.property_book.specs.declared.property.Kind.TheVariants.{Reach, Isolated, Waypoint}
use Rattle.property_book.specs.declared.property.Property.{Property}
use Rattle.property_book.specs.declared.verdict.Broken.{Broken}
use Rattle.property_book.specs.declared.verdict.Broken.TheVariants.{IsOwner, MayLearn, HasOspf}
use Rattle.refine_rounds.specs.Results.{CaseValue}
use Rattle.implication.specs.View.{IsInside, View, owners_plain, view_of}
use Rattle.implication.specs.Implied.{IsAnswer, IsKindBroken, IsKindImplied, reach_leads, waypoint_leads}
use Rattle.implication.proofs.AnswerLemmas.{answer_at, answer_nowhere, isolation_kind, reach_answer, reach_kind, waypoint_answer, waypoint_kind, waypoint_nowhere}
use Rattle.implication.proofs.ReachLemmas.{around_below, reach_below}
use Rattle.implication.proofs.ViewLemmas.{inside_of}
use Rattle.desk_judge.specs.Answer.{answer_of, asked_at, bypassing, isolation_at, kind_at, lacking, least, reached, solid, waypoint_at}
use Rattle.desk_judge.proofs.SetLemmas.{least_is, reached_is, solid_is}

-- a router's number is below how many there are
place_low : (k n u : ℕ) (test : Bool) → nat_lt k n ≡ test → cond test (Some k) None ≡ Some u → u < n
place_low k n u true less e = let same : k ≡ u = unwrap k u e in let low : k < n = from_test k n less in omega arith where
  unwrap : (x y : ℕ) → Some x ≡ Some y → x ≡ y
  unwrap x y h = cc

  from_test : (x y : ℕ) → nat_lt x y ≡ true → x < y
  from_test x y h = grind (arith, nat_tests)
place_low k n u false less e = absurd (cc)

pub router_low : (net : NetValue) (host : List ℕ) (u : ℕ) → router_number net host ≡ Some u → u < length net.routers
router_low net host u e =
    place_low (position_or_len (λ (router : Router). same_text router.host host) net.routers) (length net.routers) u
    (nat_lt (position_or_len (λ (router : Router). same_text router.host host) net.routers) (length net.routers)) refl e

-- this is the answer on a kind of property
abbrev IsKindAnswer : NetValue → View → ℕ → Kind → Option Broken → Type 0
IsKindAnswer net view start kind found = MatchOption found (IsKindImplied net view start kind) (IsKindBroken net view start kind)

reach_is : (net : NetValue) (view : View) (start : ℕ) → IsInside view → start < view.count → IsKindAnswer net view start Reach (kind_at net view start Reach)
reach_is net view start inside low =
    reach_kind net view start (least (lacking view start))
    (reach_answer view start (reached (reach_leads view) view.count start) (solid view) (lacking view start) (least (lacking view start)) inside low
    (reached_is (reach_leads view) view.count start (reach_below view inside) low) (solid_is view inside) refl (least_is (lacking view start)))

isolation_is : (net : NetValue) (view : View) (start : ℕ) → IsKindAnswer net view start Isolated (isolation_at view start)
isolation_is net view start = go (view.owner start) refl (view.may_learn start) refl (view.has_distance start) refl where
  go : (a : Bool) → view.owner start ≡ a → (b : Bool) → view.may_learn start ≡ b → (c : Bool) → view.has_distance start ≡ c →
      IsKindAnswer net view start Isolated (cond a (Some IsOwner) (cond b (Some MayLearn) (cond c (Some HasOspf) None)))
  go true e b f c g = e
  go false e true f c g = (e, f)
  go false e false f true g = (e, f, g)
  go false e false f false g = isolation_kind net view start e f g

waypoint_is : (net : NetValue) (view : View) (start : ℕ) (host : List ℕ) → IsInside view → start < view.count → view.count ≡ length net.routers →
    IsKindAnswer net view start (Waypoint host) (waypoint_at view start (router_number net host))
waypoint_is net view start host inside low all = go (router_number net host) refl where
  go : (number : Option ℕ) → router_number net host ≡ number → IsKindAnswer net view start (Waypoint host) (waypoint_at view start number)
  go None e = waypoint_nowhere net view start host e
  go (Some via) e =
      let is_router : via < view.count = (let l = router_low net host via e in omega arith) in
      waypoint_kind net view via start host (least (bypassing view via start)) e
      (waypoint_answer view via start (reached (waypoint_leads view via) view.count start) (bypassing view via start) (owners_plain view) (least (bypassing view via start))
      inside low is_router refl (reached_is (waypoint_leads view via) view.count start (around_below view via (owners_plain view) inside) low) refl (least_is (bypassing view via start)))

kind_is : (net : NetValue) (view : View) (start : ℕ) (kind : Kind) → IsInside view → start < view.count → view.count ≡ length net.routers →
    IsKindAnswer net view start kind (kind_at net view start kind)
kind_is net view start Reach inside low all = reach_is net view start inside low
kind_is net view start Isolated inside low all = isolation_is net view start
kind_is net view start (Waypoint host) inside low all = waypoint_is net view start host inside low all

pub answer_is : (net : NetValue) (property : Property) (failed : List ℕ) (known : CaseValue) → IsNet net → IsAnswer net property failed known (answer_of net property failed known)
unfolding answer_of
answer_is net property failed known valid = go (router_number net property.router) refl where
  go : (number : Option ℕ) → router_number net property.router ≡ number → IsAnswer net property failed known (asked_at net (view_of net property.prefix failed known) property.kind number)
  go None e = answer_nowhere net property failed known e
  go (Some start) e =
      answer_at net property failed known start (kind_at net (view_of net property.prefix failed known) start property.kind) e
      (kind_is net (view_of net property.prefix failed known) start property.kind (inside_of net property.prefix failed known valid) (router_low net property.router start e) refl)
