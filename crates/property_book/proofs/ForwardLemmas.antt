-- Traffic that goes by next hops alone, since no label is learned, comes nearer with each step, so it is at an owner
-- soon.
use Rattle.std.proofs.Common.{ℕ, ◌≡◌, ◌<◌, ◌≤◌, ◌+◌, ◌*◌, ◌⊎◌, inl, inr, true, false, List, [], ◌∷◌, length, Option, Some, Bool, arith, sym, ◌∙◌, refl}
use Rattle.std.proofs.lemmas.Bool.{false≢true}
use Rattle.net_types.specs.NetFacts.{IsNet}
use Rattle.net_types.specs.NetValue.{NetValue}
use Rattle.net_types.specs.PrefixValue.{PrefixValue}
use Rattle.net_types.specs.Owners.{owns}
use Rattle.net_types.specs.Distance.{AreDistances, distance_at}
use Rattle.net_types.specs.declared.routes.Route.{Route}
use Rattle.ospf_paths.proofs.LawLemmas.{far_routers_hop, tight_arcs_approach, within, within_few, within_some, within_less}
use Rattle.concrete_algebra.specs.Stability.{is_learned, label_at}
use Rattle.property_book.specs.Forwarding.{Forwards, IsForwardWalk, Reaches, last_of}
use Rattle.property_book.specs.Laws.{ReachByOspf}
use Rattle.property_book.proofs.StepLemmas.{others_go_by_hops}

-- no label is learned
abbrev pub NoneLearned : List (Option Route) → Type 0
NoneLearned labels = (u : ℕ) → is_learned (label_at labels u) ≡ false

-- a router owns the prefix or has a distance
abbrev pub Sure : NetValue → PrefixValue → List (Option ℕ) → ℕ → Type 0
Sure net prefix ds u = (owns net u prefix ≡ true) ⊎ ((d : ℕ) × (distance_at ds u ≡ Some d))

-- the next router has a distance, which is less
record IsNearer (net : NetValue) (prefix : PrefixValue) (ds : List (Option ℕ)) (u v : ℕ) : Type 0 where
  near : ℕ
  far : ℕ
  near_is : distance_at ds u ≡ Some near
  far_is : distance_at ds v ≡ Some far
  less : far < near

nearer : (net : NetValue) → IsNet net → (prefix : PrefixValue) (failed : List ℕ) (ds : List (Option ℕ)) (labels : List (Option Route)) → NoneLearned labels → (u v : ℕ) → Forwards net prefix failed ds labels u v → IsNearer net prefix ds u v
nearer net valid prefix failed ds labels none u v f =
    let hop = (others_go_by_hops net prefix failed ds labels u v (none u)).0 f in
    let t = hop.1.tight in
    record {
      near = t.cost + t.distance;
      far = t.distance;
      near_is = t.near;
      far_is = t.far;
      less = tight_arcs_approach net failed ds hop.0 u v (t.cost + t.distance) t.distance valid t t.near t.far;
    }

-- each router of a walk is sure where the first is
last_is_sure : (net : NetValue) → IsNet net → (prefix : PrefixValue) (failed : List ℕ) (ds : List (Option ℕ)) (labels : List (Option Route)) → NoneLearned labels → (walk : List ℕ) (u : ℕ) → Sure net prefix ds u → IsForwardWalk net prefix failed ds labels u walk → Sure net prefix ds (last_of u walk)
last_is_sure net valid prefix failed ds labels none [] u sure w = sure
last_is_sure net valid prefix failed ds labels none (v ∷ more) u sure w =
    let n = nearer net valid prefix failed ds labels none u v w.0 in
    last_is_sure net valid prefix failed ds labels none more v (inr (n.far, n.far_is)) w.1

goes_on : (net : NetValue) → IsNet net → (prefix : PrefixValue) (failed : List ℕ) (ds : List (Option ℕ)) (labels : List (Option Route)) → NoneLearned labels → AreDistances net prefix failed ds → (x : ℕ) → Sure net prefix ds x → owns net x prefix ≡ false → (v : ℕ) × Forwards net prefix failed ds labels x v
goes_on net valid prefix failed ds labels none are x (inl owner) other = absurd (false≢true (sym other ∙ owner))
goes_on net valid prefix failed ds labels none are x (inr (d, is)) other =
    let hop = far_routers_hop net prefix failed ds valid are x d is other in
    (hop.0, (others_go_by_hops net prefix failed ds labels x hop.0 (none x)).1 hop.1)

unwrap : (a b : ℕ) → Some a ≡ Some b → a ≡ b
unwrap a b h = cc

-- a walk of hops has fewer steps than there are routers no farther than its first
walk_within : (net : NetValue) → IsNet net → (prefix : PrefixValue) (failed : List ℕ) (ds : List (Option ℕ)) (labels : List (Option Route)) → NoneLearned labels → (walk : List ℕ) (u d : ℕ) → distance_at ds u ≡ Some d → IsForwardWalk net prefix failed ds labels u walk → length walk + 1 ≤ within d ds
walk_within net valid prefix failed ds labels none [] u d is w = let c = within_some ds u d is in omega arith
walk_within net valid prefix failed ds labels none (v ∷ more) u d is w =
    let n = nearer net valid prefix failed ds labels none u v w.0 in
    let same : d ≡ n.near = unwrap d n.near (sym is ∙ n.near_is) in
    let less : n.far < d = (let l = n.less in omega arith) in
    let i = walk_within net valid prefix failed ds labels none more v n.far n.far_is w.1 in
    let m = within_less ds u n.far d is less in
    omega arith

short : (net : NetValue) → IsNet net → (prefix : PrefixValue) (failed : List ℕ) (ds : List (Option ℕ)) (labels : List (Option Route)) → NoneLearned labels → AreDistances net prefix failed ds → (u : ℕ) → Sure net prefix ds u → (walk : List ℕ) → IsForwardWalk net prefix failed ds labels u walk → owns net (last_of u walk) prefix ≡ false → length walk < 2 * length net.routers
short net valid prefix failed ds labels none are u (inl owner) [] w other = absurd (false≢true (sym other ∙ owner))
short net valid prefix failed ds labels none are u (inl owner) (v ∷ more) w other = absurd (false≢true (sym w.0.no_owner ∙ owner))
short net valid prefix failed ds labels none are u (inr (d, is)) walk w other =
    let a = walk_within net valid prefix failed ds labels none walk u d is w in
    let b = within_few d ds in
    let c = are.long in
    omega arith

pub reaches : (net : NetValue) → IsNet net → (prefix : PrefixValue) (failed : List ℕ) (ds : List (Option ℕ)) (labels : List (Option Route)) → NoneLearned labels → AreDistances net prefix failed ds → (u : ℕ) → Sure net prefix ds u → Reaches net prefix failed ds labels u
reaches net valid prefix failed ds labels none are u sure = record {
  not_stuck = λ walk w other. goes_on net valid prefix failed ds labels none are (last_of u walk) (last_is_sure net valid prefix failed ds labels none walk u sure w) other;
  soon = λ walk w other. short net valid prefix failed ds labels none are u sure walk w other;
}

-- who reaches without learned labels is sure
pub sure_by_reach : (net : NetValue) (prefix : PrefixValue) (failed : List ℕ) (ds : List (Option ℕ)) (labels : List (Option Route)) → NoneLearned labels → (u : ℕ) → Reaches net prefix failed ds labels u → Sure net prefix ds u
sure_by_reach net prefix failed ds labels none u r = go (owns net u prefix) refl where
  go : (b : Bool) → owns net u prefix ≡ b → Sure net prefix ds u
  go true owner = inl owner
  go false other =
      let next = r.not_stuck [] tt other in
      let hop = (others_go_by_hops net prefix failed ds labels u next.0 (none u)).0 next.1 in
      inr (hop.1.tight.cost + hop.1.tight.distance, hop.1.tight.near)

pub reach_by_ospf : ReachByOspf
reach_by_ospf net prefix failed ds labels u valid are none = (
  (λ r. sure_by_reach net prefix failed ds labels none u r),
  (λ sure. reaches net valid prefix failed ds labels none are u sure),
)
