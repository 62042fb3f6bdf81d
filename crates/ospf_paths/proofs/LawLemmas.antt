-- The laws of distances: least walks go over tight arcs, distances fall along them, and are few and small.
use Rattle.std.proofs.Common.{ℕ, zero, suc, ◌≡◌, ◌<◌, ◌≤◌, ◌+◌, ◌-◌, ◌*◌, ◌⊎◌, inl, inr, true, false, List, [], ◌∷◌, length, Option, Some, None, arith, ap, sym, subst, ◌∙◌, refl}
use Rattle.std.proofs.lemmas.List.{ext_get_or, get_or_past}
use Rattle.std.proofs.lemmas.List.Elements.{All-nil, All-cons}
use Rattle.net_types.specs.declared.arcs.Arc.{Arc}
use Rattle.net_types.specs.Distance.{IsWalk, IsLeastSum, IsDistance, AreDistances, distance_at, IsTight, HasHop}
use Rattle.net_types.specs.NetFacts.{IsNet}
use Rattle.net_types.specs.NetValue.{NetValue}
use Rattle.net_types.specs.PrefixValue.{PrefixValue}
use Rattle.ospf_paths.specs.Laws.{FarRoutersHop, TightArcsApproach, IsTightArc, LeastWalksGoOn, LeastWalksAreTight, DistancesAreOne, DistancesAreSmall}
use Rattle.ospf_paths.proofs.Facts.{crossed, stubbed}
use Rattle.ospf_paths.proofs.Passes.{unwrap}

inside_or_not : (u n : ℕ) → (u < n) ⊎ (n ≤ u)
inside_or_not u n = grind arith

-- an entry that is there is a router's
pub at_inside : (ds : List (Option ℕ)) (u d : ℕ) → distance_at ds u ≡ Some d → u < length ds
at_inside ds u d is = elim (inside_or_not u (length ds)) [
  | inl low ↦ low
  | inr past ↦ (let c : None ≡ Some d = sym (get_or_past ds u None past) ∙ is in cc)
]

-- what an entry says
pub least_at : (net : NetValue) (prefix : PrefixValue) (failed : List ℕ) (ds : List (Option ℕ)) → AreDistances net prefix failed ds → (u d : ℕ) → distance_at ds u ≡ Some d → IsLeastSum net prefix failed u d
least_at net prefix failed ds are u d is =
    let low = at_inside ds u d is in
    subst (λ (o : Option ℕ). IsDistance net prefix failed u o) is (are.each u (let e = are.long in omega arith))

pub none_at : (net : NetValue) (prefix : PrefixValue) (failed : List ℕ) (ds : List (Option ℕ)) → AreDistances net prefix failed ds → (u : ℕ) → u < length net.routers → distance_at ds u ≡ None → (arcs : List Arc) (sum : ℕ) → IsWalk net prefix failed arcs u sum → ⊥
none_at net prefix failed ds are u low is =
    subst (λ (o : Option ℕ). IsDistance net prefix failed u o) is (are.each u low)

-- the router after the first arc of a least walk has what the walk has left
same_rest : (cost a b d : ℕ) → a ≤ b → d ≤ cost + a → d ≡ cost + b → b ≡ a
same_rest cost a b d h i j = omega arith

pub least_walks_go_on : LeastWalksGoOn
least_walks_go_on net prefix failed ds valid are arc arcs u d (v, cost, rest, crosses, walk, is) at = go (distance_at ds v) refl where
  go : (o : Option ℕ) → distance_at ds v ≡ o → (w : ℕ) × (m : ℕ) × IsTight net failed ds arc u w × IsWalk net prefix failed arcs w m × (distance_at ds w ≡ Some m)
  go None far = absurd (none_at net prefix failed ds are v (crossed net valid failed arc u v cost crosses).to far arcs rest walk)
  go (Some m) far =
      let l = least_at net prefix failed ds are v m far in
      let n = least_at net prefix failed ds are u d at in
      let same = same_rest cost m rest d (l.least arcs rest walk) (n.least (arc ∷ l.walk.0) (cost + m) (v, cost, m, crosses, l.walk.1, refl)) is in (
        v,
        m,
        record { cost = cost; crosses = crosses; distance = m; far = far; near = at ∙ ap Some (is ∙ ap (λ (n : ℕ). cost + n) same) },
        subst (λ (n : ℕ). IsWalk net prefix failed arcs v n) same walk,
        far,
      )

pub least_walks_are_tight : LeastWalksAreTight
least_walks_are_tight net prefix failed ds valid are [] u d walk at = All-nil (IsTightArc net failed ds)
least_walks_are_tight net prefix failed ds valid are (arc ∷ arcs) u d walk at =
    let n = least_walks_go_on net prefix failed ds valid are arc arcs u d walk at in
    All-cons (IsTightArc net failed ds) arc arcs (u, n.0, n.2) (least_walks_are_tight net prefix failed ds valid are arcs n.0 n.1 n.3 n.4)

pub far_routers_hop : FarRoutersHop
far_routers_hop net prefix failed ds valid are u d at leaves = go (least_at net prefix failed ds are u d at).walk.0 (least_at net prefix failed ds are u d at).walk.1 where
  go : (arcs : List Arc) → IsWalk net prefix failed arcs u d → (v : ℕ) × HasHop net prefix failed ds u v
  go [] walk = let e : true ≡ false = sym (stubbed net valid prefix u d walk).owner ∙ leaves in cc
  go (arc ∷ arcs) walk =
      let n = least_walks_go_on net prefix failed ds valid are arc arcs u d walk at in
      (n.0, (arc, record { tight = n.2; no_owner = leaves }))

pub tight_arcs_approach : TightArcsApproach
tight_arcs_approach net failed ds arc u v near far valid tight at_u at_v =
    let inside = crossed net valid failed arc u v tight.cost tight.crosses in
    let a : near ≡ tight.cost + tight.distance = unwrap near (tight.cost + tight.distance) (sym at_u ∙ tight.near) in
    let b : far ≡ tight.distance = unwrap far tight.distance (sym at_v ∙ tight.far) in
    let c = inside.least in
    omega arith

one_distance : (net : NetValue) (prefix : PrefixValue) (failed : List ℕ) (u : ℕ) (a b : Option ℕ) → IsDistance net prefix failed u a → IsDistance net prefix failed u b → a ≡ b
one_distance net prefix failed u None None x y = refl
one_distance net prefix failed u None (Some b) x y = absurd (x y.walk.0 b y.walk.1)
one_distance net prefix failed u (Some a) None x y = absurd (y x.walk.0 a x.walk.1)
one_distance net prefix failed u (Some a) (Some b) x y = ap Some (let l = x.least y.walk.0 b y.walk.1 in let m = y.least x.walk.0 a x.walk.1 in omega arith)

pub distances_are_one : DistancesAreOne
distances_are_one net prefix failed a b x y =
    ext_get_or None a b (x.long ∙ sym y.long) (λ u low.
    let in_net : u < length net.routers = (let e = x.long in omega arith) in
    one_distance net prefix failed u (distance_at a u) (distance_at b u) (x.each u in_net) (y.each u in_net))

-- how many entries are at most d
unfoldable pub within : ℕ → List (Option ℕ) → ℕ
within d [] = 0
within d (None ∷ ds) = within d ds
within d (Some x ∷ ds) = (1 - (x - d)) + within d ds

pub within_few : (d : ℕ) (ds : List (Option ℕ)) → within d ds ≤ length ds
unfolding within
within_few d [] = omega arith
within_few d (None ∷ ds) = let i = within_few d ds in omega arith
within_few d (Some x ∷ ds) = let i = within_few d ds in omega arith

pub within_some : (ds : List (Option ℕ)) (u d : ℕ) → distance_at ds u ≡ Some d → 1 ≤ within d ds
unfolding within
within_some [] u d is = cc
within_some (None ∷ ds) zero d is = cc
within_some (Some x ∷ ds) zero d is = let e = unwrap x d is in omega arith
within_some (None ∷ ds) (suc u) d is = within_some ds u d is
within_some (Some x ∷ ds) (suc u) d is = let i = within_some ds u d is in omega arith

within_up : (ds : List (Option ℕ)) (m d : ℕ) → m ≤ d → within m ds ≤ within d ds
unfolding within
within_up [] m d le = omega arith
within_up (None ∷ ds) m d le = within_up ds m d le
within_up (Some x ∷ ds) m d le = let i = within_up ds m d le in omega arith

-- an entry counts among those at most itself, and not among those at most less
pub within_less : (ds : List (Option ℕ)) (u m d : ℕ) → distance_at ds u ≡ Some d → m < d → within m ds + 1 ≤ within d ds
unfolding within
within_less [] u m d is less = cc
within_less (None ∷ ds) zero m d is less = cc
within_less (Some x ∷ ds) zero m d is less = let e = unwrap x d is in let i = within_up ds m d (omega arith) in omega arith
within_less (None ∷ ds) (suc u) m d is less = within_less ds u m d is less
within_less (Some x ∷ ds) (suc u) m d is less = let i = within_less ds u m d is less in omega arith

-- a distance is at most the greatest cost for each router that is no farther
walk_small : (net : NetValue) (prefix : PrefixValue) (failed : List ℕ) (ds : List (Option ℕ)) → IsNet net → AreDistances net prefix failed ds → (arcs : List Arc) (u d : ℕ) → IsWalk net prefix failed arcs u d → distance_at ds u ≡ Some d → d ≤ 65535 * within d ds
walk_small net prefix failed ds valid are [] u d walk at = let s = (stubbed net valid prefix u d walk).small in let c = within_some ds u d at in omega arith
walk_small net prefix failed ds valid are (arc ∷ arcs) u d walk at =
    let n = least_walks_go_on net prefix failed ds valid are arc arcs u d walk at in
    let i = walk_small net prefix failed ds valid are arcs n.0 n.1 n.3 n.4 in
    let inside = crossed net valid failed arc u n.0 n.2.cost n.2.crosses in
    let less = tight_arcs_approach net failed ds arc u n.0 d n.1 valid n.2 at n.4 in
    let more = within_less ds u n.1 d at less in
    let near : d ≡ n.2.cost + n.2.distance = unwrap d (n.2.cost + n.2.distance) (sym at ∙ n.2.near) in
    let far : n.1 ≡ n.2.distance = unwrap n.1 n.2.distance (sym n.4 ∙ n.2.far) in
    let least = inside.least in
    let most = inside.most in
    omega arith

pub distances_are_small : DistancesAreSmall
distances_are_small net prefix failed ds valid are u d at =
    let l = least_at net prefix failed ds are u d at in
    let w = walk_small net prefix failed ds valid are l.walk.0 u d l.walk.1 at in
    let few = within_few d ds in let long = are.long in let most = valid.few_routers in
    omega arith

-- the routers of a least walk are ever nearer, so there are no more than have entries
walk_within : (net : NetValue) (prefix : PrefixValue) (failed : List ℕ) (ds : List (Option ℕ)) → IsNet net → AreDistances net prefix failed ds → (arcs : List Arc) (u d : ℕ) → IsWalk net prefix failed arcs u d → distance_at ds u ≡ Some d → length arcs + 1 ≤ within d ds
walk_within net prefix failed ds valid are [] u d walk at = let c = within_some ds u d at in omega arith
walk_within net prefix failed ds valid are (arc ∷ arcs) u d walk at =
    let n = least_walks_go_on net prefix failed ds valid are arc arcs u d walk at in
    let i = walk_within net prefix failed ds valid are arcs n.0 n.1 n.3 n.4 in
    let less = tight_arcs_approach net failed ds arc u n.0 d n.1 valid n.2 at n.4 in
    let more = within_less ds u n.1 d at less in
    omega arith

pub walk_short : (net : NetValue) (prefix : PrefixValue) (failed : List ℕ) (ds : List (Option ℕ)) → IsNet net → AreDistances net prefix failed ds → (arcs : List Arc) (u d : ℕ) → IsWalk net prefix failed arcs u d → distance_at ds u ≡ Some d → length arcs < length ds
walk_short net prefix failed ds valid are arcs u d walk at =
    let w = walk_within net prefix failed ds valid are arcs u d walk at in let f = within_few d ds in omega arith
