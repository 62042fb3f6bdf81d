-- A link of which no direction is tight may fail: no distance and no tight arc changes.
use Rattle.std.proofs.Common.{ℕ, ◌≡◌, ◌≢◌, ◌<◌, ◌+◌, inl, inr, true, false, List, [], ◌∷◌, length, Option, Some, None, ap, sym, subst, ◌∙◌, refl}
use Rattle.net_types.specs.declared.arcs.Arc.{Arc}
use Rattle.net_types.specs.Distance.{Crosses, IsWalk, IsDistance, AreDistances, distance_at}
use Rattle.net_types.specs.FailSets.{holds}
use Rattle.net_types.specs.NetFacts.{IsNet}
use Rattle.net_types.specs.NetValue.{NetValue}
use Rattle.net_types.specs.PrefixValue.{PrefixValue}
use Rattle.ospf_paths.specs.Laws.{IsTightArc, IsWith, SlackLinksKeepDistances, SlackLinksKeepTightArcs}
use Rattle.ospf_paths.proofs.LawLemmas.{least_walks_go_on, none_at}
use Rattle.ospf_paths.proofs.Passes.{here_or_not}

-- what is crossed with more failed is crossed with less
crosses_fewer : (net : NetValue) (failed more : List ℕ) (link : ℕ) → IsWith failed link more → (arc : Arc) (u v cost : ℕ) → Crosses net more arc u v cost → Crosses net failed arc u v cost
crosses_fewer net failed more link w arc u v cost c = record {
  link = c.link;
  is = c.is;
  adjacency = c.adjacency;
  from = c.from;
  to = c.to;
  costs = c.costs;
  up = elim (here_or_not arc.link link) [
    | inl same ↦ (let e : true ≡ false = sym w.has ∙ subst (λ (n : ℕ). holds more n ≡ false) same c.up in cc)
    | inr other ↦ sym (w.others arc.link other) ∙ c.up
  ];
}

crosses_more : (net : NetValue) (failed more : List ℕ) (link : ℕ) → IsWith failed link more → (arc : Arc) (u v cost : ℕ) → arc.link ≢ link → Crosses net failed arc u v cost → Crosses net more arc u v cost
crosses_more net failed more link w arc u v cost other c = record {
  link = c.link;
  is = c.is;
  adjacency = c.adjacency;
  from = c.from;
  to = c.to;
  costs = c.costs;
  up = w.others arc.link other ∙ c.up;
}

walk_fewer : (net : NetValue) (prefix : PrefixValue) (failed more : List ℕ) (link : ℕ) → IsWith failed link more → (arcs : List Arc) (u sum : ℕ) → IsWalk net prefix more arcs u sum → IsWalk net prefix failed arcs u sum
walk_fewer net prefix failed more link w [] u sum walk = walk
walk_fewer net prefix failed more link w (arc ∷ arcs) u sum (v, cost, rest, c, walk, is) =
    (v, cost, rest, crosses_fewer net failed more link w arc u v cost c, walk_fewer net prefix failed more link w arcs v rest walk, is)

-- a least walk does not cross the link
least_walk_stays : (net : NetValue) (prefix : PrefixValue) (failed more : List ℕ) (link : ℕ) (ds : List (Option ℕ)) → IsNet net → AreDistances net prefix failed ds → IsWith failed link more → ((arc : Arc) → IsTightArc net failed ds arc → arc.link ≢ link) → (arcs : List Arc) (u d : ℕ) → IsWalk net prefix failed arcs u d → distance_at ds u ≡ Some d → IsWalk net prefix more arcs u d
least_walk_stays net prefix failed more link ds valid are w slack [] u d walk at = walk
least_walk_stays net prefix failed more link ds valid are w slack (arc ∷ arcs) u d walk at =
    let n = least_walks_go_on net prefix failed ds valid are arc arcs u d walk at in
    let t = n.2 in
    let i = least_walk_stays net prefix failed more link ds valid are w slack arcs n.0 n.1 n.3 n.4 in
    let sums : Some d ≡ Some (t.cost + t.distance) = sym at ∙ t.near in
    let rests : Some n.1 ≡ Some t.distance = sym n.4 ∙ t.far in
    let a : d ≡ t.cost + t.distance = cc in
    let b : n.1 ≡ t.distance = cc in
    (n.0, t.cost, n.1, crosses_more net failed more link w arc u n.0 t.cost (slack arc (u, n.0, t)) t.crosses, i, a ∙ ap (λ (m : ℕ). t.cost + m) (sym b))

pub slack_links_keep_distances : SlackLinksKeepDistances
slack_links_keep_distances net prefix failed more link ds valid are w slack = record { long = are.long; each = λ u low. go u low (distance_at ds u) refl } where
  go : (u : ℕ) → u < length net.routers → (o : Option ℕ) → distance_at ds u ≡ o → IsDistance net prefix more u o
  go u low None is = λ arcs sum walk. none_at net prefix failed ds are u low is arcs sum (walk_fewer net prefix failed more link w arcs u sum walk)
  go u low (Some d) is =
      let l : IsDistance net prefix failed u (Some d) = subst (λ (o : Option ℕ). IsDistance net prefix failed u o) is (are.each u low) in
      record {
        walk = (l.walk.0, least_walk_stays net prefix failed more link ds valid are w slack l.walk.0 u d l.walk.1 is);
        least = λ arcs sum walk. l.least arcs sum (walk_fewer net prefix failed more link w arcs u sum walk);
      }

pub slack_links_keep_tight_arcs : SlackLinksKeepTightArcs
slack_links_keep_tight_arcs net failed more link ds w slack arc u v = (
  λ t. record { cost = t.cost; crosses = crosses_more net failed more link w arc u v t.cost (slack arc (u, v, t)) t.crosses; distance = t.distance; far = t.far; near = t.near },
  λ t. record { cost = t.cost; crosses = crosses_fewer net failed more link w arc u v t.cost t.crosses; distance = t.distance; far = t.far; near = t.near },
)
