-- What more failed links do to distances, and that neither end of a link is special.
use Rattle.std.proofs.Common.{ℕ, zero, suc, ◌≡◌, ◌≢◌, ◌<◌, ◌≤◌, ◌==◌, ◌||◌, Bool, true, false, not, cond, List, [], ◌∷◌, length, map, Option, Some, None, option_map, option_and_then, slice_get, get_or, Contains, arith, ap, sym, subst, ◌∙◌, refl}
use Rattle.std.proofs.lemmas.Option.{slice_get-map}
use Rattle.net_types.specs.declared.arcs.Arc.{Arc}
use Rattle.net_types.specs.declared.network.Link.{Link}
use Rattle.net_types.specs.declared.network.Router.{Router}
use Rattle.net_types.specs.Arcs.{from_end, to_end}
use Rattle.net_types.specs.Distance.{Crosses, IsWalk, IsDistance, AreDistances, distance_at}
use Rattle.net_types.specs.FailSets.{holds, without}
use Rattle.net_types.specs.NetValue.{NetValue}
use Rattle.net_types.specs.Owners.{stub_of, stub_cost}
use Rattle.net_types.specs.PrefixValue.{PrefixValue}
use Rattle.ospf_paths.specs.Laws.{HeldLinksComeBack, FailuresLengthen, LacksLinks, FailingIsLacking, turned, EndsAreAlike}
use Rattle.ospf_paths.proofs.LawLemmas.{at_inside, least_at, none_at}

-- a link that is not the one taken out stays
holds_others : (set : List ℕ) (link other : ℕ) → other ≢ link → holds set other ≡ holds (without set link) other
holds_others [] link other differ = refl
holds_others (x ∷ set) link other differ = go (x == link) refl (holds_others set link other differ) where
  go : (b : Bool) → (x == link) ≡ b → holds set other ≡ holds (without set link) other → ((x == other) || holds set other) ≡ holds (cond (not b) (x ∷ without set link) (without set link)) other
  go true e later = grind arith
  go false e later = ap (λ b. (x == other) || b) later

pub held_links_come_back : HeldLinksComeBack
held_links_come_back set link held = record { has = held; others = λ other differ. holds_others set link other differ }

up_before : (failed more : List ℕ) → ((link : ℕ) → holds failed link ≡ true → holds more link ≡ true) → (link : ℕ) → holds more link ≡ false → holds failed link ≡ false
up_before failed more fewer link up = go (holds failed link) refl where
  go : (b : Bool) → holds failed link ≡ b → holds failed link ≡ false
  go true e = let c : true ≡ false = sym (fewer link e) ∙ up in cc
  go false e = e

-- a walk with more links failed is one with fewer failed
walk_before : (net : NetValue) (prefix : PrefixValue) (failed more : List ℕ) → ((link : ℕ) → holds failed link ≡ true → holds more link ≡ true) → (arcs : List Arc) (u sum : ℕ) → IsWalk net prefix more arcs u sum → IsWalk net prefix failed arcs u sum
walk_before net prefix failed more fewer [] u sum walk = walk
walk_before net prefix failed more fewer (arc ∷ arcs) u sum (v, cost, rest, c, walk, is) =
    (v, cost, rest, record { link = c.link; is = c.is; adjacency = c.adjacency; up = up_before failed more fewer arc.link c.up; from = c.from; to = c.to; costs = c.costs }, walk_before net prefix failed more fewer arcs v rest walk, is)

pub failures_lengthen : FailuresLengthen
failures_lengthen net prefix failed more before after are are_after fewer u far at = go (distance_at before u) refl where
  l : (arcs : List Arc) × IsWalk net prefix failed arcs u far
  l = let w = (least_at net prefix more after are_after u far at).walk in (w.0, walk_before net prefix failed more fewer w.0 u far w.1)

  inside : u < length net.routers
  inside = let i = at_inside after u far at in let e = are_after.long in omega arith

  go : (o : Option ℕ) → distance_at before u ≡ o → (near : ℕ) × (distance_at before u ≡ Some near) × (near ≤ far)
  go None e = absurd (none_at net prefix failed before are u inside e l.0 far l.1)
  go (Some near) e = (near, e, (least_at net prefix failed before are u near e).least l.0 far l.1)

-- each walk of the one network has one of its sum in the other
abbrev Follows : PrefixValue → NetValue → List ℕ → NetValue → List ℕ → Type 0
Follows prefix net failed other down = (arcs : List Arc) (u sum : ℕ) → IsWalk net prefix failed arcs u sum → (ways : List Arc) × IsWalk other prefix down ways u sum

same_distance : (prefix : PrefixValue) (net : NetValue) (failed : List ℕ) (other : NetValue) (down : List ℕ) → Follows prefix net failed other down → Follows prefix other down net failed → (u : ℕ) (o : Option ℕ) → IsDistance net prefix failed u o → IsDistance other prefix down u o
same_distance prefix net failed other down there back u None h = λ arcs sum walk. let w = back arcs u sum walk in h w.0 sum w.1
same_distance prefix net failed other down there back u (Some d) h = record {
  walk = there h.walk.0 u d h.walk.1;
  least = λ arcs sum walk. let w = back arcs u sum walk in h.least w.0 sum w.1;
}

same_distances : (prefix : PrefixValue) (net : NetValue) (failed : List ℕ) (other : NetValue) (down : List ℕ) → other.routers ≡ net.routers → Follows prefix net failed other down → Follows prefix other down net failed → (ds : List (Option ℕ)) → AreDistances net prefix failed ds → AreDistances other prefix down ds
same_distances prefix net failed other down same there back ds are = record {
  long = are.long ∙ ap (λ (rs : List Router). length rs) (sym same);
  each = λ u low. same_distance prefix net failed other down there back u (distance_at ds u) (are.each u (subst (λ (rs : List Router). u < length rs) same low));
}

same_stub : (net other : NetValue) (prefix : PrefixValue) (u : ℕ) → other.routers ≡ net.routers → stub_cost other prefix u ≡ stub_cost net prefix u
same_stub net other prefix u same = ap (λ (rs : List Router). option_and_then (λ router. stub_of prefix router.owned) (slice_get rs u)) same

-- what a failure set holds is in it
held : (set : List ℕ) (link : ℕ) → holds set link ≡ true → Contains set link
held [] link h = cc
held (x ∷ set) link h = go (x == link) refl h (λ t. held set link t) where
  go : (b : Bool) → (x == link) ≡ b → (b || holds set link) ≡ true → (holds set link ≡ true → Contains set link) → Contains (x ∷ set) link
  go true e t later = (zero, omega arith, grind arith)
  go false e t later = let c = later t in (suc c.0, omega (arith, c.1), c.2)

holds-from : (set : List ℕ) (link : ℕ) → Contains set link → holds set link ≡ true
holds-from [] link c = absurd (omega (arith, c.1))
holds-from (x ∷ set) link c = go c.0 c.1 c.2 (λ k l e. holds-from set link (k, l, e)) where
  go : (k : ℕ) → k < length (x ∷ set) → get_or (x ∷ set) k link ≡ link → ((k : ℕ) → k < length set → get_or set k link ≡ link → holds set link ≡ true) → ((x == link) || holds set link) ≡ true
  go zero l e later = grind arith
  go (suc k) l e later = rw (later k (omega arith) e) grind arith

crosses_lacking : (net other : NetValue) (failed : List ℕ) → LacksLinks net failed other → (arc : Arc) (u v cost : ℕ) → Crosses net failed arc u v cost → Crosses other [] arc u v cost
crosses_lacking net other failed lacks arc u v cost c = record {
  link = c.link;
  is = lacks.kept arc.link c.link c.is (λ h. let e : true ≡ false = sym (holds-from failed arc.link h) ∙ c.up in cc);
  adjacency = c.adjacency;
  up = refl;
  from = c.from;
  to = c.to;
  costs = c.costs;
}

crosses_failed : (net other : NetValue) (failed : List ℕ) → LacksLinks net failed other → (arc : Arc) (u v cost : ℕ) → Crosses other [] arc u v cost → Crosses net failed arc u v cost
crosses_failed net other failed lacks arc u v cost c = go (slice_get net.links arc.link) refl (holds failed arc.link) refl where
  go : (o : Option Link) → slice_get net.links arc.link ≡ o → (b : Bool) → holds failed arc.link ≡ b → Crosses net failed arc u v cost
  go None e b h = let none : Some c.link ≡ None = sym c.is ∙ lacks.past arc.link e in cc
  go (Some link) e true h =
      let is : Some c.link ≡ Some (record link { adjacency = false }) = sym c.is ∙ lacks.lacking arc.link link e (held failed arc.link h) in
      let same : c.link ≡ record link { adjacency = false } = cc in
      let none : true ≡ false = sym c.adjacency ∙ ap (λ (l : Link). l.adjacency) same in
      cc
  go (Some link) e false h =
      let is : Some c.link ≡ Some link = sym c.is ∙ lacks.kept arc.link link e (λ k. let none : true ≡ false = sym (holds-from failed arc.link k) ∙ h in cc) in
      let same : c.link ≡ link = cc in
      record { link = c.link; is = e ∙ ap Some (sym same); adjacency = c.adjacency; up = h; from = c.from; to = c.to; costs = c.costs }

there_lacking : (net other : NetValue) (prefix : PrefixValue) (failed : List ℕ) → LacksLinks net failed other → (arcs : List Arc) (u sum : ℕ) → IsWalk net prefix failed arcs u sum → IsWalk other prefix [] arcs u sum
there_lacking net other prefix failed lacks [] u sum walk = same_stub net other prefix u lacks.routers ∙ walk
there_lacking net other prefix failed lacks (arc ∷ arcs) u sum (v, cost, rest, c, walk, is) =
    (v, cost, rest, crosses_lacking net other failed lacks arc u v cost c, there_lacking net other prefix failed lacks arcs v rest walk, is)

back_failed : (net other : NetValue) (prefix : PrefixValue) (failed : List ℕ) → LacksLinks net failed other → (arcs : List Arc) (u sum : ℕ) → IsWalk other prefix [] arcs u sum → IsWalk net prefix failed arcs u sum
back_failed net other prefix failed lacks [] u sum walk = sym (same_stub net other prefix u lacks.routers) ∙ walk
back_failed net other prefix failed lacks (arc ∷ arcs) u sum (v, cost, rest, c, walk, is) =
    (v, cost, rest, crosses_failed net other failed lacks arc u v cost c, back_failed net other prefix failed lacks arcs v rest walk, is)

pub failing_is_lacking : FailingIsLacking
failing_is_lacking net other prefix failed ds lacks = (
  λ are. same_distances prefix net failed other [] lacks.routers there back ds are,
  λ are. same_distances prefix other [] net failed (sym lacks.routers) back there ds are,
) where
  there : Follows prefix net failed other []
  there arcs u sum walk = (arcs, there_lacking net other prefix failed lacks arcs u sum walk)

  back : Follows prefix other [] net failed
  back arcs u sum walk = (arcs, back_failed net other prefix failed lacks arcs u sum walk)

-- an arc in the other direction
abbrev other_way : Arc → Arc
other_way arc = record arc { down = not arc.down }

turned_ends : (down : Bool) (link : Link) → (from_end (not down) (turned link) ≡ from_end down link) × (to_end (not down) (turned link) ≡ to_end down link)
turned_ends false link = (refl, refl)
turned_ends true link = (refl, refl)

crosses_turned : (net other : NetValue) (failed : List ℕ) → other.links ≡ map turned net.links → (arc : Arc) (u v cost : ℕ) → Crosses net failed arc u v cost → Crosses other failed (other_way arc) u v cost
crosses_turned net other failed links arc u v cost c =
    let ends = turned_ends arc.down c.link in
    record {
      link = turned c.link;
      is = ap (λ (ls : List Link). slice_get ls arc.link) links ∙ slice_get-map turned net.links arc.link ∙ ap (λ (o : Option Link). option_map turned o) c.is;
      adjacency = c.adjacency;
      up = c.up;
      from = rw ends.0 c.from;
      to = rw ends.1 c.to;
      costs = rw ends.0 c.costs;
    }

walk_turned : (net other : NetValue) (prefix : PrefixValue) (failed : List ℕ) → other.routers ≡ net.routers → other.links ≡ map turned net.links → (arcs : List Arc) (u sum : ℕ) → IsWalk net prefix failed arcs u sum → IsWalk other prefix failed (map other_way arcs) u sum
walk_turned net other prefix failed routers links [] u sum walk = same_stub net other prefix u routers ∙ walk
walk_turned net other prefix failed routers links (arc ∷ arcs) u sum (v, cost, rest, c, walk, is) =
    (v, cost, rest, crosses_turned net other failed links arc u v cost c, walk_turned net other prefix failed routers links arcs v rest walk, is)

turned_twice : (links : List Link) → map turned (map turned links) ≡ links
turned_twice [] = refl
turned_twice (link ∷ links) = ap (λ (ls : List Link). link ∷ ls) (turned_twice links)

pub ends_are_alike : EndsAreAlike
ends_are_alike net other prefix failed ds routers links are =
    same_distances prefix net failed other failed routers
    (λ arcs u sum walk. (map other_way arcs, walk_turned net other prefix failed routers links arcs u sum walk))
    (λ arcs u sum walk. (map other_way arcs, walk_turned other net prefix failed (sym routers) (sym (ap (λ (ls : List Link). map turned ls) links ∙ turned_twice net.links)) arcs u sum walk))
    ds are
