-- What the passes over the links keep, and that entries which no arc shortens are the distances.
use Rattle.std.proofs.Common.{ℕ, zero, suc, ◌≡◌, ◌≢◌, ◌<◌, ◌≤◌, ◌+◌, ◌*◌, ◌||◌, ◌⊎◌, inl, inr, Bool, true, false, List, [], ◌∷◌, length, take, drop, ◌++◌, Option, Some, None, set, arith, sym, subst, ◌∙◌, refl, get_or-set_same, get_or-set_other}
use Rattle.std.proofs.lemmas.Grind.{common_steps}
use Rattle.std.proofs.lemmas.List.{length-set, length-map}
use Rattle.net_types.specs.declared.arcs.Arc.{Arc}
use Rattle.net_types.specs.Distance.{Crosses, IsWalk, IsDistance, AreDistances, distance_at}
use Rattle.net_types.specs.NetFacts.{IsNet}
use Rattle.net_types.specs.NetValue.{NetValue}
use Rattle.net_types.specs.declared.network.Router.{Router}
use Rattle.net_types.specs.Owners.{stub_of}
use Rattle.net_types.specs.PrefixValue.{PrefixValue}
use Rattle.ospf_paths.specs.OnTheWay.{stub_costs, present, weight, AreBounded, AreSums, IsSettled, Lowered, Shortens, Leaves, Visited, Passed}
use Rattle.ospf_paths.proofs.Facts.{IsInside, crossed, crossed_once, stubbed, stub_costs_at}

-- entries that no arc shortens are at most the sums of walks
reached : (net : NetValue) (prefix : PrefixValue) (failed : List ℕ) (ds : List (Option ℕ)) → AreSums net prefix failed ds → ((arc : Arc) → IsSettled net failed ds arc) → (arcs : List Arc) (u sum : ℕ) → IsWalk net prefix failed arcs u sum → (d : ℕ) × (distance_at ds u ≡ Some d) × (d ≤ sum)
reached net prefix failed ds sums settled [] u sum walk = sums.stub u sum walk
reached net prefix failed ds sums settled (arc ∷ arcs) u sum (v, cost, rest, crosses, walk, is) =
    let i = reached net prefix failed ds sums settled arcs v rest walk in
    let s = settled arc u v cost i.0 crosses i.1 in
    (s.0, s.1, (let a = s.2 in let b = i.2 in omega arith))

pub unwrap : (a b : ℕ) → Some a ≡ Some b → a ≡ b
unwrap a b h = cc

pub settled_are_distances : (net : NetValue) (prefix : PrefixValue) (failed : List ℕ) (ds : List (Option ℕ)) → AreBounded net ds → AreSums net prefix failed ds → ((arc : Arc) → IsSettled net failed ds arc) → AreDistances net prefix failed ds
settled_are_distances net prefix failed ds bounded sums settled = record { long = bounded.long; each = λ u low. go u (distance_at ds u) refl } where
  go : (u : ℕ) → (o : Option ℕ) → distance_at ds u ≡ o → IsDistance net prefix failed u o
  go u None is = λ arcs sum walk. (let r = reached net prefix failed ds sums settled arcs u sum walk in let c : None ≡ Some r.0 = sym is ∙ r.1 in cc)
  go u (Some d) is = record {
    walk = sums.walk u d is;
    least = λ arcs sum walk. (let r = reached net prefix failed ds sums settled arcs u sum walk in let e : d ≡ r.0 = unwrap d r.0 (sym is ∙ r.1) in let l = r.2 in omega arith);
  }

pub here_or_not : (u v : ℕ) → (u ≡ v) ⊎ (u ≢ v)
here_or_not u v = grind arith

-- a write that puts a lesser entry, or one where there was none
present_up : (ds : List (Option ℕ)) (u d : ℕ) → present ds ≤ present (set ds u (Some d))
unfolding present
present_up [] u d = omega arith
present_up (None ∷ ds) zero d = omega arith
present_up (Some x ∷ ds) zero d = omega arith
present_up (None ∷ ds) (suc u) d = present_up ds u d
present_up (Some x ∷ ds) (suc u) d = let i = present_up ds u d in omega arith

present_more : (ds : List (Option ℕ)) (u d : ℕ) → u < length ds → distance_at ds u ≡ None → present (set ds u (Some d)) ≡ 1 + present ds
unfolding present
present_more [] u d low none = absurd (omega arith)
present_more (None ∷ ds) zero d low none = refl
present_more (Some x ∷ ds) zero d low none = cc
present_more (None ∷ ds) (suc u) d low none = present_more ds u d (omega arith) none
present_more (Some x ∷ ds) (suc u) d low none = let i = present_more ds u d (omega arith) none in omega arith

-- an entry that is there counts
present_some : (ds : List (Option ℕ)) (u d : ℕ) → distance_at ds u ≡ Some d → 1 ≤ present ds
unfolding present
present_some [] u d is = cc
present_some (None ∷ ds) zero d is = cc
present_some (Some x ∷ ds) zero d is = omega arith
present_some (None ∷ ds) (suc u) d is = present_some ds u d is
present_some (Some x ∷ ds) (suc u) d is = omega arith

present_few : (ds : List (Option ℕ)) → present ds ≤ length ds
unfolding present
present_few [] = omega arith
present_few (None ∷ ds) = let i = present_few ds in omega arith
present_few (Some d ∷ ds) = let i = present_few ds in omega arith

weight_falls : (ds : List (Option ℕ)) (u d : ℕ) → u < length ds → d < 4294967296 → ((x : ℕ) → distance_at ds u ≡ Some x → d < x) → weight (set ds u (Some d)) < weight ds
unfolding weight
weight_falls [] u d low small less = absurd (omega arith)
weight_falls (None ∷ ds) zero d low small less = omega arith
weight_falls (Some x ∷ ds) zero d low small less = let l = less x refl in omega arith
weight_falls (None ∷ ds) (suc u) d low small less = let i = weight_falls ds u d (omega arith) small less in omega arith
weight_falls (Some x ∷ ds) (suc u) d low small less = let i = weight_falls ds u d (omega arith) small less in omega arith

at_same : (ds : List (Option ℕ)) (u : ℕ) (o : Option ℕ) → u < length ds → distance_at (set ds u o) u ≡ o
at_same ds u o h = get_or-set_same ds u o None h

at_other : (ds : List (Option ℕ)) (u v : ℕ) (o : Option ℕ) → v ≢ u → distance_at (set ds u o) v ≡ distance_at ds v
at_other ds u v o h = get_or-set_other ds u v o None h

-- the entry that was written, and any other one
at_new : (ds : List (Option ℕ)) (u v sum d : ℕ) → u < length ds → v ≡ u → distance_at (set ds u (Some sum)) v ≡ Some d → d ≡ sum
at_new ds u v sum d low same is = unwrap d sum (sym (subst (λ (w : ℕ). distance_at (set ds u (Some sum)) w ≡ Some d) same is) ∙ at_same ds u (Some sum) low)

-- entries of a network are below 2 ^ 32
pub bounded_small : (net : NetValue) → IsNet net → (ds : List (Option ℕ)) → AreBounded net ds → (u d : ℕ) → distance_at ds u ≡ Some d → d < 4294967296
bounded_small net valid ds bounded u d is =
    let b = bounded.bound u d is in let p = present_few ds in let l = bounded.long in let f = valid.few_routers in omega arith

-- the stub costs are the first entries
pub start_bounded : (net : NetValue) → IsNet net → (prefix : PrefixValue) → AreBounded net (stub_costs prefix net.routers)
start_bounded net valid prefix = record {
  long = length-map net.routers (λ (router : Router). stub_of prefix router.owned);
  bound = λ u d is. (let s = (stubbed net valid prefix u d (sym (stub_costs_at net prefix u) ∙ is)).small in let p = present_some (stub_costs prefix net.routers) u d is in omega arith);
}

pub start_sums : (net : NetValue) (prefix : PrefixValue) (failed : List ℕ) → AreSums net prefix failed (stub_costs prefix net.routers)
start_sums net prefix failed = record {
  walk = λ u d is. ([], sym (stub_costs_at net prefix u) ∙ is);
  stub = λ u cost is. (cost, stub_costs_at net prefix u ∙ is, (omega arith));
}

-- a lowered entry keeps the bound
pub lowered_bounded : (net : NetValue) → IsNet net → (failed : List ℕ) (arc : Arc) (xs ys : List (Option ℕ)) → AreBounded net xs → Shortens net failed arc xs ys → AreBounded net ys
lowered_bounded net valid failed arc xs ys bounded s = rw s.lowers.set (record {
  long = length-set xs u (Some sum) ∙ bounded.long;
  bound = λ v d is. elim (here_or_not v u) [
    | inl same ↦ let eq = at_new xs u v sum d low same is in (let b = here_bound (distance_at xs u) refl in omega arith)
    | inr other ↦ let i = bounded.bound v d (sym (at_other xs u v (Some sum) other) ∙ is) in let p = present_up xs u sum in omega arith
  ];
}) where
  u : ℕ
  u = s.from

  sum : ℕ
  sum = s.cost + s.lowers.far

  inside : IsInside net arc s.from s.to s.cost
  inside = crossed net valid failed arc s.from s.to s.cost s.crosses

  low : s.from < length xs
  low = let a = inside.from in let b = bounded.long in omega arith

  here_bound : (o : Option ℕ) → distance_at xs s.from ≡ o → s.cost + s.lowers.far ≤ 65535 * present (set xs s.from (Some (s.cost + s.lowers.far)))
  here_bound None is = let p = present_more xs s.from (s.cost + s.lowers.far) low is in let m = bounded.bound s.to s.lowers.far s.lowers.is in let c = inside.most in omega arith
  here_bound (Some x) is = let l = s.lowers.less x is in let m = bounded.bound s.from x is in let p = present_up xs s.from (s.cost + s.lowers.far) in omega arith

-- and each entry stays a walk's sum
lowered_sums : (net : NetValue) → IsNet net → (failed : List ℕ) (arc : Arc) (xs ys : List (Option ℕ)) → AreBounded net xs → Shortens net failed arc xs ys → (prefix : PrefixValue) → AreSums net prefix failed xs → AreSums net prefix failed ys
lowered_sums net valid failed arc xs ys bounded s prefix sums = rw s.lowers.set (record {
  walk = λ v d is. elim (here_or_not v u) [
    | inl same ↦
        let w = sums.walk s.to s.lowers.far s.lowers.is in
        (arc ∷ w.0, subst (λ (x : ℕ). IsWalk net prefix failed (arc ∷ w.0) x d) (sym same) (s.to, s.cost, s.lowers.far, s.crosses, w.1, at_new xs u v sum d low same is))
    | inr other ↦ sums.walk v d (sym (at_other xs u v (Some sum) other) ∙ is)
  ];
  stub = λ v cost is. elim (here_or_not v u) [
    | inl same ↦
        let o = sums.stub v cost is in
        let l = s.lowers.less o.0 (subst (λ (w : ℕ). distance_at xs w ≡ Some o.0) same o.1) in
        (sum, rw same (at_same xs u (Some sum) low), (let a = o.2 in omega arith))
    | inr other ↦ let o = sums.stub v cost is in (o.0, at_other xs u v (Some sum) other ∙ o.1, o.2)
  ];
}) where
  u : ℕ
  u = s.from

  sum : ℕ
  sum = s.cost + s.lowers.far

  low : s.from < length xs
  low = let a = (crossed net valid failed arc s.from s.to s.cost s.crosses).from in let b = bounded.long in omega arith

lowered_falls : (net : NetValue) → IsNet net → (failed : List ℕ) (arc : Arc) (xs ys : List (Option ℕ)) → AreBounded net xs → Shortens net failed arc xs ys → weight ys < weight xs
lowered_falls net valid failed arc xs ys bounded s =
    let inside = crossed net valid failed arc s.from s.to s.cost s.crosses in
    let low : s.from < length xs = (let a = inside.from in let b = bounded.long in omega arith) in
    let small : s.cost + s.lowers.far < 4294967296 = (let m = inside.most in let b = bounded.bound s.to s.lowers.far s.lowers.is in let p = present_few xs in let l = bounded.long in let f = valid.few_routers in omega arith) in
    rw s.lowers.set (weight_falls xs s.from (s.cost + s.lowers.far) low small s.lowers.less)

-- what a visit of an arc did, in the words of a pass
record Moved (net : NetValue) (failed : List ℕ) (arc : Arc) (before after : List (Option ℕ)) (changed : Bool) : Type 0 where
  bounded : AreBounded net after
  sums : (prefix : PrefixValue) → AreSums net prefix failed before → AreSums net prefix failed after
  down : weight after ≤ weight before
  same : changed ≡ false → after ≡ before
  settled : changed ≡ false → IsSettled net failed before arc
  falls : changed ≡ true → weight after < weight before

moved : (net : NetValue) → IsNet net → (failed : List ℕ) (arc : Arc) (xs ys : List (Option ℕ)) (changed : Bool) → AreBounded net xs → Visited net failed arc xs ys changed → Moved net failed arc xs ys changed
moved net valid failed arc xs ys true bounded s =
    let less = lowered_falls net valid failed arc xs ys bounded s in
    record {
      bounded = lowered_bounded net valid failed arc xs ys bounded s;
      sums = lowered_sums net valid failed arc xs ys bounded s;
      down = (omega arith);
      same = λ f. absurd (let g : true ≡ false = f in cc);
      settled = λ f. absurd (let g : true ≡ false = f in cc);
      falls = λ t. less;
    }
moved net valid failed arc xs ys false bounded l = record {
  bounded = rw l.same bounded;
  sums = λ prefix sums. rw l.same sums;
  down = rw l.same (omega arith);
  same = λ f. l.same;
  settled = λ f. l.settled;
  falls = λ t. absurd (let g : false ≡ true = t in cc);
}

-- a visit keeps the bound
pub visited_bounded : (net : NetValue) → IsNet net → (failed : List ℕ) (arc : Arc) (xs ys : List (Option ℕ)) (changed : Bool) → AreBounded net xs → Visited net failed arc xs ys changed → AreBounded net ys
visited_bounded net valid failed arc xs ys changed bounded v = (moved net valid failed arc xs ys changed bounded v).bounded

either_true : (a b : Bool) → (a || b) ≡ true → (a ≡ true) ⊎ (b ≡ true)
either_true true b e = inl refl
either_true false b e = inr e

left_false : (a b : Bool) → (a || b) ≡ false → a ≡ false
left_false true b e = cc
left_false false b e = refl

right_false : (a b : Bool) → (a || b) ≡ false → b ≡ false
right_false true b e = let f : true ≡ false = e in cc
right_false false b e = e

-- an arc that crosses nothing is settled
pub nothing_left : (net : NetValue) (failed : List ℕ) (arc : Arc) (xs : List (Option ℕ)) → ((u v cost : ℕ) → Crosses net failed arc u v cost → ⊥) → Leaves net failed arc xs xs
nothing_left net failed arc xs none = record {
  settled = λ u v cost far crosses is. absurd (none u v cost crosses);
  same = refl;
}

-- what became of the entry over a crossing is what the visit of its arc did
pub lowered_visited : (net : NetValue) (failed : List ℕ) (arc : Arc) (u v cost : ℕ) (xs ys : List (Option ℕ)) (changed : Bool) → Crosses net failed arc u v cost → Lowered u v cost xs ys changed → Visited net failed arc xs ys changed
lowered_visited net failed arc u v cost xs ys true crosses l = record { from = u; to = v; cost = cost; crosses = crosses; lowers = l }
lowered_visited net failed arc u v cost xs ys false crosses l = record {
  settled = λ x y z far others is.
      let s = crossed_once net failed arc x y z u v cost others crosses in
      let o = l.low far (subst (λ (w : ℕ). distance_at xs w ≡ Some far) s.to is) in
      (o.0, subst (λ (w : ℕ). distance_at xs w ≡ Some o.0) (sym s.from) o.1, (let a = o.2 in let b = s.cost in omega arith));
  same = l.same;
}

-- a list that was lent and came back as long as it was
pub given_back : (n : ℕ) (xs items : List (Option ℕ)) → length xs ≡ n → length items ≡ n → take n (xs ++ drop (length xs) items) ≡ xs
given_back n xs items e f = rw (← e) (grind (arith, common_steps))

-- visits of both directions of a link
pub passed_link : (net : NetValue) → IsNet net → (failed : List ℕ) (link : ℕ) (xs ys zs : List (Option ℕ)) (a b : Bool) → AreBounded net xs → Visited net failed (record { link = link; down = false }) xs ys a → Visited net failed (record { link = link; down = true }) ys zs b → Passed net failed xs zs (a || b) link (link + 1)
passed_link net valid failed link xs ys zs a b bounded v w = record {
  bounded = n.bounded;
  sums = λ prefix sums. n.sums prefix (m.sums prefix sums);
  down = let p = m.down in let q = n.down in omega arith;
  same = λ e. n.same (right_false a b e) ∙ m.same (left_false a b e);
  settled = λ e arc low high.
      let place : link ≡ arc.link = omega arith in
      subst (λ (k : ℕ). IsSettled net failed xs (record { link = k; down = arc.down })) place (both e arc.down);
  falls = λ e. (let p = m.down in let q = n.down in elim (either_true a b e) [ inl t ↦ (let f = m.falls t in omega arith) | inr t ↦ (let f = n.falls t in omega arith) ]);
} where
  m : Moved net failed (record { link = link; down = false }) xs ys a
  m = moved net valid failed (record { link = link; down = false }) xs ys a bounded v

  n : Moved net failed (record { link = link; down = true }) ys zs b
  n = moved net valid failed (record { link = link; down = true }) ys zs b (moved net valid failed (record { link = link; down = false }) xs ys a bounded v).bounded w

  both : (a || b) ≡ false → (down : Bool) → IsSettled net failed xs (record { link = link; down = down })
  both e false = m.settled (left_false a b e)
  both e true = subst (λ (ds : List (Option ℕ)). IsSettled net failed ds (record { link = link; down = true })) (m.same (left_false a b e)) (n.settled (right_false a b e))

pub passed_none : (net : NetValue) (failed : List ℕ) (xs : List (Option ℕ)) → AreBounded net xs → Passed net failed xs xs false 0 0
passed_none net failed xs bounded = record {
  bounded = bounded;
  sums = λ prefix sums. sums;
  down = omega arith;
  same = λ e. refl;
  settled = λ e arc low high. absurd (omega arith);
  falls = λ t. absurd (let g : false ≡ true = t in cc);
}

below_or_not : (k n : ℕ) → (k < n) ⊎ (n ≤ k)
below_or_not k n = grind arith

-- visits of more links
pub passed_more : (net : NetValue) (failed : List ℕ) (xs ys zs : List (Option ℕ)) (a b : Bool) (low middle high : ℕ) → Passed net failed xs ys a low middle → Passed net failed ys zs b middle high → Passed net failed xs zs (a || b) low high
passed_more net failed xs ys zs a b low middle high m n = record {
  bounded = n.bounded;
  sums = λ prefix sums. n.sums prefix (m.sums prefix sums);
  down = let p = m.down in let q = n.down in omega arith;
  same = λ e. n.same (right_false a b e) ∙ m.same (left_false a b e);
  settled = λ e arc from to. elim (below_or_not arc.link middle) [
    | inl less ↦ m.settled (left_false a b e) arc from less
    | inr more ↦ subst (λ (ds : List (Option ℕ)). IsSettled net failed ds arc) (m.same (left_false a b e)) (n.settled (right_false a b e) arc more to)
  ];
  falls = λ e. (let p = m.down in let q = n.down in elim (either_true a b e) [ inl t ↦ (let f = m.falls t in omega arith) | inr t ↦ (let f = n.falls t in omega arith) ]);
}

-- where a whole pass changed nothing, each arc is settled
pub passed_settled : (net : NetValue) → IsNet net → (failed : List ℕ) (xs ys : List (Option ℕ)) (changed : Bool) → Passed net failed xs ys changed 0 (length net.links) → changed ≡ false → (arc : Arc) → IsSettled net failed ys arc
passed_settled net valid failed xs ys changed passed e arc = λ u v cost far crosses is.
    let inside = crossed net valid failed arc u v cost crosses in
    let s : IsSettled net failed ys arc = rw (passed.same e) (passed.settled e arc (omega arith) inside.link) in
    s u v cost far crosses is
