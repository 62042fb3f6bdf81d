-- Every network has distances: passes over the links come to an end.
use Rattle.std.proofs.Common.{ℕ, zero, suc, ◌≡◌, ◌<◌, ◌≤◌, ◌+◌, ◌||◌, ◌⊎◌, inl, inr, Bool, true, false, List, length, Option, Some, None, slice_get, set, arith, sym, subst, ◌∙◌, refl}
use Rattle.net_types.specs.declared.arcs.Arc.{Arc}
use Rattle.net_types.specs.declared.network.Link.{Link}
use Rattle.net_types.specs.Arcs.{from_end, to_end}
use Rattle.net_types.specs.FailSets.{holds}
use Rattle.net_types.specs.Distance.{Crosses, AreDistances, distance_at}
use Rattle.net_types.specs.NetFacts.{IsNet}
use Rattle.net_types.specs.NetValue.{NetValue}
use Rattle.net_types.specs.PrefixValue.{PrefixValue}
use Rattle.ospf_paths.specs.OnTheWay.{stub_costs, weight, AreBounded, AreSums, Lowered, Visited, Passed}
use Rattle.ospf_paths.proofs.Passes.{unwrap, start_bounded, start_sums, settled_are_distances, lowered_visited, nothing_left, passed_link, passed_none, passed_more, passed_settled}

crosses_or_not : (net : NetValue) (failed : List ℕ) (arc : Arc) → ((u : ℕ) × (v : ℕ) × (cost : ℕ) × Crosses net failed arc u v cost) ⊎ ((u v cost : ℕ) → Crosses net failed arc u v cost → ⊥)
crosses_or_not net failed arc = go (slice_get net.links arc.link) refl where
  at : (link : Link) (adjacent failing : Bool) → slice_get net.links arc.link ≡ Some link → link.adjacency ≡ adjacent → holds failed arc.link ≡ failing → ((u : ℕ) × (v : ℕ) × (cost : ℕ) × Crosses net failed arc u v cost) ⊎ ((u v cost : ℕ) → Crosses net failed arc u v cost → ⊥)
  at link true false is a f = inl ((from_end arc.down link).router, (to_end arc.down link).router, (from_end arc.down link).cost, record { link = link; is = is; adjacency = a; up = f; from = refl; to = refl; costs = refl })
  at link false false is a f = inr (λ u v cost c. (let e : Some c.link ≡ Some link = sym c.is ∙ is in let g : c.link ≡ link = cc in let h : link.adjacency ≡ true = subst (λ (l : Link). l.adjacency ≡ true) g c.adjacency in cc))
  at link adjacent true is a f = inr (λ u v cost c. (let e : true ≡ false = sym f ∙ c.up in cc))

  go : (o : Option Link) → slice_get net.links arc.link ≡ o → ((u : ℕ) × (v : ℕ) × (cost : ℕ) × Crosses net failed arc u v cost) ⊎ ((u v cost : ℕ) → Crosses net failed arc u v cost → ⊥)
  go None is = inr (λ u v cost c. (let e : None ≡ Some c.link = sym is ∙ c.is in cc))
  go (Some link) is = at link link.adjacency (holds failed arc.link) is refl refl

near_or_far : (near sum : ℕ) → (near ≤ sum) ⊎ (sum < near)
near_or_far near sum = grind arith

lowering : (u v cost : ℕ) (xs : List (Option ℕ)) → (ys : List (Option ℕ)) × (changed : Bool) × Lowered u v cost xs ys changed
lowering u v cost xs = go (distance_at xs v) (distance_at xs u) refl refl where
  go : (far near : Option ℕ) → distance_at xs v ≡ far → distance_at xs u ≡ near → (ys : List (Option ℕ)) × (changed : Bool) × Lowered u v cost xs ys changed
  go None near f n = (xs, false, record { low = λ far e. absurd (let g : None ≡ Some far = sym f ∙ e in cc); same = refl })
  go (Some far) None f n = (set xs u (Some (cost + far)), true, record { far = far; is = f; less = λ near e. absurd (let g : None ≡ Some near = sym n ∙ e in cc); set = refl })
  go (Some far) (Some near) f n = elim (near_or_far near (cost + far)) [
    | inl low ↦ (xs, false, record { low = λ other e. (near, n, (let g = unwrap far other (sym f ∙ e) in omega arith)); same = refl })
    | inr high ↦ (set xs u (Some (cost + far)), true, record { far = far; is = f; less = λ other e. (let g = unwrap near other (sym n ∙ e) in omega arith); set = refl })
  ]

visiting : (net : NetValue) (failed : List ℕ) (arc : Arc) (xs : List (Option ℕ)) → (ys : List (Option ℕ)) × (changed : Bool) × Visited net failed arc xs ys changed
visiting net failed arc xs = elim (crosses_or_not net failed arc) [
  | inl c ↦ let l = lowering c.0 c.1 c.2 xs in (l.0, l.1, lowered_visited net failed arc c.0 c.1 c.2 xs l.0 l.1 c.3 l.2)
  | inr none ↦ (xs, false, nothing_left net failed arc xs none)
]

passing : (net : NetValue) → IsNet net → (failed : List ℕ) (links : ℕ) (xs : List (Option ℕ)) → AreBounded net xs → (ys : List (Option ℕ)) × (changed : Bool) × Passed net failed xs ys changed 0 links
passing net valid failed zero xs bounded = (xs, false, passed_none net failed xs bounded)
passing net valid failed (suc link) xs bounded =
    let p = passing net valid failed link xs bounded in
    let a = visiting net failed (record { link = link; down = false }) p.0 in
    let b = visiting net failed (record { link = link; down = true }) a.0 in
    let q = passed_link net valid failed link p.0 a.0 b.0 a.1 b.1 p.2.bounded a.2 b.2 in
    let more = passed_more net failed xs p.0 b.0 p.1 (a.1 || b.1) 0 link (link + 1) p.2 q in
    let next : link + 1 ≡ suc link = omega arith in
    (b.0, p.1 || (a.1 || b.1), subst (λ (n : ℕ). Passed net failed xs b.0 (p.1 || (a.1 || b.1)) 0 n) next more)

true_or_false : (b : Bool) → (b ≡ true) ⊎ (b ≡ false)
true_or_false true = inl refl
true_or_false false = inr refl

settling : (net : NetValue) → IsNet net → (prefix : PrefixValue) (failed : List ℕ) (left : ℕ) (xs : List (Option ℕ)) → weight xs < left → AreBounded net xs → AreSums net prefix failed xs → (ys : List (Option ℕ)) × AreDistances net prefix failed ys
settling net valid prefix failed zero xs less bounded sums = absurd (omega arith)
settling net valid prefix failed (suc left) xs less bounded sums =
    let p = passing net valid failed (length net.links) xs bounded in
    elim (true_or_false p.1) [
      | inl changed ↦ settling net valid prefix failed left p.0 (let f = p.2.falls changed in omega arith) p.2.bounded (p.2.sums prefix sums)
      | inr kept ↦ (p.0, settled_are_distances net prefix failed p.0 p.2.bounded (p.2.sums prefix sums) (passed_settled net valid failed xs p.0 p.1 p.2 kept))
    ]

pub distances_exist : (net : NetValue) → IsNet net → (prefix : PrefixValue) (failed : List ℕ) → (ds : List (Option ℕ)) × AreDistances net prefix failed ds
distances_exist net valid prefix failed =
    let start = stub_costs prefix net.routers in
    settling net valid prefix failed (weight start + 1) start (omega arith) (start_bounded net valid prefix) (start_sums net prefix failed)
