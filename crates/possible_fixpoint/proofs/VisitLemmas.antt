-- How the solver stands after an arc was asked, and after all arcs from a router were.
use Rattle.std.proofs.Common.{ℕ, ◌≡◌, ◌≢◌, ◌+◌, ◌*◌, ◌<◌, ◌⊎◌, inl, inr, true, false, List, arith, ap, sym, subst, ◌∙◌}
use Rattle.net_types.specs.declared.arcs.Arc.{Arc}
use Rattle.net_types.specs.Arcs.{down_of, up_of}
use Rattle.net_types.specs.Sets.{has}
use Rattle.abstract_route.specs.declared.rows.Row.{Row}
use Rattle.abstract_route.specs.Rows.{IsInhabited, row_at}
use Rattle.abstract_maps.specs.AbstractMap.{IsShort}
use Rattle.possible_fixpoint.specs.declared.marks.ArcSet.{ArcSet}
use Rattle.possible_fixpoint.specs.Flow.{Flow, Lawful}
use Rattle.possible_fixpoint.specs.Marks.{IsNoted, has_arc, less, number}
use Rattle.possible_fixpoint.specs.Possible.{possible}
use Rattle.possible_fixpoint.specs.Standing.{Advanced, Between, IsMet, Solvable, Standing, Stands, Visited}
use Rattle.possible_fixpoint.proofs.BitLemmas.{arc_or, earlier_arc, lacks_less, less_part, number_low}
use Rattle.possible_fixpoint.proofs.JoinLemmas.{Joined, MayJoin, advanced_refl, advanced_trans, improved_joined}
use Rattle.possible_fixpoint.proofs.LeastLemmas.{possible_is_least}
use Rattle.possible_fixpoint.proofs.RaiseLemmas.{gives_low}

-- rows on the way are short enough to be asked about
pub between_short : (flow : Flow) (rows : List Row) (u : ℕ) → Solvable flow → Between flow rows → u < flow.routers → IsShort (row_at rows u)
between_short flow rows u solvable b low =
    let least = possible_is_least flow solvable.lawful in
    solvable.short u (row_at rows u) low ((b.low (possible flow) least.words least.solves).each u (let e = b.long in omega arith))

noted_up : (arc : Arc) (row : Row) (before after : ArcSet) → IsNoted arc row before after → (a : Arc) → has_arc before a ≡ true → has_arc after a ≡ true
noted_up arc row before after n a h = elim (arc_or a arc) [
  | inl same ↦ subst (λ (x : Arc). has_arc after x ≡ true) (sym same) (n.seen (inl (subst (λ (x : Arc). has_arc before x ≡ true) same h)))
  | inr not ↦ n.other a not ∙ h
]

pub noted_down : (arc : Arc) (row : Row) (before after : ArcSet) → IsNoted arc row before after → (a : Arc) → has_arc after a ≡ true → (has_arc before a ≡ true) ⊎ ((a ≡ arc) × IsInhabited row)
noted_down arc row before after n a h = elim (arc_or a arc) [
  | inl same ↦ elim (n.only (subst (λ (x : Arc). has_arc after x ≡ true) same h)) [
    | inl was ↦ inl (subst (λ (x : Arc). has_arc before x ≡ true) (sym same) was)
    | inr some ↦ inr (same, some)
  ]
  | inr not ↦ inl (sym (n.other a not) ∙ h)
]

noted_standing : (flow : Flow) (u next : ℕ) (arc : Arc) (xs : List Row) (before after : ArcSet) (dirty : ℕ) → flow.lives arc ≡ true → IsNoted arc (flow.gives arc (row_at xs (flow.sender arc))) before after → Standing flow u next xs before dirty → Standing flow u next xs after dirty
noted_standing flow u next arc xs before after dirty lives n s = record {
  between = s.between;
  giving = record {
    lives = λ a h. elim (noted_down arc (flow.gives arc (row_at xs (flow.sender arc))) before after n a h) [
      | inl was ↦ s.giving.lives a was
      | inr new ↦ subst (λ (x : Arc). flow.lives x ≡ true) (sym new.0) lives
    ];
    gives = λ a h. elim (noted_down arc (flow.gives arc (row_at xs (flow.sender arc))) before after n a h) [
      | inl was ↦ s.giving.gives a was
      | inr new ↦ subst (λ (x : Arc). IsInhabited (flow.gives x (row_at xs (flow.sender x)))) (sym new.0) new.1
    ];
  };
  members = s.members;
  met = λ a alive lacks asked. let m = s.met a alive lacks asked in record {
    below = m.below;
    noted = λ i. noted_up arc (flow.gives arc (row_at xs (flow.sender arc))) before after n a (m.noted i);
  };
}

-- what an arc gives may be joined into its receiver's row
may_visit : (flow : Flow) (u next : ℕ) (arc : Arc) (xs : List Row) (seen : ArcSet) (dirty : ℕ) → Lawful flow → flow.lives arc ≡ true → Standing flow u next xs seen dirty → MayJoin flow (flow.receiver arc) (flow.gives arc (row_at xs (flow.sender arc)))
may_visit flow u next arc xs seen dirty laws lives s = record {
  inside = laws.receiver arc lives;
  is_row = laws.gives arc (row_at xs (flow.sender arc)) (s.between.words.each (flow.sender arc) (let f = laws.sender arc lives in let g = s.between.long in omega arith));
  low = gives_low flow laws xs arc lives s.between;
}

-- how the solver stands on its way along the arcs from u
pub record Walked (flow : Flow) (u next : ℕ) (xs ys : List Row) (after : ArcSet) (dirty marks : ℕ) : Type 0 where
  pub standing : Standing flow u next ys after marks
  pub advanced : Advanced xs ys dirty marks

met_there : (flow : Flow) (u next : ℕ) (arc : Arc) (xs ys : List Row) (before after : ArcSet) (dirty marks : ℕ) → IsNoted arc (flow.gives arc (row_at xs (flow.sender arc))) before after → Joined flow u next (flow.receiver arc) (flow.gives arc (row_at xs (flow.sender arc))) xs ys after dirty marks → has marks (flow.sender arc) ≡ false → IsMet flow ys after arc
met_there flow u next arc xs ys before after dirty marks n j lacks =
    let same : row_at ys (flow.sender arc) ≡ row_at xs (flow.sender arc) = (j.kept (flow.sender arc) lacks).0 in
    record {
      below = rw same j.below;
      noted = λ i. n.seen (inr (subst (λ (r : Row). IsInhabited (flow.gives arc r)) same i));
    }

-- a living arc from u was asked
pub visited_walked : (flow : Flow) (u : ℕ) (arc : Arc) (xs ys : List Row) (before after : ArcSet) (dirty marks : ℕ) → Lawful flow → flow.lives arc ≡ true → Standing flow u (number arc) xs before dirty → Visited flow arc xs ys before after dirty marks → Walked flow u (number arc + 1) xs ys after dirty marks
visited_walked flow u arc xs ys before after dirty marks laws lives s v =
    let may = may_visit flow u (number arc) arc xs before dirty laws lives s in
    let noted = noted_standing flow u (number arc) arc xs before after dirty lives v.noted s in
    let j = improved_joined flow u (number arc) (flow.receiver arc) (flow.gives arc (row_at xs (flow.sender arc))) xs ys after dirty marks laws may noted v.improved in
    record {
      standing = record {
        between = j.standing.between;
        giving = j.standing.giving;
        members = j.standing.members;
        met = λ a alive lacks asked. elim (arc_or a arc) [
          | inl same ↦ subst (λ (x : Arc). IsMet flow ys after x) (sym same) (met_there flow u (number arc) arc xs ys before after dirty marks v.noted j (subst (λ (x : Arc). has marks (flow.sender x) ≡ false) same lacks))
          | inr not ↦ j.standing.met a alive lacks (λ mine. before_it a not (asked mine))
        ];
      };
      advanced = j.advanced;
    } where
      before_it : (a : Arc) → a ≢ arc → number a < number arc + 1 → number a < number arc
      before_it a not h = elim (earlier_arc a arc h) [
        | inl same ↦ absurd (not same)
        | inr less ↦ less
      ]

-- an arc that is dead, or begins at another router, need not be asked
pub passed_walked : (flow : Flow) (u : ℕ) (arc : Arc) (xs : List Row) (seen : ArcSet) (dirty : ℕ) → (flow.lives arc ≡ true → flow.sender arc ≡ u → ⊥) → Standing flow u (number arc) xs seen dirty → Walked flow u (number arc + 1) xs xs seen dirty dirty
passed_walked flow u arc xs seen dirty none s = record {
  standing = record {
    between = s.between;
    giving = s.giving;
    members = s.members;
    met = λ a alive lacks asked. s.met a alive lacks (λ mine. elim (earlier_arc a arc (asked mine)) [
      | inl same ↦ absurd (none (subst (λ (x : Arc). flow.lives x ≡ true) same alive) (subst (λ (x : Arc). flow.sender x ≡ u) same mine))
      | inr less ↦ less
    ]);
  };
  advanced = advanced_refl xs dirty;
}

-- before the first arc of u, which is taken out of the marked ones
pub walk_begins : (flow : Flow) (u : ℕ) (xs : List Row) (seen : ArcSet) (dirty : ℕ) → Solvable flow → u < flow.routers → Stands flow xs seen dirty → Standing flow u 0 xs seen (less dirty u)
walk_begins flow u xs seen dirty solvable h s = record {
  between = s.between;
  giving = s.giving;
  members = λ v m. s.members v ((less_part dirty u).members v m);
  met = λ a alive lacks asked.
      let few = solvable.few in
      let from = solvable.lawful.sender a alive in
      elim (lacks_less dirty u (flow.sender a) (omega arith) (omega arith) lacks) [
        | inl lack ↦ s.met a alive lack (λ mine. number_low a flow.links (solvable.lawful.link a alive))
        | inr mine ↦ absurd (let q = asked mine in omega arith)
      ];
}

-- after the last one none is left
pub walk_ends : (flow : Flow) (u next : ℕ) (xs : List Row) (seen : ArcSet) (dirty : ℕ) → Lawful flow → next ≡ flow.links → Standing flow u (2 * next) xs seen dirty → Stands flow xs seen dirty
walk_ends flow u next xs seen dirty laws is s = record {
  between = s.between;
  giving = s.giving;
  members = s.members;
  met = λ a alive lacks asked. s.met a alive lacks (λ mine. number_low a next (let e = laws.link a alive in omega arith));
}

-- two walks, one after the other
pub walked_on : (flow : Flow) (u here next : ℕ) (xs ys zs : List Row) (before after : ArcSet) (dirty marks more : ℕ) → Walked flow u here xs ys before dirty marks → Standing flow u next zs after more → Advanced ys zs marks more → Walked flow u next xs zs after dirty more
walked_on flow u here next xs ys zs before after dirty marks more w s a = record {
  standing = s;
  advanced = advanced_trans xs ys zs dirty marks more w.advanced a;
}

pub walked_none : (flow : Flow) (u next : ℕ) (xs : List Row) (seen : ArcSet) (dirty : ℕ) → Standing flow u next xs seen dirty → Walked flow u next xs xs seen dirty dirty
walked_none flow u next xs seen dirty s = record { standing = s; advanced = advanced_refl xs dirty }

-- ---- places

pub number_up : (arc : Arc) (link : ℕ) → arc ≡ up_of link → number arc ≡ 2 * link
number_up arc link is = let e = ap number is in omega arith

pub number_down : (arc : Arc) (link : ℕ) → arc ≡ down_of link → number arc ≡ 2 * link + 1
number_down arc link is = let e = ap number is in omega arith

pub at_place : (flow : Flow) (u m n : ℕ) (xs : List Row) (seen : ArcSet) (dirty : ℕ) → m ≡ n → Standing flow u m xs seen dirty → Standing flow u n xs seen dirty
at_place flow u m n xs seen dirty same s = subst (λ (k : ℕ). Standing flow u k xs seen dirty) same s
