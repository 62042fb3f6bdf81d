-- How a pass over the marked routers stands, and how passes end.
use Rattle.std.proofs.Common.{ℕ, ◌≡◌, ◌+◌, ◌*◌, ◌-◌, ◌^◌, ◌<◌, ◌≤◌, ◌==◌, ◌⊎◌, inl, inr, Bool, true, false, List, arith, ap, sym, subst, ◌∙◌, refl, cond}
use Rattle.std.proofs.lemmas.Bool.Decides.{nat_tests}
use Rattle.net_types.specs.Sets.{has, IsPart}
use Rattle.net_types.proofs.SetLemmas.{same_sets}
use Rattle.net_types.proofs.TurnLemmas.{has_none}
use Rattle.abstract_route.specs.declared.rows.Row.{Row}
use Rattle.abstract_route.proofs.RowLemmas.{part_trans}
use Rattle.possible_fixpoint.specs.declared.marks.ArcSet.{ArcSet}
use Rattle.possible_fixpoint.specs.Flow.{Flow, Lawful}
use Rattle.possible_fixpoint.specs.Marks.{less}
use Rattle.possible_fixpoint.specs.Possible.{IsLeast, possible}
use Rattle.possible_fixpoint.specs.Standing.{Advanced, Stands, Turned, list_rank, place}
use Rattle.possible_fixpoint.proofs.BitLemmas.{lacks_gone, lacks_part, less_part, no_members, number_low}
use Rattle.possible_fixpoint.proofs.JoinLemmas.{advanced_refl}
use Rattle.possible_fixpoint.proofs.LeastLemmas.{least_is_one, possible_is_least}
use Rattle.possible_fixpoint.proofs.RowLists.{list_rank_small}

-- how a pass stands after the first places: there no router has a mark, where no row has risen
pub record Passing (flow : Flow) (up : Bool) (k : ℕ) (xs ys : List Row) (seen : ArcSet) (dirty marks : ℕ) : Type 0 where
  pub standing : Stands flow ys seen marks
  pub advanced : Advanced xs ys dirty marks
  pub gone : list_rank ys ≤ list_rank xs → (v : ℕ) → v < flow.routers → place up flow.routers v < k → has marks v ≡ false

pub passing_begins : (flow : Flow) (up : Bool) (xs : List Row) (seen : ArcSet) (dirty : ℕ) → Stands flow xs seen dirty → Passing flow up 0 xs xs seen dirty dirty
passing_begins flow up xs seen dirty s = record {
  standing = s;
  advanced = advanced_refl xs dirty;
  gone = λ h v l low. absurd (omega arith);
}

pub place_below : (up : Bool) (n v : ℕ) → v < n → place up n v < n
place_below true n v h = h
place_below false n v h = omega arith

place_twice : (up : Bool) (n v : ℕ) → v < n → place up n (place up n v) ≡ v
place_twice true n v h = refl
place_twice false n v h = omega arith

earlier : (up : Bool) (n v k : ℕ) → v < n → place up n v < k + 1 → (v ≡ place up n k) ⊎ (place up n v < k)
earlier up n v k h l = elim (now_or_before (place up n v) k l) [
  | inl now ↦ inl (sym (place_twice up n v h) ∙ ap (place up n) now)
  | inr before ↦ inr before
] where
  now_or_before : (a b : ℕ) → a < b + 1 → (a ≡ b) ⊎ (a < b)
  now_or_before a b h = grind arith

-- the arcs from one more router were asked
pub passing_asked : (flow : Flow) (up : Bool) (k u : ℕ) (xs ys zs : List Row) (before after : ArcSet) (dirty marks more : ℕ) → flow.routers ≤ 64 → k < flow.routers → u ≡ place up flow.routers k → Passing flow up k xs ys before dirty marks → Stands flow zs after more → Advanced ys zs (less marks u) more → Passing flow up (k + 1) xs zs after dirty more
passing_asked flow up k u xs ys zs before after dirty marks more few h is p s a = record {
  standing = s;
  advanced = record {
    up = (let e = a.up in let f = p.advanced.up in omega arith);
    same = λ low. part_trans more marks dirty (part_trans more (less marks u) marks (a.same (first low)) (less_part marks u)) (p.advanced.same (second low));
  };
  gone = λ low v l placed. elim (earlier up flow.routers v k l placed) [
    | inl same ↦ rw (same ∙ sym is) (lacks_part more (less marks u) (a.same (first low)) u (lacks_gone marks u u_low))
    | inr before ↦ lacks_part more marks (part_trans more (less marks u) marks (a.same (first low)) (less_part marks u)) v (p.gone (second low) v l before)
  ];
} where
  first : list_rank zs ≤ list_rank xs → list_rank zs ≤ list_rank ys
  first low = let f = p.advanced.up in omega arith

  second : list_rank zs ≤ list_rank xs → list_rank ys ≤ list_rank xs
  second low = let e = a.up in omega arith

  u_low : u < 64
  u_low = let e = place_below up flow.routers k h in let f = is in omega arith

-- a router that has no mark
pub passing_skipped : (flow : Flow) (up : Bool) (k u : ℕ) (xs ys : List Row) (seen : ArcSet) (dirty marks : ℕ) → u ≡ place up flow.routers k → has marks u ≡ false → Passing flow up k xs ys seen dirty marks → Passing flow up (k + 1) xs ys seen dirty marks
passing_skipped flow up k u xs ys seen dirty marks is lacks p = record {
  standing = p.standing;
  advanced = p.advanced;
  gone = λ low v l placed. elim (earlier up flow.routers v k l placed) [
    | inl same ↦ rw (same ∙ sym is) lacks
    | inr before ↦ p.gone low v l before
  ];
}

pub passing_ends : (flow : Flow) (up : Bool) (k : ℕ) (xs ys : List Row) (seen : ArcSet) (dirty marks : ℕ) → k ≡ flow.routers → Passing flow up k xs ys seen dirty marks → Turned xs ys marks
passing_ends flow up k xs ys seen dirty marks is p = record {
  up = p.advanced.up;
  none = λ low. no_members flow.routers marks p.standing.members (λ v l. p.gone low v l (let e = place_below up flow.routers v l in omega arith));
}

-- ---- passes

part_of_none : (set : ℕ) → IsPart set 0 → set ≡ 0
part_of_none set p = same_sets set 0 (λ x. lacks_part set 0 p x (has_none x) ∙ sym (has_none x))

pub turned_more : (xs ys zs : List Row) (marks more : ℕ) → Turned xs ys marks → Advanced ys zs marks more → Turned xs zs more
turned_more xs ys zs marks more t a = record {
  up = (let e = t.up in let f = a.up in omega arith);
  none = λ low. part_of_none more (subst (λ (n : ℕ). IsPart more n) (t.none (let f = a.up in omega arith)) (a.same (let e = t.up in omega arith)));
}

-- what is left to rise
abbrev pub left_to_rise : Flow → List Row → ℕ → ℕ
left_to_rise flow xs marks = 2 * (flow.routers * (14 * 2 ^ 64) - list_rank xs) + cond (marks == 0) 0 1

pub left_falls : (flow : Flow) (xs ys : List Row) (seen : ArcSet) (dirty marks : ℕ) → (dirty == 0) ≡ false → Stands flow ys seen marks → Turned xs ys marks → left_to_rise flow ys marks < left_to_rise flow xs dirty
left_falls flow xs ys seen dirty marks some s t =
    let high : list_rank ys ≤ flow.routers * (14 * 2 ^ 64) = rw (← s.between.long) (list_rank_small ys s.between.words) in
    elim (risen_or_not (list_rank xs) (list_rank ys)) [
      | inl risen ↦ rw some (by_less (flow.routers * (14 * 2 ^ 64)) (list_rank xs) (list_rank ys) (marks == 0) high risen)
      | inr not ↦ rw (some, t.none not) (by_same (flow.routers * (14 * 2 ^ 64)) (list_rank xs) (list_rank ys) high t.up)
    ] where
      risen_or_not : (a b : ℕ) → (a < b) ⊎ (b ≤ a)
      risen_or_not a b = grind arith

      by_less : (n a b : ℕ) (t : Bool) → b ≤ n → a < b → 2 * (n - b) + cond t 0 1 < 2 * (n - a) + 1
      by_less n a b true h l = omega arith
      by_less n a b false h l = omega arith

      by_same : (n a b : ℕ) → b ≤ n → a ≤ b → 2 * (n - b) + 0 < 2 * (n - a) + 1
      by_same n a b h l = omega arith

is_zero : (n : ℕ) → (n == 0) ≡ true → n ≡ 0
is_zero n h = grind (arith, nat_tests)

empty : (marks : ℕ) → (marks == 0) ≡ true → (x : ℕ) → has marks x ≡ false
empty marks none x = ap (λ n. has n x) (is_zero marks none) ∙ has_none x

-- with no mark left the rows solve
pub settled : (flow : Flow) (xs : List Row) (seen : ArcSet) (marks : ℕ) → Lawful flow → (marks == 0) ≡ true → Stands flow xs seen marks → xs ≡ possible flow
settled flow xs seen marks laws none s = least_is_one flow xs (possible flow) least (possible_is_least flow laws) where
  least : IsLeast flow xs
  least = record {
    words = s.between.words;
    solves = record {
      long = s.between.long;
      local = s.between.local;
      learned = λ arc lives. (s.met arc lives (empty marks none (flow.sender arc)) (λ mine. number_low arc flow.links (laws.link arc lives))).below;
    };
    least = s.between.low;
  }
