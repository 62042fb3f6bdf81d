-- How the solver begins: with the sources, every router marked, and no arc seen giving.
use Rattle.std.proofs.Common.{ℕ, ◌≡◌, ◌+◌, ◌<◌, ◌⊎◌, inl, inr, Bool, true, false, List, ◌^◌, bit_or, arith, sym, ◌∙◌}
use Rattle.std.proofs.lemmas.Bool.Decides.{nat_tests}
use Rattle.net_types.specs.declared.arcs.Arc.{Arc}
use Rattle.net_types.specs.Sets.{has}
use Rattle.net_types.proofs.TurnLemmas.{has_none}
use Rattle.abstract_route.specs.declared.rows.Row.{Row}
use Rattle.abstract_route.proofs.RowLemmas.{below_refl}
use Rattle.possible_fixpoint.specs.declared.marks.ArcSet.{ArcSet}
use Rattle.possible_fixpoint.specs.Flow.{Flow, Lawful}
use Rattle.possible_fixpoint.specs.Marks.{has_arc, links_of}
use Rattle.possible_fixpoint.specs.Standing.{AreFirst, AreSources, Between, Solvable, Stands}
use Rattle.possible_fixpoint.proofs.BitLemmas.{has_more, old_or_new}

sources_between : (flow : Flow) (xs : List Row) → Lawful flow → AreSources flow flow.routers xs → Between flow xs
sources_between flow xs laws s = record {
  long = s.long;
  words = record { each = λ u h. let low : u < flow.routers = let e = s.long in omega arith in rw (s.each u low) (laws.source u low) };
  local = λ u h. rw (s.each u h) (below_refl (flow.source u));
  low = λ ys rows solves. record {
    long = s.long ∙ sym solves.long;
    each = λ u h. let low : u < flow.routers = let e = s.long in omega arith in rw (s.each u low) (solves.local u low);
  };
}

abbrev pub no_arcs : ArcSet
no_arcs = record { up = 0; down = 0 }

pub never : (arc : Arc) → has_arc no_arcs arc ≡ true → ⊥
never arc h = go arc.down h where
  go : (b : Bool) → has (links_of b no_arcs) arc.link ≡ true → ⊥
  go true h = let e = has_none arc.link in cc
  go false h = let e = has_none arc.link in cc

pub begins : (flow : Flow) (xs : List Row) (dirty : ℕ) → Solvable flow → AreSources flow flow.routers xs → AreFirst flow.routers dirty → Stands flow xs no_arcs dirty
begins flow xs dirty solvable s first = record {
  between = sources_between flow xs solvable.lawful s;
  giving = record {
    lives = λ arc h. absurd (never arc h);
    gives = λ arc h. absurd (never arc h);
  };
  members = first.inside;
  met = λ arc lives lacks asked. absurd (let a = first.all (flow.sender arc) (solvable.lawful.sender arc lives) in let b = lacks in cc);
}

pub first_none : AreFirst 0 0
first_none = record {
  inside = λ v h. absurd (let e = has_none v in let f = h in cc);
  all = λ v h. absurd (omega arith);
}

earlier : (v k : ℕ) → v < k + 1 → (v ≡ k) ⊎ (v < k)
earlier v k h = grind arith

pub first_more : (k set more : ℕ) → more ≡ bit_or set (2 ^ k) → AreFirst k set → AreFirst (k + 1) more
first_more k set more is f = rw is (record {
  inside = λ v h. elim (old_or_new set k v h) [
    | inl old ↦ (let e = f.inside v old in omega arith)
    | inr new ↦ omega arith
  ];
  all = λ v h. elim (earlier v k h) [
    | inl same ↦ (let e = has_more set k v in grind (arith, nat_tests))
    | inr less ↦ (let e = has_more set k v in let g = f.all v less in grind (arith, nat_tests))
  ];
})
