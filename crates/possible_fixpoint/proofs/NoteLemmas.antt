-- What a worker keeps beside its seat, as it grows.
use Rattle.std.proofs.Common.{ℕ, ◌≡◌, ◌≢◌, ◌^◌, ◌<◌, ◌≤◌, ◌||◌, inl, inr, Bool, true, false, List, length, set, bit_or, arith, ap, sym, subst, ◌∙◌, refl}
use Rattle.std.proofs.lemmas.List.{length-set}
use Rattle.net_types.specs.declared.arcs.Arc.{Arc}
use Rattle.net_types.specs.Sets.{has}
use Rattle.net_types.proofs.TurnLemmas.{has_none}
use Rattle.abstract_route.specs.declared.rows.Row.{Row}
use Rattle.abstract_route.specs.Rows.{IsBelow, IsInhabited, IsRow, joined, row_at}
use Rattle.abstract_route.proofs.FitLemmas.{inhabited_up}
use Rattle.abstract_route.proofs.HeightLemmas.{bottom_below, bottom_is_row, joined_is_row}
use Rattle.abstract_route.proofs.RowLemmas.{below_refl, below_trans, join_left, join_right, join_least}
use Rattle.abstract_maps.specs.AbstractMap.{IsShort}
use Rattle.possible_fixpoint.specs.declared.marks.ArcSet.{ArcSet}
use Rattle.possible_fixpoint.specs.declared.notes.Notes.{Notes}
use Rattle.possible_fixpoint.specs.Flow.{Flow}
use Rattle.possible_fixpoint.specs.Marks.{IsNoted, has_arc, number, with_arc}
use Rattle.possible_fixpoint.specs.Notebook.{Grows, HasSameMarks, IsBlank, IsKept, with_row}
use Rattle.possible_fixpoint.specs.Possible.{possible}
use Rattle.possible_fixpoint.specs.Standing.{AreGiving, Solvable}
use Rattle.possible_fixpoint.proofs.BeginLemmas.{never}
use Rattle.possible_fixpoint.proofs.BitLemmas.{arc_or, number_or, number_low, old_or_new, one_number, with_other}
use Rattle.possible_fixpoint.proofs.LeastLemmas.{possible_is_least}
use Rattle.possible_fixpoint.proofs.RaiseLemmas.{at_other, at_same}
use Rattle.possible_fixpoint.proofs.VisitLemmas.{noted_down}

pub clash : {A : Type 0} → true ≡ false → A
clash e = absurd (let f : true ≡ false = e in cc)

-- ---- rows

pub grows_none : (u : ℕ) (xs : List Row) (grew : Bool) → Grows u xs xs grew
grows_none u xs grew = record { up = λ v. below_refl (row_at xs v); other = λ v h. refl; same = λ h. refl }

neither : (a b : Bool) → (a || b) ≡ false → (a ≡ false) × (b ≡ false)
neither true b h = clash h
neither false b h = (refl, h)

pub grows_on : (u : ℕ) (xs ys zs : List Row) (a b : Bool) → Grows u xs ys a → Grows u ys zs b → Grows u xs zs (a || b)
grows_on u xs ys zs a b p q = record {
  up = λ v. below_trans (row_at xs v) (row_at ys v) (row_at zs v) (p.up v) (q.up v);
  other = λ v h. q.other v h ∙ p.other v h;
  same = λ h. let n = neither a b h in q.same n.1 ∙ p.same n.0;
}

pub row_grows : (grew : Bool) (xs : List Row) (u : ℕ) (row : Row) → u < length xs → Grows u xs (with_row grew xs u row) grew
row_grows false xs u row h = grows_none u xs false
row_grows true xs u row h = record {
  up = λ v. elim (number_or v u) [
    | inl same ↦ rw (same, at_same xs u (joined (row_at xs u) row) h) (join_left (row_at xs u) row)
    | inr other ↦ rw (at_other xs u v (joined (row_at xs u) row) other) (below_refl (row_at xs v))
  ];
  other = λ v other. at_other xs u v (joined (row_at xs u) row) other;
  same = λ e. clash e;
}

pub row_there : (grew : Bool) (xs : List Row) (u : ℕ) (row : Row) → u < length xs → (grew ≡ false → IsBelow row (row_at xs u)) → IsBelow row (row_at (with_row grew xs u row) u)
row_there false xs u row h below = below refl
row_there true xs u row h below = rw (at_same xs u (joined (row_at xs u) row) h) (join_right (row_at xs u) row)

long_with : (grew : Bool) (xs : List Row) (u : ℕ) (row : Row) → length (with_row grew xs u row) ≡ length xs
long_with false xs u row = refl
long_with true xs u row = length-set xs u (joined (row_at xs u) row)

-- what holds of the row of u and of what is joined to it holds after
words_with : (grew : Bool) (xs : List Row) (u : ℕ) (row : Row) (v : ℕ) → u < length xs → IsRow (row_at xs v) → IsRow row → IsRow (row_at (with_row grew xs u row) v)
words_with false xs u row v h was is = was
words_with true xs u row v h was is = elim (number_or v u) [
  | inl same ↦ rw (same, at_same xs u (joined (row_at xs u) row) h) (joined_is_row (row_at xs u) row (subst (λ (n : ℕ). IsRow (row_at xs n)) same was) is)
  | inr other ↦ rw (at_other xs u v (joined (row_at xs u) row) other) was
]

under_with : (grew : Bool) (xs tops : List Row) (u : ℕ) (row : Row) (v : ℕ) → u < length xs → IsBelow (row_at xs v) (row_at tops v) → IsBelow row (row_at tops u) → IsBelow (row_at (with_row grew xs u row) v) (row_at tops v)
under_with false xs tops u row v h was is = was
under_with true xs tops u row v h was is = elim (number_or v u) [
  | inl same ↦ rw (same, at_same xs u (joined (row_at xs u) row) h) (join_least (row_at xs u) row (row_at tops u) (subst (λ (n : ℕ). IsBelow (row_at xs n) (row_at tops n)) same was) is)
  | inr other ↦ rw (at_other xs u v (joined (row_at xs u) row) other) was
]

-- ---- notes

-- the rows of notes have risen, and stay below the least solution
kept_up : (flow : Flow) (b : Notes) (ys : List Row) → length ys ≡ 64 → ((u : ℕ) → u < flow.routers → IsRow (row_at ys u))
    → ((u : ℕ) → u < flow.routers → IsBelow (row_at ys u) (row_at (possible flow) u)) → ((v : ℕ) → IsBelow (row_at b.rows v) (row_at ys v))
    → IsKept flow b → IsKept flow (record { rows = ys; asked_at = b.asked_at; asked = b.asked; gave = b.gave; begun = b.begun })
kept_up flow b ys long words under up k = record {
  rows_long = long;
  asked_long = k.asked_long;
  words = words;
  under = under;
  local = λ u h. below_trans (flow.source u) (row_at b.rows u) (row_at ys u) (k.local u h) (up u);
  asked_words = k.asked_words;
  met = λ arc lives h. below_trans (flow.gives arc (row_at b.asked_at (number arc))) (row_at b.rows (flow.receiver arc)) (row_at ys (flow.receiver arc)) (k.met arc lives h) (up (flow.receiver arc));
  giving = k.giving;
}

only_rows : (b a : Notes) → HasSameMarks b a → record { rows = a.rows; asked_at = b.asked_at; asked = b.asked; gave = b.gave; begun = b.begun } ≡ a
only_rows b a s = λ i. record { rows = a.rows; asked_at = sym s.asked_at i; asked = sym s.asked i; gave = sym s.gave i; begun = sym s.begun i }

inside : (flow : Flow) (notes : Notes) (u : ℕ) → flow.routers ≤ 64 → u < flow.routers → IsKept flow notes → u < length notes.rows
inside flow notes u few h k = let e = k.rows_long in omega arith

pub add_kept : (flow : Flow) (b a : Notes) (u : ℕ) (row : Row) (grew : Bool) → flow.routers ≤ 64 → u < flow.routers → IsRow row
    → IsBelow row (row_at (possible flow) u) → IsKept flow b → a.rows ≡ with_row grew b.rows u row → HasSameMarks b a → IsKept flow a
add_kept flow b a u row grew few h is low k rows same =
    let at = inside flow b u few h k in
    subst (λ (n : Notes). IsKept flow n) (only_rows b a same)
    (kept_up flow b a.rows (ap length rows ∙ long_with grew b.rows u row ∙ k.rows_long)
    (λ v l. rw rows (words_with grew b.rows u row v at (k.words v l) is))
    (λ v l. rw rows (under_with grew b.rows (possible flow) u row v at (k.under v l) low))
    (λ v. rw rows ((row_grows grew b.rows u row at).up v)) k)

pub add_grows : (flow : Flow) (b a : Notes) (u : ℕ) (row : Row) (grew : Bool) → flow.routers ≤ 64 → u < flow.routers → IsKept flow b
    → a.rows ≡ with_row grew b.rows u row → Grows u b.rows a.rows grew
add_grows flow b a u row grew few h k rows = rw rows (row_grows grew b.rows u row (inside flow b u few h k))

pub add_has : (flow : Flow) (b a : Notes) (u : ℕ) (row : Row) (grew : Bool) → flow.routers ≤ 64 → u < flow.routers → IsKept flow b
    → a.rows ≡ with_row grew b.rows u row → (grew ≡ false → IsBelow row (row_at b.rows u)) → IsBelow row (row_at a.rows u)
add_has flow b a u row grew few h k rows below = rw rows (row_there grew b.rows u row (inside flow b u few h k) below)

pub source_under : (flow : Flow) (u : ℕ) → Solvable flow → u < flow.routers → IsBelow (flow.source u) (row_at (possible flow) u)
source_under flow u solvable h = (possible_is_least flow solvable.lawful).solves.local u h

-- the local row of a router is noted as gathered
pub begun_kept : (flow : Flow) (b a : Notes) (u : ℕ) → IsKept flow b → IsBelow (flow.source u) (row_at b.rows u) → a.begun ≡ bit_or b.begun (2 ^ u)
    → a.rows ≡ b.rows → a.asked ≡ b.asked → a.asked_at ≡ b.asked_at → a.gave ≡ b.gave → IsKept flow a
begun_kept flow b a u k there begun rows asked at gave =
    let same : record { rows = b.rows; asked_at = b.asked_at; asked = b.asked; gave = b.gave; begun = bit_or b.begun (2 ^ u) } ≡ a =
    λ i. record { rows = sym rows i; asked_at = sym at i; asked = sym asked i; gave = sym gave i; begun = sym begun i } in
    subst (λ (n : Notes). IsKept flow n) same (record {
      rows_long = k.rows_long;
      asked_long = k.asked_long;
      words = k.words;
      under = k.under;
      local = λ v h. elim (old_or_new b.begun u v h) [
        | inl old ↦ k.local v old
        | inr new ↦ rw new there
      ];
      asked_words = k.asked_words;
      met = k.met;
      giving = k.giving;
    })

-- what gives something at a row below the least solution gives something there
pub giving_more : (flow : Flow) (arc : Arc) (row given : Row) (before after : ArcSet) → Solvable flow → flow.lives arc ≡ true → IsRow row
    → IsBelow row (row_at (possible flow) (flow.sender arc)) → given ≡ flow.gives arc row → IsNoted arc given before after
    → AreGiving flow (possible flow) before → AreGiving flow (possible flow) after
giving_more flow arc row given before after solvable lives is low e n g = record {
  lives = λ x h. elim (noted_down arc given before after n x h) [
    | inl was ↦ g.lives x was
    | inr new ↦ subst (λ (y : Arc). flow.lives y ≡ true) (sym new.0) lives
  ];
  gives = λ x h. elim (noted_down arc given before after n x h) [
    | inl was ↦ g.gives x was
    | inr new ↦ subst (λ (y : Arc). IsInhabited (flow.gives y (row_at (possible flow) (flow.sender y)))) (sym new.0)
        (inhabited_up (flow.gives arc row) (flow.gives arc (row_at (possible flow) (flow.sender arc))) grown (subst IsInhabited e new.1))
  ];
} where
  top_row : IsRow (row_at (possible flow) (flow.sender arc))
  top_row =
      let best = possible_is_least flow solvable.lawful in
      best.words.each (flow.sender arc) (let l = best.solves.long in let s = solvable.lawful.sender arc lives in omega arith)

  grown : IsBelow (flow.gives arc row) (flow.gives arc (row_at (possible flow) (flow.sender arc)))
  grown = solvable.lawful.grows arc row (row_at (possible flow) (flow.sender arc)) is top_row low

-- an arc is noted as asked, at a row that it gives what is among the notes
pub asked_kept : (flow : Flow) (b a : Notes) (arc : Arc) (row given : Row) → Solvable flow → flow.lives arc ≡ true → IsRow row
    → IsBelow row (row_at (possible flow) (flow.sender arc)) → given ≡ flow.gives arc row → IsBelow given (row_at b.rows (flow.receiver arc)) → IsKept flow b
    → a.asked ≡ with_arc b.asked arc → a.asked_at ≡ set b.asked_at (number arc) row → IsNoted arc given b.gave a.gave → a.rows ≡ b.rows → a.begun ≡ b.begun → IsKept flow a
asked_kept flow b a arc row given solvable lives is low e there k asked at noted rows begun =
    let same : record { rows = b.rows; asked_at = set b.asked_at (number arc) row; asked = with_arc b.asked arc; gave = a.gave; begun = b.begun } ≡ a =
    λ i. record { rows = sym rows i; asked_at = sym at i; asked = sym asked i; gave = a.gave; begun = sym begun i } in
    subst (λ (n : Notes). IsKept flow n) same (record {
      rows_long = k.rows_long;
      asked_long = length-set b.asked_at (number arc) row ∙ k.asked_long;
      words = k.words;
      under = k.under;
      local = k.local;
      asked_words = λ x alive h. elim (arc_or x arc) [
        | inl this ↦ subst (λ (y : Arc). IsRow (row_at (set b.asked_at (number arc) row) (number y))) (sym this) (rw here is)
        | inr other ↦ rw (elsewhere x other) (k.asked_words x alive (was x other h))
      ];
      met = λ x alive h. elim (arc_or x arc) [
        | inl this ↦ subst (λ (y : Arc). IsBelow (flow.gives y (row_at (set b.asked_at (number arc) row) (number y))) (row_at b.rows (flow.receiver y))) (sym this)
            (rw here (subst (λ (r : Row). IsBelow r (row_at b.rows (flow.receiver arc))) e there))
        | inr other ↦ rw (elsewhere x other) (k.met x alive (was x other h))
      ];
      giving = giving_more flow arc row given b.gave a.gave solvable lives is low e noted k.giving;
    })
  where
    place : number arc < length b.asked_at
    place = let l = number_low arc flow.links (solvable.lawful.link arc lives) in let f = solvable.few_links in let g = k.asked_long in omega arith

    here : row_at (set b.asked_at (number arc) row) (number arc) ≡ row
    here = at_same b.asked_at (number arc) row place

    elsewhere : (x : Arc) → x ≢ arc → row_at (set b.asked_at (number arc) row) (number x) ≡ row_at b.asked_at (number x)
    elsewhere x other = at_other b.asked_at (number arc) (number x) row (λ f. other (one_number x arc f))

    was : (x : Arc) → x ≢ arc → has_arc (with_arc b.asked arc) x ≡ true → has_arc b.asked x ≡ true
    was x other h = sym (with_other b.asked arc x other) ∙ h

-- an arc was looked at
pub gave_kept : (flow : Flow) (b a : Notes) (arc : Arc) (row given : Row) → Solvable flow → flow.lives arc ≡ true → IsRow row
    → IsBelow row (row_at (possible flow) (flow.sender arc)) → given ≡ flow.gives arc row → IsKept flow b
    → IsNoted arc given b.gave a.gave → a.rows ≡ b.rows → a.asked ≡ b.asked → a.asked_at ≡ b.asked_at → a.begun ≡ b.begun → IsKept flow a
gave_kept flow b a arc row given solvable lives is low e k noted rows asked at begun =
    let same : record { rows = b.rows; asked_at = b.asked_at; asked = b.asked; gave = a.gave; begun = b.begun } ≡ a =
    λ i. record { rows = sym rows i; asked_at = sym at i; asked = sym asked i; gave = a.gave; begun = sym begun i } in
    subst (λ (n : Notes). IsKept flow n) same (record {
      rows_long = k.rows_long;
      asked_long = k.asked_long;
      words = k.words;
      under = k.under;
      local = k.local;
      asked_words = k.asked_words;
      met = k.met;
      giving = giving_more flow arc row given b.gave a.gave solvable lives is low e noted k.giving;
    })

-- ---- an arc is asked

-- what an arc gives of a row below the least solution is below it
pub given_under : (flow : Flow) (arc : Arc) (row given : Row) → Solvable flow → flow.lives arc ≡ true → IsRow row
    → IsBelow row (row_at (possible flow) (flow.sender arc)) → given ≡ flow.gives arc row → IsBelow given (row_at (possible flow) (flow.receiver arc))
given_under flow arc row given solvable lives is low e =
    let best = possible_is_least flow solvable.lawful in
    let top_row : IsRow (row_at (possible flow) (flow.sender arc)) =
    best.words.each (flow.sender arc) (let l = best.solves.long in let s = solvable.lawful.sender arc lives in omega arith) in
    rw e (below_trans (flow.gives arc row) (flow.gives arc (row_at (possible flow) (flow.sender arc))) (row_at (possible flow) (flow.receiver arc))
    (solvable.lawful.grows arc row (row_at (possible flow) (flow.sender arc)) is top_row low) (best.solves.learned arc lives))

pub given_words : (flow : Flow) (arc : Arc) (row given : Row) → Solvable flow → IsRow row → given ≡ flow.gives arc row → IsRow given
given_words flow arc row given solvable is e = rw e (solvable.lawful.gives arc row is)

pub read_short : (flow : Flow) (arc : Arc) (row : Row) → Solvable flow → flow.lives arc ≡ true → IsBelow row (row_at (possible flow) (flow.sender arc)) → IsShort row
read_short flow arc row solvable lives low = solvable.short (flow.sender arc) row (solvable.lawful.sender arc lives) low

-- an arc that was asked at a row above
pub known_given : (flow : Flow) (notes : Notes) (arc : Arc) (row : Row) → Solvable flow → flow.lives arc ≡ true → IsRow row → IsKept flow notes
    → has_arc notes.asked arc ≡ true → IsBelow row (row_at notes.asked_at (number arc)) → IsBelow (flow.gives arc row) (row_at notes.rows (flow.receiver arc))
known_given flow notes arc row solvable lives is k known below =
    below_trans (flow.gives arc row) (flow.gives arc (row_at notes.asked_at (number arc))) (row_at notes.rows (flow.receiver arc))
    (solvable.lawful.grows arc row (row_at notes.asked_at (number arc)) is (k.asked_words arc lives known) below) (k.met arc lives known)

-- ---- the first notes

pub blank_kept : (flow : Flow) (notes : Notes) → Solvable flow → IsBlank notes → IsKept flow notes
blank_kept flow notes solvable b = record {
  rows_long = b.rows_long;
  asked_long = b.asked_long;
  words = λ u h. rw (b.rows u (few u h)) bottom_is_row;
  under = λ u h. rw (b.rows u (few u h)) (bottom_below (row_at (possible flow) u) (top_row u h));
  local = λ u h. absurd (let e : has notes.begun u ≡ has 0 u = ap (λ (n : ℕ). has n u) b.begun in let f = has_none u in cc);
  asked_words = λ arc lives h. absurd (never arc (subst (λ (s : ArcSet). has_arc s arc ≡ true) b.asked h));
  met = λ arc lives h. absurd (never arc (subst (λ (s : ArcSet). has_arc s arc ≡ true) b.asked h));
  giving = record {
    lives = λ arc h. absurd (never arc (subst (λ (s : ArcSet). has_arc s arc ≡ true) b.gave h));
    gives = λ arc h. absurd (never arc (subst (λ (s : ArcSet). has_arc s arc ≡ true) b.gave h));
  };
} where
  few : (u : ℕ) → u < flow.routers → u < 64
  few u h = let e = solvable.few in omega arith

  top_row : (u : ℕ) → u < flow.routers → IsRow (row_at (possible flow) u)
  top_row u h = let best = possible_is_least flow solvable.lawful in best.words.each u (let l = best.solves.long in omega arith)
