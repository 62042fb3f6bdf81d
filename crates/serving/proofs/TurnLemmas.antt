-- One conversation more.
use Rattle.std.proofs.Common.{◌≡◌, ℕ, zero, suc, ◌+◌, ◌<◌, ◌≤◌, inl, inr, List, [], ◌∷◌, ◌++◌, take, drop, length, append_assoc, length-append, drop-drop, Option, Some, None, Ok, Err, ap, sym, refl, subst, ◌∙◌, arith}
use Rattle.std.proofs.Math.Seq.{take-add}
use Rattle.outside.specs.declared.sink.Failed.{Failed}
use Rattle.doors.specs.Door.{Talk, Told, Begins, closed, ending}
use Rattle.review_rules.specs.State.{State}
use Rattle.review_rules.specs.Rules.{Outcome, Accepted}
use Rattle.review_rules.specs.Judging.{IsRequest, Judging, judged}
use Rattle.review_rules.specs.Laws.{IsAccepted, run, next, tables_after}
use Rattle.review_rules.specs.declared.requests.Request.{Request}
use Rattle.http_desk.specs.declared.serving.Served.{Served}
use Rattle.http_desk.specs.Serves.{Serves, HasServedCause, Moves, StandsOrRose, after}
use Rattle.serving.specs.Turns.{Moment, AreTurns, none, behind, after_all, HaveTurns, ServesNext, ServesAll, AreAccepted, Comes}

-- ---- lists

pub take_more : (xs : List (List ℕ)) (n : ℕ) (x : List ℕ) (rest : List (List ℕ)) → drop n xs ≡ x ∷ rest → take (n + 1) xs ≡ take n xs ++ (x ∷ [])
take_more xs n x rest e = take-add n 1 xs ∙ ap (λ ys. take n xs ++ take 1 ys) e

pub drop_more : (xs : List (List ℕ)) (n : ℕ) → drop 1 (drop n xs) ≡ drop (n + 1) xs
drop_more xs n = drop-drop 1 n xs

pub drop_none : (xs : List (List ℕ)) (n : ℕ) (x : List ℕ) (rest : List (List ℕ)) → drop n xs ≡ x ∷ rest → n + 1 ≤ length xs
drop_none [] zero x rest e = absurd (cc)
drop_none [] (suc n) x rest e = absurd (cc)
drop_none (y ∷ xs) zero x rest e = omega arith
drop_none (y ∷ xs) (suc n) x rest e = let h = drop_none xs n x rest e in omega arith

-- ---- the door

port_stays : (t : Told) (o : Option Talk) → (closed t o).port ≡ t.port
port_stays t None = refl
port_stays t (Some a) = refl

-- what a door tells once the conversation that began after t is ended with these bytes given
pub next_told : (t : Told) (x given : List ℕ) (xs : List (List ℕ)) → t.coming ≡ x ∷ xs
    → after (record { port = (ending t).port; talk = Some (record { left = x; given = [] }); ended = (ending t).ended; coming = xs }) given
    ≡ after_all t (given ∷ [])
next_told t x given xs e =
    let p = port_stays t t.talk in
    let c : xs ≡ drop 1 t.coming = sym (ap (λ ys. drop 1 ys) e) in
    λ i. record { port = p i; talk = None; ended = (ending t).ended ++ (given ∷ []); coming = c i }

-- what it tells before the next conversation begins
pub coming_of : (t : Told) (givens : List (List ℕ)) → (after_all t givens).coming ≡ drop (length givens) t.coming
coming_of t [] = refl
coming_of t (g ∷ gs) = refl

-- one conversation behind others
pub after_more : (t : Told) (givens : List (List ℕ)) (given : List ℕ) → after_all (after_all t givens) (given ∷ []) ≡ after_all t (givens ++ (given ∷ []))
after_more t [] given = refl
after_more t (g ∷ gs) given =
    let a = append_assoc (ending t).ended (g ∷ gs) (given ∷ []) in
    let n : length (g ∷ gs) + 1 ≡ length ((g ∷ gs) ++ (given ∷ [])) = sym (length-append (g ∷ gs) (given ∷ [])) in
    let c = drop_more t.coming (length (g ∷ gs)) ∙ ap (λ k. drop k t.coming) n in
    λ i. record { port = t.port; talk = None; ended = a i; coming = c i }

-- ---- one turn

-- the next conversation began and was served
pub served_next : (j : Judging) (a b : Moment) (t : Told) (between told : Option Told) (served : Served)
    → Begins (ending t) t.coming between
    → ((u : Told) (input : List ℕ) → between ≡ Some u → u.talk ≡ Some (record { left = input; given = [] }) → Serves j a.state u input a.keeper b.keeper served b.state told)
    → HasServedCause a.door b.door served
    → StandsOrRose a.keeper b.keeper
    → ServesNext {E = Failed} j a t (Ok tt) b told
served_next j a b t between told served begins serves cause counted = go t.coming refl begins where
  go : (xs : List (List ℕ)) → t.coming ≡ xs → Begins (ending t) xs between → ServesNext {E = Failed} j a t (Ok tt) b told
  go [] e absurdly = absurd absurdly
  go (x ∷ xs) e began =
      let it = serves _ x began refl in
      (x, it.0, xs, e, (served, it.1, cause, counted), it.2 ∙ ap Some (next_told t x it.0 xs e))

-- ---- many turns

pub no_turns : (j : Judging) (a : Moment) (t : Told) (told : Option Told) → told ≡ Some t → HaveTurns j a t 0 a told
no_turns j a t told e = ([], refl, omega arith, none, e)

pub one_more : (j : Judging) (a m b : Moment) (t : Told) (n : ℕ) (between told : Option Told)
    → HaveTurns j a t n m between
    → ((u : Told) → between ≡ Some u → ServesNext {E = Failed} j m u (Ok tt) b told)
    → HaveTurns j a t (n + 1) b told
one_more j a m b t n between told (givens, long, few, turns, e) serves =
    let it = serves _ e in
    let input = it.0 in
    let given = it.1 in
    let left : drop n t.coming ≡ input ∷ it.2 = ap (λ k. drop k t.coming) (sym long) ∙ sym (coming_of t givens) ∙ it.3 in
    let count : length (givens ++ (given ∷ [])) ≡ n + 1 = length-append givens (given ∷ []) ∙ ap (λ k. k + 1) long in (
      givens ++ (given ∷ []),
      count,
      drop_none t.coming n input it.2 left,
      subst (λ (inputs : List (List ℕ)). AreTurns j a inputs (givens ++ (given ∷ [])) b) (sym (take_more t.coming n input it.2 left)) (behind turns it.4),
      it.5 ∙ ap Some (after_more t givens given),
    )

pub stopped : (j : Judging) (a m b : Moment) (t : Told) (n count : ℕ) (between told : Option Told) (failed : Failed)
    → n < count
    → HaveTurns j a t n m between
    → ((u : Told) → between ≡ Some u → ServesNext {E = Failed} j m u (Err failed) b told)
    → ServesAll {E = Failed} j a t count (Err failed) b told
stopped j a m b t n count between told failed less (givens, long, few, turns, e) serves =
    let it = serves _ e in
    (m, n, less, (givens, long, few, turns, it.3), it.0, it.1, it.2)

-- ---- the requests that were accepted

pub run_more : (j : Judging) (s : State) (rs : List Request) (r : Request) → run j s (rs ++ (r ∷ [])) ≡ next j (run j s rs) r
run_more j s [] r = refl
run_more j s (q ∷ qs) r = run_more j (next j s q) qs r

accepted_more : (j : Judging) (s : State) (rs : List Request) (r : Request) → AreAccepted j s rs → IsRequest r → IsAccepted (judged j (run j s rs) r) → AreAccepted j s (rs ++ (r ∷ []))
accepted_more j s [] r all is new = (is, new, tt)
accepted_more j s (q ∷ qs) r all is new = (all.0, all.1, accepted_more j (next j s q) qs r all.2 is new)

pub comes_nowhere : (j : Judging) (s : State) → Comes j s s
comes_nowhere j s = ([], tt, refl)

pub comes_more : (j : Judging) (s m now : State) → Comes j s m → Moves j m now → Comes j s now
comes_more j s m now (rs, all, e) (inl same) = (rs, all, same ∙ e)
comes_more j s m now (rs, all, e) (inr (r, tables, reply, is, accepts, to)) =
    let accepts_there : judged j (run j s rs) r ≡ Accepted tables reply = ap (λ (x : State). judged j x r) (sym e) ∙ accepts in
    let new : IsAccepted (judged j (run j s rs) r) = subst (λ (o : Outcome). IsAccepted o) (sym accepts_there) tt in
    let there : next j (run j s rs) r ≡ now =
    ap (λ (o : Outcome). record (run j s rs) { tables = tables_after (run j s rs).tables o }) accepts_there
    ∙ ap (λ (x : State). record { users = x.users; tables = tables }) (sym e)
    ∙ sym to in
    (rs ++ (r ∷ []), accepted_more j s rs r all is new, sym there ∙ sym (run_more j s rs r))

pub comes_one : (j : Judging) (s now : State) → Moves j s now → Comes j s now
comes_one j s now moves = comes_more j s s now (comes_nowhere j s) moves

pub comes_on : (j : Judging) (s m now : State) → Comes j s m → Comes j m now → Comes j s now
comes_on j s m now (rs, all, e) (qs, more_of, to) = (rs ++ qs, both s rs all more_at, to ∙ ap (λ (x : State). run j x qs) e ∙ sym (run_both s rs)) where
  more_at : AreAccepted j (run j s rs) qs
  more_at = subst (λ (x : State). AreAccepted j x qs) e more_of

  run_both : (x : State) (ps : List Request) → run j x (ps ++ qs) ≡ run j (run j x ps) qs
  run_both x [] = refl
  run_both x (p ∷ ps) = run_both (next j x p) ps

  both : (x : State) (ps : List Request) → AreAccepted j x ps → AreAccepted j (run j x ps) qs → AreAccepted j x (ps ++ qs)
  both x [] a b = b
  both x (p ∷ ps) a b = (a.0, a.1, both (next j x p) ps a.2 b)
