-- Conversations, one after the other. What is meant by them is this project's own.
use Rattle.std.specs.Prelude.{ℕ, ◌≡◌, ◌<◌, ◌≤◌, List, [], ◌∷◌, ◌++◌, Option, None, Some, Result, Ok, Err, length, take, drop}
use Rattle.outside.specs.Faults.{Rose}
use Rattle.doors.specs.Door.{Told, ending}
use Rattle.review_rules.specs.State.{State}
use Rattle.review_rules.specs.Judging.{IsRequest, Judging, judged}
use Rattle.review_rules.specs.Laws.{IsAccepted, next, run}
use Rattle.review_rules.specs.declared.requests.Request.{Request}
use Rattle.http_desk.specs.declared.serving.Served.{Served}
use Rattle.http_desk.specs.Serves.{IsServed, HasServedCause, StandsOrRose}

-- between two conversations: the state of the desk, and the counts of faults of the keeper and of the door
pub record Moment : Type 0 where
  pub state : State
  pub keeper : ℕ
  pub door : ℕ

-- a conversation of this input was served, with this given to it, between two moments
abbrev pub IsTurn : Judging → Moment → List ℕ → List ℕ → Moment → Type 0
IsTurn j a input given b =
    (served : Served) × IsServed j a.state input a.keeper b.keeper served b.state given × HasServedCause a.door b.door served × StandsOrRose a.keeper b.keeper

-- conversations of these inputs were served, one after the other, with this given to each: every one begins at the moment
-- at which the one before it ended
pub data AreTurns (j : Judging) (a : Moment) : List (List ℕ) → List (List ℕ) → Moment → Type 0 where
  none : AreTurns j a [] [] a
  behind : {inputs givens : List (List ℕ)} {input given : List ℕ} {b c : Moment} →
      AreTurns j a inputs givens b → IsTurn j b input given c → AreTurns j a (inputs ++ (input ∷ [])) (givens ++ (given ∷ [])) c

-- what a door tells after conversations of its own, to which these were given
abbrev pub after_all : Told → List (List ℕ) → Told
after_all t [] = t
after_all t (given ∷ rest) = record {
  port = t.port;
  talk = None;
  ended = (ending t).ended ++ (given ∷ rest);
  coming = drop (length (given ∷ rest)) t.coming;
}

-- so many of the conversations that a door tells were served
abbrev pub HaveTurns : Judging → Moment → Told → ℕ → Moment → Option Told → Type 0
HaveTurns j a t count b told =
    (givens : List (List ℕ)) × (length givens ≡ count) × (count ≤ length t.coming)
    × AreTurns j a (take count t.coming) givens b × (told ≡ Some (after_all t givens))

-- the next conversation was served; or the door's count of faults rose when it was to begin, and all else is as before
abbrev pub ServesNext : {E : Type 0} → Judging → Moment → Told → Result (Unit {0}) E → Moment → Option Told → Type 0
ServesNext j a t (Ok done) b told =
    (input given : List ℕ) × (rest : List (List ℕ)) × (t.coming ≡ input ∷ rest) × IsTurn j a input given b × (told ≡ Some (after_all t (given ∷ [])))
ServesNext j a t (Err e) b told = (b.state ≡ a.state) × (b.keeper ≡ a.keeper) × Rose a.door b.door × (told ≡ Some t)

-- all that were asked for; or fewer, where the door's count of faults rose when the next one was to begin
abbrev pub ServesAll : {E : Type 0} → Judging → Moment → Told → ℕ → Result (Unit {0}) E → Moment → Option Told → Type 0
ServesAll j a t count (Ok done) b told = HaveTurns j a t count b told
ServesAll j a t count (Err e) b told =
    (m : Moment) × (n : ℕ) × (n < count) × HaveTurns j a t n m told × (b.state ≡ m.state) × (b.keeper ≡ m.keeper) × Rose m.door b.door

-- whether the door failed to begin a conversation
abbrev pub HasNextCause : {E : Type 0} → ℕ → ℕ → Result (Unit {0}) E → Type 0
HasNextCause before now (Ok done) = Unit {0}
HasNextCause before now (Err e) = Rose before now

-- the requests were accepted one after the other, and left this state
abbrev pub AreAccepted : Judging → State → List Request → Type 0
AreAccepted j s [] = Unit {0}
AreAccepted j s (r ∷ rs) = IsRequest r × IsAccepted (judged j s r) × AreAccepted j (next j s r) rs

abbrev pub Comes : Judging → State → State → Type 0
Comes j s now = (requests : List Request) × AreAccepted j s requests × (now ≡ run j s requests)
