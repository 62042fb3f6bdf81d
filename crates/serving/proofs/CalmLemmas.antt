-- Conversations in which no count of faults rose.
use Rattle.std.proofs.Common.{◌≡◌, ℕ, ◌≤◌, ◌⊎◌, inl, inr, List, Ok, ap, sym, subst, refl, ◌∙◌, arith}
use Rattle.outside.specs.Faults.{Rose}
use Rattle.desk_tables.specs.declared.rows.Rows.{Rows}
use Rattle.review_rules.specs.State.{State}
use Rattle.review_rules.specs.Rules.{Outcome, Accepted}
use Rattle.review_rules.specs.Judging.{Judging, judged}
use Rattle.review_rules.specs.declared.requests.Request.{Request}
use Rattle.desk_requests.specs.Asks.{Asks}
use Rattle.desk_requests.specs.declared.requests.Asked.TheVariants.{Command as AskedCommand}
use Rattle.desk_replies.specs.declared.giving.Media.TheVariants.{Json}
use Rattle.desk_replies.specs.Replies.{reply_text}
use Rattle.http_desk.proofs.OneLemmas.{one_answer}
use Rattle.http_desk.specs.Answer.{Answered, Answer, performed}
use Rattle.http_desk.specs.Serves.{IsReply, defined, store_fault, no_memory, no_room, text_of, IsServed, HasServedCause, StandsOrRose}
use Rattle.http_desk.specs.declared.serving.Served.{Served}
use Rattle.http_desk.specs.declared.serving.Served.TheVariants.{Replied, DoorFault}
use Rattle.serving.specs.Turns.{AreTurns, IsTurn, Moment}
use Rattle.serving.specs.Turns as Turns
use Rattle.serving.specs.Calm.{AreAnswered, GetsNoRoom, IsAnswered, IsCalm, none, behind}

-- ---- counts

rose_twice : (a b c : ℕ) → Rose a b → Rose b c → Rose a c
rose_twice a b c x y = omega arith

pub then_rose : (a b c : ℕ) → StandsOrRose a b → Rose b c → Rose a c
then_rose a b c (inl same) y = subst (λ (n : ℕ). Rose n c) same y
then_rose a b c (inr rose) y = rose_twice a b c rose y

pub rose_then : (a b c : ℕ) → Rose a b → StandsOrRose b c → Rose a c
rose_then a b c x (inl same) = subst (λ (n : ℕ). Rose a n) (sym same) x
rose_then a b c x (inr rose) = rose_twice a b c x rose

both_stand : (a b c : ℕ) → StandsOrRose a b → StandsOrRose b c → StandsOrRose a c
both_stand a b c (inl same) (inl too) = inl (too ∙ same)
both_stand a b c (inl same) (inr rose) = inr (then_rose a b c (inl same) rose)
both_stand a b c (inr rose) y = inr (rose_then a b c rose y)

door_stands : (a b : ℕ) (served : Served) → HasServedCause a b served → StandsOrRose a b
door_stands a b (Replied code) cause = inl cause
door_stands a b DoorFault cause = inr cause

-- over conversations each count stands, or rose
pub keeper_stands : (j : Judging) (a b : Moment) (inputs givens : List (List ℕ)) → AreTurns j a inputs givens b → StandsOrRose a.keeper b.keeper
keeper_stands j a b _ _ Turns.none = inl refl
keeper_stands j a b _ _ (Turns.behind {inputs} {givens} {input} {given} {b = m} {c} turns turn) =
    both_stand a.keeper m.keeper b.keeper (keeper_stands j a m inputs givens turns) turn.3

pub gate_stands : (j : Judging) (a b : Moment) (inputs givens : List (List ℕ)) → AreTurns j a inputs givens b → StandsOrRose a.door b.door
gate_stands j a b _ _ Turns.none = inl refl
gate_stands j a b _ _ (Turns.behind {inputs} {givens} {input} {given} {b = m} {c} turns turn) =
    both_stand a.door m.door b.door (gate_stands j a m inputs givens turns) (door_stands m.door b.door turn.0 turn.2)

-- ---- conversations

replied : (j : Judging) (s : State) (input : List ℕ) (before now : ℕ) (answer : Answered) (next : State) (given : List ℕ)
    → IsReply j s input before now answer → (Rose before now → ⊥) → answer.next ≡ next → given ≡ text_of answer → IsAnswered j s input given next
replied j s input before now answer next given (defined is) calm to e = inl (answer, is, e, sym to)
replied j s input before now answer next given (store_fault new rose is) calm to e = absurd (calm rose)
replied j s input before now answer next given (no_memory is) calm to e = inr (e ∙ ap text_of is, sym to ∙ ap (λ (x : Answered). x.next) is)

answered_turn : (j : Judging) (a b : Moment) (input given : List ℕ) → IsTurn j a input given b → IsCalm a b → IsAnswered j a.state input given b.state
answered_turn j a b input given (Replied code, is, cause, counted) calm =
    replied j a.state input a.keeper b.keeper is.0 b.state given is.1 calm.keeper is.3 is.4
answered_turn j a b input given (DoorFault, is, cause, counted) calm = absurd (calm.door cause)

pub answered_turns : (j : Judging) (a b : Moment) (inputs givens : List (List ℕ)) → AreTurns j a inputs givens b → IsCalm a b → AreAnswered j a.state inputs givens b.state
answered_turns j a b _ _ Turns.none calm = none
answered_turns j a b _ _ (Turns.behind {inputs} {givens} {input} {given} {b = m} {c} turns turn) calm =
    let before : IsCalm a m = record {
      keeper = λ rose. calm.keeper (rose_then a.keeper m.keeper b.keeper rose turn.3);
      door = λ rose. calm.door (rose_then a.door m.door b.door rose (door_stands m.door b.door turn.0 turn.2));
    } in
    let last : IsCalm m b = record {
      keeper = λ rose. calm.keeper (then_rose a.keeper m.keeper b.keeper (keeper_stands j a m inputs givens turns) rose);
      door = λ rose. calm.door (then_rose a.door m.door b.door (gate_stands j a m inputs givens turns) rose);
    } in
    behind input given m.state (answered_turns j a m inputs givens turns before) (answered_turn j m b input given turn last)

-- ---- accepted commands

pub accepted_answered : (j : Judging) (s next : State) (input given reply : List ℕ) (r : Request) (tables : Rows)
    → Asks input (Ok (AskedCommand r)) → judged j s r ≡ Accepted tables reply → IsAnswered j s input given next
    → ((given ≡ reply_text 200 Json reply) × (next ≡ record { users = s.users; tables = tables })) ⊎ GetsNoRoom s given next
accepted_answered j s next input given reply r tables asks is (inl (answer, answers, whole, to)) =
    let meant : Answered = record { code = 200; media = Json; body = reply; next = record { users = s.users; tables = tables } } in
    let same : answer ≡ meant = one_answer j s input answer meant answers (Ok (AskedCommand r), asks, ap (performed s r.command) is) in
    inl (whole ∙ ap text_of same, to ∙ ap (λ (x : Answered). x.next) same)
accepted_answered j s next input given reply r tables asks is (inr none_left) = inr none_left
