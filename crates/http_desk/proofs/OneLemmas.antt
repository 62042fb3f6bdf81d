-- A conversation has one answer, however its bytes were cut.
use Rattle.std.proofs.Common.{◌≡◌, ℕ, ◌⊎◌, inl, inr, List, Ok, ap, sym, ◌∙◌}
use Rattle.review_rules.specs.State.{State}
use Rattle.review_rules.specs.Judging.{Judging, judged}
use Rattle.desk_requests.proofs.OneLemmas.{asks_one}
use Rattle.review_rules.specs.Rules.{Repeated}
use Rattle.review_rules.specs.declared.requests.Request.{Request}
use Rattle.desk_requests.specs.Asks.{Asks}
use Rattle.desk_requests.specs.declared.requests.Asked.TheVariants.{Command as AskedCommand}
use Rattle.desk_replies.specs.declared.giving.Media.TheVariants.{Json}
use Rattle.http_desk.specs.Answer.{Answer, Answered, answered, performed, told}
use Rattle.http_desk.specs.Serves.{IsReply, defined, store_fault, no_memory, IsWant}

pub one_answer : (j : Judging) (s : State) (input : List ℕ) (a b : Answered) → Answer j s input a → Answer j s input b → a ≡ b
one_answer j s input a b x y = sym x.2 ∙ ap (answered j s) (asks_one input x.0 y.0 x.1 y.1) ∙ y.2

pub alike : (j : Judging) (s : State) (input : List ℕ) (before now before' now' : ℕ) (a b : Answered)
    → IsReply j s input before now a → IsReply j s input before' now' b → (IsWant a.code ⊎ IsWant b.code) ⊎ (a ≡ b)
alike j s input before now before' now' a b (store_fault new rose e) y = inl (inl (inl (ap (λ (x : Answered). x.code) e)))
alike j s input before now before' now' a b (no_memory e) y = inl (inl (inr (ap (λ (x : Answered). x.code) e)))
alike j s input before now before' now' a b (defined x) (store_fault new rose e) = inl (inr (inl (ap (λ (x : Answered). x.code) e)))
alike j s input before now before' now' a b (defined x) (no_memory e) = inl (inr (inr (ap (λ (x : Answered). x.code) e)))
alike j s input before now before' now' a b (defined x) (defined y) = inr (one_answer j s input a b x y)

pub acts_once : (j : Judging) (s : State) (input : List ℕ) (request : Request) (reply : List ℕ) (answer : Answered)
    → Asks input (Ok (AskedCommand request)) → judged j s request ≡ Repeated reply → Answer j s input answer → answer ≡ told s Json reply
acts_once j s input request reply answer asks is x =
    one_answer j s input answer (told s Json reply) x (Ok (AskedCommand request), asks, ap (performed s request.command) is)
