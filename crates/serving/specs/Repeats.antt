-- Repeats act once: conversations that ask again for what was accepted change nothing. The rule is this project's own.
use Rattle.std.specs.Prelude.{ℕ, ◌≡◌, ◌<◌, ◌⊎◌, List, [], ◌∷◌, ◌++◌, Ok, length, map, take}
use Rattle.desk_tables.specs.Valid.{IsValid}
use Rattle.desk_tables.specs.declared.rows.Rows.{Rows}
use Rattle.review_rules.specs.State.{State}
use Rattle.review_rules.specs.Rules.{Repeated, Accepted}
use Rattle.review_rules.specs.Judging.{Judging, IsJudging, judged}
use Rattle.review_rules.specs.declared.requests.Request.{Request}
use Rattle.desk_requests.specs.Asks.{Asks}
use Rattle.desk_requests.specs.declared.requests.Asked.TheVariants.{Command as AskedCommand}
use Rattle.desk_replies.specs.declared.giving.Media.TheVariants.{Json}
use Rattle.desk_replies.specs.Replies.{reply_text, store_body, memory_body}
use Rattle.http_desk.specs.declared.serving.Served.{Served}
use Rattle.http_desk.specs.declared.serving.Served.TheVariants.{Replied, DoorFault}
use Rattle.http_desk.specs.Answer.{Answered, Answer, told}
use Rattle.http_desk.specs.Serves.{IsServed, no_room, text_of}
use Rattle.serving.specs.Turns.{Moment, AreTurns}

-- what became of a conversation: it came to its defined answer, whether or not all of the reply was given; or it was lost
-- to a fault of the door or of the keeper, or to want of memory, and the state is as before
pub data Fate : Type 0 where
  Done : Fate
  Lost : Fate

abbrev pub IsDone : Fate → Type 0
IsDone Done = Unit {0}
IsDone Lost = ⊥

-- a conversation, by the bytes that came
pub record Conversation : Type 0 where
  pub input : List ℕ
  pub fate : Fate

abbrev pub Leaves : Judging → State → List ℕ → Fate → State → Type 0
Leaves j s input Done now = (answer : Answered) × Answer j s input answer × (now ≡ answer.next)
Leaves j s input Lost now = now ≡ s

-- the conversation, served at a state, leaves this one
abbrev pub IsStep : Judging → State → Conversation → State → Type 0
IsStep j s c now = Leaves j s c.input c.fate now

-- the conversations do, served one after the other
abbrev pub AreSteps : Judging → State → List Conversation → State → Type 0
AreSteps j s [] now = now ≡ s
AreSteps j s (c ∷ cs) now = (m : State) × IsStep j s c m × AreSteps j m cs now

-- the conversation asked for the request, and it was accepted with this reply
abbrev pub Accepts : Judging → State → Conversation → Request → List ℕ → Type 0
Accepts j s c r reply = IsDone c.fate × Asks c.input (Ok (AskedCommand r)) × ((tables : Rows) × (judged j s r ≡ Accepted tables reply))

-- it was, in one of the conversations, served one after the other from this state
abbrev pub HaveAccepted : Judging → State → List Conversation → Request → List ℕ → Type 0
HaveAccepted j s [] r reply = ⊥
HaveAccepted j s (c ∷ cs) r reply = Accepts j s c r reply ⊎ ((m : State) × IsStep j s c m × HaveAccepted j m cs r reply)

-- the request was accepted with this reply: its key is kept with the same command where those conversations began, or it
-- was accepted in one of them
abbrev pub WasAccepted : Judging → State → List Conversation → Request → List ℕ → Type 0
WasAccepted j s past r reply = (judged j s r ≡ Repeated reply) ⊎ HaveAccepted j s past r reply

-- this input asks again for what was accepted before with this reply: by the same user, under the same key, the same
-- command
abbrev pub AsksAgain : Judging → State → List Conversation → List ℕ → List ℕ → Type 0
AsksAgain j s past input reply = (r : Request) × Asks input (Ok (AskedCommand r)) × WasAccepted j s past r reply

-- with those conversations past, from this state on, the short list is the long one without some that ask again
abbrev pub LeaveOutRepeats : Judging → State → List Conversation → List Conversation → List Conversation → Type 0
LeaveOutRepeats j s past [] short = short ≡ []
LeaveOutRepeats j s past (c ∷ long) short =
    (((reply : List ℕ) × AsksAgain j s past c.input reply) × LeaveOutRepeats j s (past ++ (c ∷ [])) long short)
    ⊎ ((rest : List Conversation) × (short ≡ c ∷ rest) × LeaveOutRepeats j s (past ++ (c ∷ [])) long rest)

-- conversations leave the state that they leave without those that ask again, where each of the others has the same
-- fate in both; of those that ask again any may be lost
abbrev pub RepeatsActOnce : Type 0
RepeatsActOnce =
    (j : Judging) (s a b : State) (long short : List Conversation)
    → IsJudging j → IsValid s.tables → LeaveOutRepeats j s [] long short → AreSteps j s long a → AreSteps j s short b → a ≡ b

-- the whole of the reply was given; or, where the door failed, a beginning of it, or nothing
abbrev pub Gives : Served → Answered → List ℕ → Type 0
Gives (Replied code) answer given = (answer.code ≡ code) × (given ≡ text_of answer)
Gives DoorFault answer given = (k : ℕ) × (k < length (text_of answer)) × (given ≡ take k (text_of answer))

-- a conversation that asks again leaves the state as it is, whatever became of it; it is given the reply of the first
-- time, or 507
abbrev pub RepeatsAreAnswered : Type 0
RepeatsAreAnswered =
    (j : Judging) (s m next : State) (past : List Conversation) (input reply given : List ℕ) (before now : ℕ) (served : Served)
    → IsJudging j → IsValid s.tables → AreSteps j s past m → AsksAgain j s past input reply → IsServed j m input before now served next given
    → (next ≡ m) × (Gives served (told m Json reply) given ⊎ Gives served (no_room m) given)

abbrev pub inputs_of : List Conversation → List (List ℕ)
inputs_of cs = map (λ (c : Conversation). c.input) cs

-- the reply of a keeper's fault or of want of memory, or a beginning of it, or nothing
abbrev pub SpeaksOfWant : List ℕ → Type 0
SpeaksOfWant given = (k : ℕ) × ((given ≡ take k (reply_text 503 Json store_body)) ⊎ (given ≡ take k (reply_text 507 Json memory_body)))

-- each conversation was given this: one that is lost no more than a reply of want
abbrev pub AreGiven : List Conversation → List (List ℕ) → Type 0
AreGiven [] [] = Unit {0}
AreGiven (c ∷ cs) (given ∷ givens) = (IsDone c.fate ⊎ SpeaksOfWant given) × AreGiven cs givens
AreGiven _ _ = ⊥

-- conversations that were served one after the other are such steps
abbrev pub TurnsAreSteps : Type 0
TurnsAreSteps =
    (j : Judging) (a b : Moment) (inputs givens : List (List ℕ))
    → AreTurns j a inputs givens b → (cs : List Conversation) × (inputs_of cs ≡ inputs) × AreGiven cs givens × AreSteps j a.state cs b.state
