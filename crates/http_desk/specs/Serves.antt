-- One conversation, served whole.
use Rattle.std.specs.Prelude.{◌≡◌, ℕ, ◌<◌, ◌⊎◌, List, [], ◌∷◌, ◌++◌, Option, None, Some, Ok, length, take}
use Rattle.outside.specs.Faults.{Rose}
use Rattle.doors.specs.Door.{Told, left_of, past, giving}
use Rattle.review_rules.specs.State.{State}
use Rattle.review_rules.specs.Rules.{Accepted, Repeated}
use Rattle.review_rules.specs.Judging.{IsRequest, Judging, judged}
use Rattle.review_rules.specs.declared.requests.Request.{Request}
use Rattle.desk_tables.specs.declared.rows.Rows.{Rows}
use Rattle.desk_replies.specs.declared.giving.Media.TheVariants.{Json}
use Rattle.desk_replies.specs.Replies.{reply_text, store_body, memory_body}
use Rattle.http_desk.specs.declared.serving.Served.{Served}
use Rattle.http_desk.specs.declared.serving.Served.TheVariants.{Replied, DoorFault}
use Rattle.desk_requests.specs.Asks.{Asks}
use Rattle.desk_requests.specs.declared.requests.Asked.TheVariants.{Command as AskedCommand}
use Rattle.http_desk.specs.Answer.{Answered, Answer, AnswersNew, told}

-- the bytes of a reply
abbrev pub text_of : Answered → List ℕ
text_of answer = reply_text answer.code answer.media answer.body

abbrev pub no_store : State → Answered
no_store s = record { code = 503; media = Json; body = store_body; next = s }

abbrev pub no_room : State → Answered
no_room s = record { code = 507; media = Json; body = memory_body; next = s }

-- a reply to the bytes of a conversation, with the keeper's count of faults before and afterwards: the defined one; or
-- 503 with the state as before, where a new command is accepted and the count rose; or 507 with the state as before
pub data IsReply (j : Judging) (s : State) (input : List ℕ) (before now : ℕ) (answer : Answered) : Type 0 where
  defined : Answer j s input answer → IsReply j s input before now answer
  store_fault : AnswersNew j s input → Rose before now → answer ≡ no_store s → IsReply j s input before now answer
  no_memory : answer ≡ no_room s → IsReply j s input before now answer

-- the whole reply was given; or the door failed in `take`, and nothing was given and the state is as before; or it failed
-- in `give`, and a beginning of a reply was given, with that reply's state
abbrev pub Converses : Judging → State → Told → ℕ → ℕ → Served → State → Option Told → Type 0
Converses j s t before now (Replied code) next told =
    (answer : Answered) × IsReply j s (left_of t) before now answer × (answer.code ≡ code) × (answer.next ≡ next)
    × ((n : ℕ) × (told ≡ Some (giving (text_of answer) (past n t))))
Converses j s t before now DoorFault next told =
    ((next ≡ s) × ((n : ℕ) × (told ≡ Some (past n t))))
    ⊎ ((answer : Answered) × IsReply j s (left_of t) before now answer × (answer.next ≡ next)
    × ((n : ℕ) × (k : ℕ) × (k < length (text_of answer)) × (told ≡ Some (giving (take k (text_of answer)) (past n t)))))

-- the conversation is ended, with these bytes given to it
abbrev pub after : Told → List ℕ → Told
after t bytes = record { port = t.port; talk = None; ended = t.ended ++ (bytes ∷ []); coming = t.coming }

-- what was given to a conversation of this input, and how it ended: the whole of a reply; or the door failed in `take`,
-- nothing was given and the state is as before; or it failed in `give` behind a beginning of a reply, with that reply's state
abbrev pub IsServed : Judging → State → List ℕ → ℕ → ℕ → Served → State → List ℕ → Type 0
IsServed j s input before now (Replied code) next given =
    (answer : Answered) × IsReply j s input before now answer × (answer.code ≡ code) × (answer.next ≡ next) × (given ≡ text_of answer)
IsServed j s input before now DoorFault next given =
    ((next ≡ s) × (given ≡ []))
    ⊎ ((answer : Answered) × IsReply j s input before now answer × (answer.next ≡ next)
    × ((k : ℕ) × (k < length (text_of answer)) × (given ≡ take k (text_of answer))))

-- the conversation that had this input was served so, and is ended
abbrev pub Serves : Judging → State → Told → List ℕ → ℕ → ℕ → Served → State → Option Told → Type 0
Serves j s t input before now served next told = (given : List ℕ) × IsServed j s input before now served next given × (told ≡ Some (after t given))

-- the count of the door's faults
abbrev pub HasServedCause : ℕ → ℕ → Served → Type 0
HasServedCause before now (Replied code) = now ≡ before
HasServedCause before now DoorFault = Rose before now

-- a count of faults stands, or rose
abbrev pub StandsOrRose : ℕ → ℕ → Type 0
StandsOrRose before now = (now ≡ before) ⊎ Rose before now

-- the state is as before, or the next one of some request that is accepted
abbrev pub Moves : Judging → State → State → Type 0
Moves j s next = (next ≡ s) ⊎ ((r : Request) × (tables : Rows) × (reply : List ℕ) × IsRequest r × (judged j s r ≡ Accepted tables reply) × (next ≡ record { users = s.users; tables = tables }))

-- ---- laws

-- a conversation has one answer
abbrev pub HasOneAnswer : Type 0
HasOneAnswer = (j : Judging) (s : State) (input : List ℕ) (a b : Answered) → Answer j s input a → Answer j s input b → a ≡ b

-- a reply that speaks of want: of the keeper, or of memory
abbrev pub IsWant : ℕ → Type 0
IsWant code = (code ≡ 503) ⊎ (code ≡ 507)

-- two conversations of the same bytes at the same state get the same reply and leave the same state, however the bytes
-- were cut, but for want
abbrev pub CutsDontMatter : Type 0
CutsDontMatter =
    (j : Judging) (s : State) (input : List ℕ) (before now before' now' : ℕ) (a b : Answered)
    → IsReply j s input before now a → IsReply j s input before' now' b → (IsWant a.code ⊎ IsWant b.code) ⊎ (a ≡ b)

-- a command that was accepted before under this key is answered as it was then, and the state is as before
abbrev pub RepeatsActOnce : Type 0
RepeatsActOnce =
    (j : Judging) (s : State) (input : List ℕ) (request : Request) (reply : List ℕ) (answer : Answered)
    → Asks input (Ok (AskedCommand request)) → judged j s request ≡ Repeated reply → Answer j s input answer → answer ≡ told s Json reply
