-- Conversations in which nothing failed. What is meant by them is this project's own.
use Rattle.std.specs.Prelude.{ℕ, ◌≡◌, ◌⊎◌, List, [], ◌∷◌, ◌++◌}
use Rattle.outside.specs.Faults.{Rose}
use Rattle.review_rules.specs.State.{State}
use Rattle.review_rules.specs.Rules.{Accepted}
use Rattle.review_rules.specs.Judging.{Judging, judged}
use Rattle.review_rules.specs.declared.requests.Request.{Request}
use Rattle.desk_tables.specs.declared.rows.Rows.{Rows}
use Rattle.desk_requests.specs.Asks.{Asks}
use Rattle.desk_requests.specs.declared.requests.Asked.TheVariants.{Command as AskedCommand}
use Rattle.desk_replies.specs.declared.giving.Media.TheVariants.{Json}
use Rattle.desk_replies.specs.Replies.{reply_text}
use Rattle.std.specs.Prelude.{Ok}
use Rattle.http_desk.specs.Answer.{Answered, Answer}
use Rattle.http_desk.specs.Serves.{no_room, text_of}
use Rattle.serving.specs.Turns.{AreTurns, Moment}

-- the whole of the defined reply was given, and the state is that of the answer
abbrev pub GetsAnswer : Judging → State → List ℕ → List ℕ → State → Type 0
GetsAnswer j s input given next = (answer : Answered) × Answer j s input answer × (given ≡ text_of answer) × (next ≡ answer.next)

-- the whole of 507 was given, and the state is as before
abbrev pub GetsNoRoom : State → List ℕ → State → Type 0
GetsNoRoom s given next = (given ≡ text_of (no_room s)) × (next ≡ s)

abbrev pub IsAnswered : Judging → State → List ℕ → List ℕ → State → Type 0
IsAnswered j s input given next = GetsAnswer j s input given next ⊎ GetsNoRoom s given next

-- conversations of these inputs were answered so, one after the other, with this given to each
pub data AreAnswered (j : Judging) (s : State) : List (List ℕ) → List (List ℕ) → State → Type 0 where
  none : AreAnswered j s [] [] s
  behind : {inputs givens : List (List ℕ)} (input given : List ℕ) (m : State) {next : State} →
      AreAnswered j s inputs givens m → IsAnswered j m input given next → AreAnswered j s (inputs ++ (input ∷ [])) (givens ++ (given ∷ [])) next

-- no count of faults rose between two moments
pub record IsCalm (a b : Moment) : Type 0 where
  pub keeper : Rose a.keeper b.keeper → ⊥
  pub door : Rose a.door b.door → ⊥

-- ---- laws

-- where no count of faults rose, each conversation gets its answer, or 507 with all unchanged
abbrev pub CalmTurnsAreAnswered : Type 0
CalmTurnsAreAnswered =
    (j : Judging) (a b : Moment) (inputs givens : List (List ℕ)) → AreTurns j a inputs givens b → IsCalm a b → AreAnswered j a.state inputs givens b.state

-- a command that breaks no rule is accepted there: the machine's reply is given with 200 and its tables are those of the
-- desk, or 507 is given and all is unchanged
abbrev pub AcceptedAreAnswered : Type 0
AcceptedAreAnswered =
    (j : Judging) (s next : State) (input given reply : List ℕ) (r : Request) (tables : Rows) →
    Asks input (Ok (AskedCommand r)) → judged j s r ≡ Accepted tables reply → IsAnswered j s input given next →
    ((given ≡ reply_text 200 Json reply) × (next ≡ record { users = s.users; tables = tables })) ⊎ GetsNoRoom s given next
