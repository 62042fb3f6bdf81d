-- From what was performed to what is replied.
use Rattle.std.proofs.Common.{◌≡◌, ℕ, inr, List, Result, Ok, ap, sym, ◌∙◌}
use Rattle.review_rules.specs.State.{State}
use Rattle.review_rules.specs.Rules.{Repeated, Refused, Accepted}
use Rattle.review_rules.specs.Judging.{IsRequest, Judging, judged}
use Rattle.review_rules.specs.declared.requests.Request.{Request}
use Rattle.review_rules.specs.declared.requests.Rule.{Rule}
use Rattle.desk_requests.specs.declared.refusals.HttpRefusal.{HttpRefusal}
use Rattle.desk_requests.specs.declared.requests.Asked.{Asked}
use Rattle.desk_requests.specs.declared.requests.Asked.TheVariants.{Command as AskedCommand}
use Rattle.desk_replies.specs.declared.giving.Media.TheVariants.{Json}
use Rattle.http_desk.specs.Answer.{Answered, answered, performed, broken, side_files, refused_side}
use Rattle.http_desk.specs.declared.ruling.Ruling.{Ruling}
use Rattle.http_desk.specs.declared.ruling.Ruling.TheVariants.{Done, Broken, Faulty, StoreFault, NoMemory}
use Rattle.http_desk.specs.Ruled.{as_answer, RuledAs, IsRuling}
use Rattle.http_desk.specs.Serves.{Moves}

-- a ruling on the answer, which leaves the state, is one on what was asked
pub ruled_as : (j : Judging) (s : State) (a : Result Asked HttpRefusal) (before now : ℕ) (ruling : Ruling) (next : State) (answer : Answered)
    → answered j s a ≡ answer → next ≡ s → IsRuling answer next ruling → RuledAs j s a before now ruling next
ruled_as j s a before now (Done media body) next answer e same is = e ∙ is
ruled_as j s a before now (Broken rule body) next answer e same is = e ∙ is
ruled_as j s a before now (Faulty refusal) next answer e same is = e ∙ is
ruled_as j s a before now StoreFault next answer e same is = absurd is
ruled_as j s a before now NoMemory next answer e same is = same

-- an accepted command: its reply, and the machine's state
pub accepted_as : (j : Judging) (s next : State) (r : Request) (body : List ℕ) → judged j s r ≡ Accepted next.tables body → next.users ≡ s.users
    → answered j s (Ok (AskedCommand r)) ≡ as_answer (Done Json body) next
accepted_as j s next r body e u =
    ap (performed s r.command) e
    ∙ ap (λ us. record { code = 200; media = Json; body = body; next = record { users = us; tables = next.tables } }) (sym u)

pub accepted_moves : (j : Judging) (s next : State) (r : Request) (body : List ℕ) → IsRequest r → judged j s r ≡ Accepted next.tables body → next.users ≡ s.users → Moves j s next
accepted_moves j s next r body is e u = inr (r, next.tables, body, is, e, ap (λ us. record { users = us; tables = next.tables }) u)

-- a repeated command: what is kept, and the state as before
pub repeated_as : (j : Judging) (s next : State) (r : Request) (body : List ℕ) → judged j s r ≡ Repeated body → next ≡ s
    → answered j s (Ok (AskedCommand r)) ≡ as_answer (Done Json body) next
repeated_as j s next r body e same = ap (performed s r.command) e ∙ ap (as_answer (Done Json body)) (sym same)

-- a command that breaks a rule

pub refused_as : (j : Judging) (s next : State) (r : Request) (rule : Rule) (before now : ℕ) (ruling : Ruling) → judged j s r ≡ Refused rule → next ≡ s
    → IsRuling (broken next (side_files next.tables r.command (refused_side rule)) rule) next ruling → RuledAs j s (Ok (AskedCommand r)) before now ruling next
refused_as j s next r rule before now ruling e same is =
    ruled_as j s (Ok (AskedCommand r)) before now ruling next (broken next (side_files next.tables r.command (refused_side rule)) rule)
    (ap (performed s r.command) e ∙ ap (λ (x : State). broken x (side_files x.tables r.command (refused_side rule)) rule) (sym same))
    same
    is
