-- What a conversation asks for, by its bytes alone.
use Rattle.std.specs.Prelude.{◌≡◌, ℕ, List, Option, Some, Result, Ok, Err, length, take, drop, nat_lt, if◌then◌else◌}
use Rattle.doors.specs.Door.{Told, left_of, past}
use Rattle.review_rules.specs.Judging.{IsRequest}
use Rattle.review_rules.specs.declared.requests.Command.{Command}
use Rattle.desk_requests.specs.Head.{framed}
use Rattle.desk_requests.specs.Plans.{Plans}
use Rattle.desk_requests.specs.Bodies.{command_of}
use Rattle.desk_requests.specs.declared.requests.Asked.{Asked}
use Rattle.desk_requests.specs.declared.requests.Asked.TheVariants.{Query as AskedQuery, Command as AskedCommand}
use Rattle.desk_requests.specs.declared.requests.Heard.{Heard}
use Rattle.desk_requests.specs.declared.requests.Form.{Form}
use Rattle.desk_requests.specs.declared.requests.Plan.{Plan}
use Rattle.desk_requests.specs.declared.requests.Plan.TheVariants.{Now, Body}
use Rattle.desk_requests.specs.declared.refusals.HttpRefusal.{HttpRefusal}
use Rattle.desk_requests.specs.declared.refusals.HttpRefusal.TheVariants.{BadRequest}

-- the command in the input behind the head; what stands behind the body is not looked at
abbrev pub commanded : Form → ℕ → List ℕ → Result Command HttpRefusal
commanded form size rest = if nat_lt (length rest) size then Err BadRequest else command_of form (take size rest)

abbrev pub with_command : List ℕ → List ℕ → Result Command HttpRefusal → Result Asked HttpRefusal
with_command token key (Ok command) = Ok (AskedCommand (record { token = token; key = key; command = command }))
with_command token key (Err refusal) = Err refusal

abbrev pub asked_with : List ℕ → List ℕ → Plan → List ℕ → Result Asked HttpRefusal
asked_with token key (Now query) rest = Ok (AskedQuery token query)
asked_with token key (Body form size) rest = with_command token key (commanded form size rest)

abbrev pub asked : Result Heard HttpRefusal → List ℕ → Result Asked HttpRefusal
asked (Err refusal) rest = Err refusal
asked (Ok heard) rest = asked_with heard.token heard.key heard.plan rest

abbrev pub AsksFramed : List ℕ → Result ℕ HttpRefusal → Result Asked HttpRefusal → Type 0
AsksFramed input (Err refusal) a = a ≡ Err refusal
AsksFramed input (Ok n) a = (heard : Result Heard HttpRefusal) × Plans (take n input) heard × (a ≡ asked heard (drop n input))

-- what the bytes of a conversation ask for, or their first refusal
abbrev pub Asks : List ℕ → Result Asked HttpRefusal → Type 0
Asks input a = AsksFramed input (framed input) a

-- a conversation asks for one thing
abbrev pub AskForOne : Type 0
AskForOne = (input : List ℕ) (a b : Result Asked HttpRefusal) → Asks input a → Asks input b → a ≡ b

-- a command is one of which the desk can be asked
abbrev pub IsSoundAsked : Asked → Type 0
IsSoundAsked (AskedQuery token query) = Unit {0}
IsSoundAsked (AskedCommand request) = IsRequest request

-- a reading that found what is asked; more of the input may have been taken than it needed
abbrev pub Hears : {E : Type 0} → Told → Result (Result Asked HttpRefusal) E → Option Told → Type 0
Hears t (Ok a) now = Asks (left_of t) a × ((n : ℕ) × (now ≡ Some (past n t)))
Hears t (Err e) now = (n : ℕ) × (now ≡ Some (past n t))

-- a reading behind a head of so many bytes
abbrev pub HearsAs : {A E : Type 0} → Told → (List ℕ → A) → ℕ → Result A E → Option Told → Type 0
HearsAs t wanted len (Ok a) now = (a ≡ wanted (drop len (left_of t))) × ((n : ℕ) × (now ≡ Some (past n t)))
HearsAs t wanted len (Err e) now = (n : ℕ) × (now ≡ Some (past n t))
