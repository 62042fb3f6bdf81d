-- What the program does with its words: its text, and its status.
use Rattle.std.specs.Prelude.{ℕ, ◌≡◌, ◌≤◌, ◌<◌, ◌⊎◌, ◌++◌, Bool, List as Seq, length, take, codes, Option, Some, None, Result, Ok, Err, if◌then◌else◌}
use Rattle.outside.specs.Content.{Content}
use Rattle.outside.specs.Faults.{Rose}
use Rattle.judging.specs.declared.inputs.Inputs.{Inputs}
use Rattle.commands.specs.declared.answer.Answer.{Answer}
use Rattle.commands.specs.declared.stable.Proposal.{Proposal}
use Rattle.commands.specs.declared.stop.Stop.{Stop}
use Rattle.commands.specs.declared.stop.Stop.TheVariants.{Refused, ReadFault, NoMemory}
use Rattle.commands.specs.declared.refusals.Refusal.{Refusal}
use Rattle.command_words.specs.Commands.{Asked, Check, Stable, Gen}
use Rattle.commands.specs.CheckEnding.{IsReport, check_steps, gen_steps, solved_in}
use Rattle.commands.specs.Refusals.{line_of}
use Rattle.commands.specs.StableEnding.{IsStability, stable_inputs}
use Rattle.commands.specs.Stops.{Comes, Counts, CountsOf}

-- the line of words that are no command
unfoldable pub usage_line : Seq ℕ
usage_line = codes "usage: check BASE NEW PROPS [WORKERS] | stable BUNDLE LABELS | serve DB PORT COUNT USERS [WORKERS] | gen N [WORKERS]\n"

-- the line of a shelf that failed
unfoldable pub read_fault_line : Seq ℕ
read_fault_line = codes "read fault\n"

-- 0 where the answer is good, else 1
abbrev pub status_of : Bool → ℕ
status_of good = if good then 0 else 1

-- a command was answered on its inputs
pub record IsAnswered (Is : Seq ℕ → Bool → Type 0) (text : Seq ℕ) (status : ℕ) : Type 0 where
  pub good : Bool
  pub answer : Is text good
  pub status_is : status ≡ status_of good

-- a step of it refused, and its line says why
pub record IsRefused (refusal : Refusal) (text : Seq ℕ) (status : ℕ) : Type 0 where
  pub text_is : text ≡ line_of refusal
  pub status_is : status ≡ 2

-- how a command ends: what its steps come to, its input or the first refusal; which text answers on an input, and
-- whether that is good; and how many ticks are made for it, one for each case that is solved
pub record Ending : Type 1 where
  pub Input : Type 0
  pub steps : Result Input Refusal
  pub Is : Input → Seq ℕ → Bool → Type 0
  pub count : Input → ℕ

-- the ending of each command over this content; how many workers there are decides nothing
abbrev pub ending_of : Content → Asked → Ending
ending_of content (Check base new properties workers) =
    record { Input = Inputs; steps = check_steps content base new properties; Is = IsReport; count = solved_in }
ending_of content (Stable bundle labels) =
    record { Input = Proposal; steps = stable_inputs content bundle labels; Is = IsStability; count = λ proposal. 0 }
ending_of content (Gen columns workers) = record { Input = Inputs; steps = gen_steps columns; Is = IsReport; count = solved_in }

-- the text and the status of a command by what its steps came to: its answer on its inputs, or the line of
-- the refusal
abbrev pub EndsWith : {A : Type 0} → (A → Seq ℕ → Bool → Type 0) → Result A Refusal → Seq ℕ → ℕ → Type 0
EndsWith Is (Ok inputs) text status = IsAnswered (Is inputs) text status
EndsWith Is (Err refusal) text status = IsRefused refusal text status

abbrev pub IsEnding : Ending → Seq ℕ → ℕ → Type 0
IsEnding ending text status = EndsWith ending.Is ending.steps text status

-- what a command comes to, before it is written
abbrev pub Performs : Content → Asked → Result Answer Stop → Type 0
Performs content asked performed = Comes (ending_of content asked).Is (ending_of content asked).steps performed

-- how many ticks it makes
abbrev pub PerformsCounted : Content → Asked → ℕ → ℕ → Result Answer Stop → Type 0
PerformsCounted content asked ticks ticks_now performed = Counts (ending_of content asked).count (ending_of content asked).steps ticks ticks_now performed

abbrev pub IsCounted : Ending → ℕ → ℕ → Type 0
IsCounted ending ticks ticks_now = CountsOf ending.count ending.steps ticks ticks_now

-- the answer of a command over this content, written behind what the sink held before, with its ticks
pub record HasAnswered (content : Content) (asked : Asked) (before : Seq ℕ) (after : Option (Seq ℕ)) (ticks ticks_now status : ℕ) : Type 0 where
  pub text : Seq ℕ
  pub answer : IsEnding (ending_of content asked) text status
  pub written : after ≡ Some (before ++ text)
  pub counted : IsCounted (ending_of content asked) ticks ticks_now

-- the status is that of want of memory, and nothing was written
pub record HasNoMemory (before : Seq ℕ) (after : Option (Seq ℕ)) (status : ℕ) : Type 0 where
  pub status_is : status ≡ 8
  pub written : after ≡ Some before

-- the words are no command
pub record HasUsage (before : Seq ℕ) (after : Option (Seq ℕ)) (ticks ticks_now status : ℕ) : Type 0 where
  pub status_is : status ≡ 3
  pub written : after ≡ Some (before ++ usage_line)
  pub still : ticks_now ≡ ticks

-- what a run comes to over this content where its status is not that of a failure: a command answers with its
-- defined text and status and makes its ticks, and other words are answered by the usage line; or it ends with the
-- status of want of memory and wrote nothing
abbrev pub Answers : Content → Option Asked → Seq ℕ → Option (Seq ℕ) → ℕ → ℕ → ℕ → Type 0
Answers content None before after ticks ticks_now status = HasUsage before after ticks ticks_now status ⊎ HasNoMemory before after status
Answers content (Some asked) before after ticks ticks_now status =
    HasAnswered content asked before after ticks ticks_now status ⊎ HasNoMemory before after status

-- a text is behind what the sink held before
abbrev pub IsBehind : Seq ℕ → Option (Seq ℕ) → Option (Seq ℕ) → Type 0
IsBehind text given given_now = (before : Seq ℕ) → given ≡ Some before → given_now ≡ Some (before ++ text)

-- a beginning of a text, and not all of it, is behind what the sink held before
abbrev pub IsPartBehind : Seq ℕ → Option (Seq ℕ) → Option (Seq ℕ) → Type 0
IsPartBehind text given given_now = (before : Seq ℕ) → given ≡ Some before →
    (k : ℕ) × (k < length text) × (given_now ≡ Some (before ++ take k text))

-- a whole text was written, no call of the sink failed, and the status is this one
pub record IsWhole (wanted : ℕ) (text : Seq ℕ) (faults faults_now : ℕ) (given given_now : Option (Seq ℕ)) (status : ℕ) : Type 0 where
  pub ends : status ≡ wanted
  pub still : faults_now ≡ faults
  pub told : IsBehind text given given_now

-- a call of the sink failed behind a beginning of the text, and the status is 5
pub record IsCut (text : Seq ℕ) (faults faults_now : ℕ) (given given_now : Option (Seq ℕ)) (status : ℕ) : Type 0 where
  pub ends : status ≡ 5
  pub kept : faults ≤ faults_now
  pub rose : Rose faults faults_now
  pub told : IsPartBehind text given given_now

abbrev pub IsWritten : ℕ → Seq ℕ → ℕ → ℕ → Option (Seq ℕ) → Option (Seq ℕ) → ℕ → Type 0
IsWritten wanted text faults faults_now given given_now status =
    IsWhole wanted text faults faults_now given given_now status ⊎ IsCut text faults faults_now given given_now status

-- nothing was written, no call of the sink failed, and the status is that of want of memory
pub record IsSilent (faults faults_now : ℕ) (given given_now : Option (Seq ℕ)) (status : ℕ) : Type 0 where
  pub ends : status ≡ 8
  pub still : faults_now ≡ faults
  pub told : given_now ≡ given

-- how a command that came to this is ended
abbrev pub Finishes : Result Answer Stop → ℕ → ℕ → Option (Seq ℕ) → Option (Seq ℕ) → ℕ → Type 0
Finishes (Ok answer) faults faults_now given given_now status = IsWritten (status_of answer.good) answer.text faults faults_now given given_now status
Finishes (Err (Refused refusal)) faults faults_now given given_now status =
    IsWritten 2 (line_of refusal) faults faults_now given given_now status ⊎ IsSilent faults faults_now given given_now status
Finishes (Err ReadFault) faults faults_now given given_now status = IsWritten 4 read_fault_line faults faults_now given given_now status
Finishes (Err NoMemory) faults faults_now given given_now status = IsSilent faults faults_now given given_now status

-- the text that a run means to write: the usage line; or the text of the command's answer over the content that is
-- told; or that the files failed, where their count of faults rose
abbrev pub IsAnswerText : Option Content → Asked → Seq ℕ → Type 0
IsAnswerText content asked text = (c : Content) → content ≡ Some c → (status : ℕ) × IsEnding (ending_of c asked) text status

abbrev pub IsMeant : Option Content → Option Asked → ℕ → ℕ → Seq ℕ → Type 0
IsMeant content None faults faults_now text = text ≡ usage_line
IsMeant content (Some asked) faults faults_now text = IsAnswerText content asked text ⊎ ((text ≡ read_fault_line) × Rose faults faults_now)

-- a beginning of that text was written
pub record HasPart (content : Option Content) (asked : Option Asked) (faults faults_now : ℕ) (given given_now : Option (Seq ℕ)) : Type 0 where
  pub text : Seq ℕ
  pub meant : IsMeant content asked faults faults_now text
  pub told : IsPartBehind text given given_now

-- the words are a command of which a step refuses over this content
abbrev pub IsRefusedCommand : Content → Option Asked → Type 0
IsRefusedCommand content None = ⊥
IsRefusedCommand content (Some asked) = (refusal : Refusal) × ((ending_of content asked).steps ≡ Err refusal)

-- the statuses that a run can end with
abbrev pub IsStatus : ℕ → Type 0
IsStatus status = (status ≤ 5) ⊎ (status ≡ 8)
