-- What is owed where the input is valid and nothing fails. What is valid input is this project's own.
use Rattle.std.specs.Prelude.{ℕ, ◌≡◌, ◌≤◌, ◌⊎◌, ◌++◌, List as Seq, length, take, Option, Some, None, Ok}
use Rattle.outside.specs.Content.{Content}
use Rattle.outside.specs.Faults.{Rose}
use Rattle.doors.specs.Door.{Told}
use Rattle.desk_tables.specs.declared.rows.Rows.{Rows}
use Rattle.desk_tables.specs.declared.rows.User.{User}
use Rattle.stored_rows.specs.Stored.{first_bad_row}
use Rattle.review_rules.specs.State.{State}
use Rattle.desk_keeper.specs.Keeping.{Agrees}
use Rattle.desk_judge.specs.Judged.{meant}
use Rattle.command_words.specs.Commands.{Asked}
use Rattle.commands.specs.Running.{HasNoMemory, IsAnswered, ending_of}
use Rattle.serving.specs.Turns.{Comes, after_all}
use Rattle.serving.specs.Calm.{AreAnswered}
use Rattle.program.specs.DeskEnding.{Around, IsUntouched, opened_at, served_line, users_at}
use Rattle.command_words.specs.Serving.{Serving}

-- ---- a command

-- by the content that is told, no step of the command refuses
abbrev pub IsSound : Content → Asked → Type 0
IsSound content asked = (input : (ending_of content asked).Input) × ((ending_of content asked).steps ≡ Ok input)

-- the defined text of its answer was written behind what the sink held before, with the status 0 or 1
pub record IsReported (content : Content) (asked : Asked) (before : Seq ℕ) (after : Option (Seq ℕ)) (status : ℕ) : Type 0 where
  pub input : (ending_of content asked).Input
  pub steps : (ending_of content asked).steps ≡ Ok input
  pub text : Seq ℕ
  pub answer : IsAnswered ((ending_of content asked).Is input) text status
  pub written : after ≡ Some (before ++ text)

-- it is, or there was no memory
abbrev pub IsComplete : Content → Asked → Seq ℕ → Option (Seq ℕ) → ℕ → Type 0
IsComplete content asked before after status = IsReported content asked before after status ⊎ HasNoMemory before after status

-- ---- the desk

-- the file of users can be read, and each stored row is valid
pub record IsSoundDesk (content : Content) (serving : Serving) (rows : Rows) : Type 0 where
  pub users : Seq User
  pub read : users_at content serving.users ≡ Ok users
  pub valid : first_bad_row rows ≡ None

-- no count of faults rose: of the files, of the keeper, of the door and of the sink
pub record IsCalm (a b : Around) (faults faults_now : ℕ) : Type 0 where
  pub files : Rose a.file_faults b.file_faults → ⊥
  pub keeper : Rose a.keeper_faults b.keeper_faults → ⊥
  pub door : Rose a.door_faults b.door_faults → ⊥
  pub sink : Rose faults faults_now → ⊥

-- so many conversations that the door tells got their answer each, or 507 with all unchanged, from the first state to the
-- last one
pub record GotAnswers (serving : Serving) (first last : State) (t : Told) (door : Option Told) : Type 0 where
  pub givens : Seq (Seq ℕ)
  pub answered : AreAnswered meant first (take serving.count t.coming) givens last
  pub all : length givens ≡ serving.count
  pub enough : serving.count ≤ length t.coming
  pub told : door ≡ Some (after_all (opened_at serving.port t) givens)

-- a desk of those users and of these tables served as many as were asked for
pub record AllAnswered (content : Content) (serving : Serving) (rows : Rows) (a b : Around) : Type 0 where
  pub users : Seq User
  pub read : users_at content serving.users ≡ Ok users
  pub last : State
  pub comes : Comes meant (record { users = users; tables = rows }) last
  pub kept : Agrees b.tables last.tables
  pub answered : (t : Told) → a.door ≡ Some t → GotAnswers serving (record { users = users; tables = rows }) last t b.door

-- that was written, with the status 0; or there was no memory to write it, or none before the first conversation, and the
-- status is 8
abbrev pub CompletesDesk : Content → Serving → Rows → Around → Around → Seq ℕ → Option (Seq ℕ) → ℕ → Type 0
CompletesDesk content serving rows a b before after status =
    (AllAnswered content serving rows a b × (status ≡ 0) × (after ≡ Some (before ++ served_line serving.count)))
    ⊎ ((AllAnswered content serving rows a b ⊎ IsUntouched a b) × HasNoMemory before after status)
