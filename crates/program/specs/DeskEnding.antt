-- How the desk ends: the steps in their order, the first that refuses deciding, and the conversations. All of this is the
-- project's own.
use Rattle.std.specs.Prelude.{ℕ, ◌≡◌, ◌<◌, ◌⊎◌, List as Seq, codes, Option, Some, None, Result, Ok, Err}
use Rattle.std.specs.Fmt.{decimal}
use Rattle.net_types.specs.Then.{◌then◌}
use Rattle.outside.specs.Content.{Content}
use Rattle.outside.specs.Faults.{Rose}
use Rattle.doors.specs.Door.{Told}
use Rattle.desk_tables.specs.declared.rows.Rows.{Rows}
use Rattle.desk_tables.specs.declared.rows.User.{User}
use Rattle.user_file.specs.Users.{users_of}
use Rattle.stored_rows.specs.Stored.{first_bad_row}
use Rattle.desk_keeper.specs.Keeping.{Agrees, BadWhereTold}
use Rattle.desk_judge.specs.Judged.{meant}
use Rattle.judging.specs.Steps.{and_then, or_refused}
use Rattle.commands.specs.Folder.{bytes_of}
use Rattle.commands.specs.Refusals.{line_of}
use Rattle.commands.specs.Running.{IsSilent, IsWritten, read_fault_line}
use Rattle.commands.specs.declared.refusals.Form.TheVariants.{Users}
use Rattle.commands.specs.declared.refusals.Refusal.{Refusal}
use Rattle.commands.specs.declared.refusals.Refusal.TheVariants as Cause
use Rattle.serving.specs.Turns.{Comes, HaveTurns, Moment}
use Rattle.program.specs.declared.desk.DeskStop.{DeskStop}
use Rattle.program.specs.declared.desk.DeskStop.TheVariants.{Refused, ReadFault, StoreFault, DoorFault, NoMemory}
use Rattle.command_words.specs.Serving.{Serving}

-- the users of a file
abbrev pub users_in : Seq ℕ → Result (Seq User) Refusal
users_in text = or_refused (Cause.Form Users) (users_of text)

-- and of the file at a path
unfoldable pub users_at : Content → Seq ℕ → Result (Seq User) Refusal
users_at content path = and_then (bytes_of content path) users_in

-- the lines of its end
unfoldable pub served_line : ℕ → Seq ℕ
served_line count = codes "served " then decimal count then codes "\n"

unfoldable pub store_fault_line : Seq ℕ
store_fault_line = codes "store fault\n"

unfoldable pub door_fault_line : Seq ℕ
door_fault_line = codes "door fault\n"

-- what is around the desk: the tables and the name that the keeper shows, what the door tells, and the counts of faults of the
-- files, of the keeper and of the door
pub record Around : Type 0 where
  pub tables : Option Rows
  pub shown : Option (Seq ℕ)
  pub door : Option Told
  pub file_faults : ℕ
  pub keeper_faults : ℕ
  pub door_faults : ℕ

-- a door that was opened at this port
abbrev pub opened_at : ℕ → Told → Told
opened_at port t = record { port = Some port; talk = t.talk; ended = t.ended; coming = t.coming }

-- no conversation began, and no table changed
pub record IsUntouched (a b : Around) : Type 0 where
  pub tables : b.tables ≡ a.tables
  pub door : b.door ≡ a.door
  pub door_faults : b.door_faults ≡ a.door_faults

-- the desk began with the users of the file and the tables that the keeper tells, each row of them valid, at the first
-- moment, and was at the last one after so many conversations
pub record HasServed (content : Option Content) (serving : Serving) (a b : Around) (first last : Moment) (count : ℕ) : Type 0 where
  pub users : (c : Content) → content ≡ Some c → users_at c serving.users ≡ Ok first.state.users
  pub tables : Agrees a.tables first.state.tables
  pub valid : first_bad_row first.state.tables ≡ None
  pub keeper : first.keeper ≡ a.keeper_faults
  pub begun : first.door ≡ a.door_faults
  pub turns : (t : Told) → a.door ≡ Some t → HaveTurns meant first (opened_at serving.port t) count last b.door
  pub comes : Comes meant first.state last.state
  pub kept : Agrees b.tables last.state.tables
  pub shown : b.shown ≡ Some serving.store

-- so with all that were asked for
abbrev pub ServesAll : Option Content → Serving → Around → Around → Type 0
ServesAll content serving a b =
    (first last : Moment) × HasServed content serving a b first last serving.count × (last.keeper ≡ b.keeper_faults) × (last.door ≡ b.door_faults)

-- or with fewer, and the door failed when the next one was to begin
abbrev pub ServesSome : Option Content → Serving → Around → Around → Type 0
ServesSome content serving a b =
    (first last : Moment) × (n : ℕ) × (n < serving.count) × HasServed content serving a b first last n × (last.keeper ≡ b.keeper_faults) × Rose last.door b.door_faults
    × Rose a.door_faults b.door_faults

-- the file of users can be read
abbrev pub IsUserFile : Option Content → Serving → Type 0
IsUserFile content serving = (c : Content) → content ≡ Some c → (users : Seq User) × (users_at c serving.users ≡ Ok users)

-- or the door failed when it was to be opened, behind users and rows that are not refused
pub record IsShut (content : Option Content) (serving : Serving) (a b : Around) : Type 0 where
  pub users : IsUserFile content serving
  pub valid : (rows : Rows) → a.tables ≡ Some rows → first_bad_row rows ≡ None
  pub shown : b.shown ≡ Some serving.store
  pub tables : b.tables ≡ a.tables
  pub keeper : b.keeper_faults ≡ a.keeper_faults
  pub told : (t : Told) → a.door ≡ Some t → b.door ≡ Some t
  pub rose : Rose a.door_faults b.door_faults

-- why the desk does not begin: the file of users, or the first stored row that is not valid
abbrev pub IsBadRow : Option Rows → Refusal → Type 0
IsBadRow tables (Cause.BadRow table row) = BadWhereTold tables table row
IsBadRow tables _ = ⊥

abbrev pub IsUserRefusal : Option Content → Serving → Refusal → Type 0
IsUserRefusal content serving refusal = (c : Content) → content ≡ Some c → users_at c serving.users ≡ Err refusal

abbrev pub IsDeskRefusal : Option Content → Serving → Option Rows → Refusal → Type 0
IsDeskRefusal content serving tables refusal =
    IsUserRefusal content serving refusal ⊎ (IsUserFile content serving × IsBadRow tables refusal)

-- what the desk comes to
abbrev pub DeskComes : Option Content → Serving → Around → Around → Result (Unit {0}) DeskStop → Type 0
DeskComes content serving a b (Ok done) = ServesAll content serving a b × (b.file_faults ≡ a.file_faults)
DeskComes content serving a b (Err (Refused refusal)) =
    IsDeskRefusal content serving a.tables refusal × IsUntouched a b × (b.keeper_faults ≡ a.keeper_faults) × (b.file_faults ≡ a.file_faults)
DeskComes content serving a b (Err ReadFault) = Rose a.file_faults b.file_faults × IsUntouched a b × (b.keeper_faults ≡ a.keeper_faults)
DeskComes content serving a b (Err StoreFault) = IsUserFile content serving × Rose a.keeper_faults b.keeper_faults × IsUntouched a b × (b.file_faults ≡ a.file_faults)
DeskComes content serving a b (Err DoorFault) = (IsShut content serving a b ⊎ ServesSome content serving a b) × (b.file_faults ≡ a.file_faults)
DeskComes content serving a b (Err NoMemory) = IsUntouched a b × (b.keeper_faults ≡ a.keeper_faults) × (b.file_faults ≡ a.file_faults)

-- what is written of it, with the status
abbrev pub DeskFinishes : ℕ → Result (Unit {0}) DeskStop → ℕ → ℕ → Option (Seq ℕ) → Option (Seq ℕ) → ℕ → Type 0
DeskFinishes count (Ok done) faults faults_now given given_now status =
    IsWritten 0 (served_line count) faults faults_now given given_now status ⊎ IsSilent faults faults_now given given_now status
DeskFinishes count (Err (Refused refusal)) faults faults_now given given_now status =
    IsWritten 2 (line_of refusal) faults faults_now given given_now status ⊎ IsSilent faults faults_now given given_now status
DeskFinishes count (Err ReadFault) faults faults_now given given_now status = IsWritten 4 read_fault_line faults faults_now given given_now status
DeskFinishes count (Err StoreFault) faults faults_now given given_now status = IsWritten 6 store_fault_line faults faults_now given given_now status
DeskFinishes count (Err DoorFault) faults faults_now given given_now status = IsWritten 7 door_fault_line faults faults_now given given_now status
DeskFinishes count (Err NoMemory) faults faults_now given given_now status = IsSilent faults faults_now given given_now status

-- a run of the desk: what it came to was written
abbrev pub RunsDesk : Option Content → Serving → Around → Around → ℕ → ℕ → Option (Seq ℕ) → Option (Seq ℕ) → ℕ → Type 0
RunsDesk content serving a b faults faults_now given given_now status =
    (ended : Result (Unit {0}) DeskStop) × DeskComes content serving a b ended × DeskFinishes serving.count ended faults faults_now given given_now status

-- nothing was asked of the keeper and of the door
pub record IsIdle (a b : Around) : Type 0 where
  pub tables : b.tables ≡ a.tables
  pub shown : b.shown ≡ a.shown
  pub door : b.door ≡ a.door
  pub keeper_faults : b.keeper_faults ≡ a.keeper_faults
  pub door_faults : b.door_faults ≡ a.door_faults
