-- The steps of the desk, as the code has them (private).
use Rattle.std.specs.Prelude.{ℕ, ◌≡◌, ◌<◌, ◌⊎◌, List as Seq, Option, Some, None, Result, Ok, Err}
use Rattle.outside.specs.Faults.{Rose}
use Rattle.doors.specs.Door.{Told}
use Rattle.desk_tables.specs.declared.rows.Rows.{Rows}
use Rattle.desk_tables.specs.declared.rows.User.{User}
use Rattle.review_rules.specs.State.{State, Held}
use Rattle.stored_rows.specs.Stored.{first_bad_row}
use Rattle.desk_keeper.specs.Keeping.{Agrees}
use Rattle.desk_judge.specs.Judged.{meant}
use Rattle.serving.specs.Turns.{Comes, HaveTurns, Moment}
use Rattle.commands.specs.declared.stop.Stop.{Stop}
use Rattle.commands.specs.declared.stop.Stop.TheVariants.{Refused as FilesRefused, ReadFault as FilesFault, NoMemory as NoFileMemory}
use Rattle.program.specs.declared.desk.DeskStop.{DeskStop}
use Rattle.program.specs.declared.desk.DeskStop.TheVariants.{Refused, ReadFault, StoreFault, DoorFault, NoMemory}
use Rattle.program.specs.DeskEnding.{IsBadRow, opened_at}
use Rattle.command_words.specs.Serving.{Serving}

-- the same stop
abbrev pub IsSameStop : Stop → DeskStop → Type 0
IsSameStop (FilesRefused refusal) stop = stop ≡ Refused refusal
IsSameStop FilesFault stop = stop ≡ ReadFault
IsSameStop NoFileMemory stop = stop ≡ NoMemory

-- a door that failed is the one that stops the desk
abbrev pub StopsAtDoor : {E : Type 0} → Result (Unit {0}) E → Result (Unit {0}) DeskStop → Type 0
StopsAtDoor (Ok done) ended = ended ≡ Ok done
StopsAtDoor (Err e) ended = ended ≡ Err DoorFault

-- the desk of what the keeper tells, or why there is none
abbrev pub BeginsWith : Seq User → Option Rows → Option (Seq ℕ) → Seq ℕ → ℕ → ℕ → Result Held DeskStop → Type 0
BeginsWith users told shown name before now (Ok store) =
    (store.state.users ≡ users) × Agrees told store.state.tables × (first_bad_row store.state.tables ≡ None) × (shown ≡ Some name) × (now ≡ before)
BeginsWith users told shown name before now (Err (Refused refusal)) = IsBadRow told refusal × (now ≡ before)
BeginsWith users told shown name before now (Err StoreFault) = Rose before now
BeginsWith users told shown name before now (Err NoMemory) = now ≡ before
BeginsWith users told shown name before now (Err ReadFault) = ⊥
BeginsWith users told shown name before now (Err DoorFault) = ⊥

-- conversations from a first moment to a last one
pub record HasTurns (serving : Serving) (first last : Moment) (tables_now : Option Rows) (door door_now : Option Told) (count : ℕ) : Type 0 where
  pub turns : (t : Told) → door ≡ Some t → HaveTurns meant first (opened_at serving.port t) count last door_now
  pub comes : Comes meant first.state last.state
  pub kept : Agrees tables_now last.state.tables

-- all of them; or the door failed when it was opened, or when the next one was to begin
abbrev pub ServesFrom : {E : Type 0} → Serving → State → State → Option Rows → Option Rows → ℕ → ℕ → Option Told → Option Told → ℕ → ℕ → Result (Unit {0}) E → Type 0
ServesFrom serving s now tables tables_now keeper keeper_now door door_now faults faults_now (Ok done) =
    HasTurns serving (record { state = s; keeper = keeper; door = faults }) (record { state = now; keeper = keeper_now; door = faults_now }) tables_now door door_now serving.count
ServesFrom serving s now tables tables_now keeper keeper_now door door_now faults faults_now (Err e) =
    ((tables_now ≡ tables) × (keeper_now ≡ keeper) × ((t : Told) → door ≡ Some t → door_now ≡ Some t) × Rose faults faults_now)
    ⊎ ((last : Moment) × (n : ℕ) × (n < serving.count) × HasTurns serving (record { state = s; keeper = keeper; door = faults }) last tables_now door door_now n
    × (last.keeper ≡ keeper_now) × Rose last.door faults_now × Rose faults faults_now)
