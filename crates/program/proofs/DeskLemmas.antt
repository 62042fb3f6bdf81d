-- From the steps of the desk to what it comes to.
use Rattle.std.proofs.Common.{◌≡◌, ℕ, ◌<◌, ◌≤◌, ◌⊎◌, inl, inr, List, Option, Some, None, Result, Ok, Err, ap, sym, refl, subst, ◌∙◌, arith}
use Rattle.outside.specs.Content.{Content}
use Rattle.outside.specs.Faults.{Rose}
use Rattle.outside.specs.declared.sink.Failed.{Failed}
use Rattle.doors.specs.Door.{Told}
use Rattle.desk_tables.specs.declared.rows.Rows.{Rows}
use Rattle.desk_tables.specs.declared.rows.User.{User}
use Rattle.review_rules.specs.State.{State, Held}
use Rattle.stored_rows.specs.Stored.{first_bad_row}
use Rattle.desk_keeper.specs.Keeping.{Agrees}
use Rattle.desk_judge.specs.Judged.{meant}
use Rattle.serving.specs.Turns.{Comes, HaveTurns, HasNextCause, Moment, after_all, none, AreTurns}
use Rattle.serving.specs.Turns as Turns
use Rattle.commands.specs.declared.refusals.Refusal.{Refusal}
use Rattle.commands.specs.declared.stop.Stop.{Stop}
use Rattle.commands.specs.declared.stop.Stop.TheVariants.{Refused as FilesRefused, ReadFault as FilesFault, NoMemory as NoFileMemory}
use Rattle.commands.specs.Stops.{Gives, HasCause}
use Rattle.program.specs.declared.desk.DeskStop.{DeskStop}
use Rattle.program.specs.declared.desk.DeskStop.TheVariants.{Refused, ReadFault, StoreFault, DoorFault, NoMemory}
use Rattle.command_words.specs.Serving.{Serving}
use Rattle.program.specs.DeskEnding.{Around, DeskComes, HasServed, IsBadRow, IsDeskRefusal, IsShut, IsUntouched, ServesAll, ServesSome, opened_at, users_at}
use Rattle.program.specs.DeskSteps.{BeginsWith, HasTurns, IsSameStop, ServesFrom, StopsAtDoor}

-- what is around a desk
abbrev pub around : Option Rows → Option (List ℕ) → Option Told → ℕ → ℕ → ℕ → Around
around tables shown door files keeper gate = record { tables = tables; shown = shown; door = door; file_faults = files; keeper_faults = keeper; door_faults = gate }

-- ---- the conversations of a door that was opened

-- all of them were served
pub served_all : (serving : Serving) (s now : State) (tables tables_now : Option Rows) (keeper keeper_now : ℕ) (door mid door_now : Option Told) (faults begun faults_now : ℕ)
    → begun ≡ faults
    → ((t : Told) → door ≡ Some t → mid ≡ Some (opened_at serving.port t))
    → ((u : Told) → mid ≡ Some u → Turns.ServesAll {E = Failed} meant (record { state = s; keeper = keeper; door = begun }) u serving.count (Ok tt) (record { state = now; keeper = keeper_now; door = faults_now }) door_now)
    → Comes meant s now → Agrees tables_now now.tables
    → ServesFrom {E = Failed} serving s now tables tables_now keeper keeper_now door door_now faults faults_now (Ok tt)
served_all serving s now tables tables_now keeper keeper_now door mid door_now faults begun faults_now same opens serves comes agrees = record {
  turns = λ t e. subst (λ (n : ℕ). HaveTurns meant (record { state = s; keeper = keeper; door = n }) (opened_at serving.port t) serving.count (record { state = now; keeper = keeper_now; door = faults_now }) door_now) same (serves (opened_at serving.port t) (opens t e));
  comes = comes;
  kept = agrees;
}

-- fewer were
pub served_some : (serving : Serving) (s now : State) (tables tables_now : Option Rows) (keeper keeper_now : ℕ) (door mid door_now : Option Told) (faults begun faults_now : ℕ) (failed : Failed)
    → 1 ≤ serving.count
    → begun ≡ faults
    → ((t : Told) → door ≡ Some t → mid ≡ Some (opened_at serving.port t))
    → ((u : Told) → mid ≡ Some u → Turns.ServesAll {E = Failed} meant (record { state = s; keeper = keeper; door = begun }) u serving.count (Err failed) (record { state = now; keeper = keeper_now; door = faults_now }) door_now)
    → Rose begun faults_now
    → Comes meant s now → Agrees tables_now now.tables
    → ServesFrom {E = Failed} serving s now tables tables_now keeper keeper_now door door_now faults faults_now (Err failed)
served_some serving s now tables tables_now keeper keeper_now door mid door_now faults begun faults_now failed any same opens serves rose comes agrees = inr (go door refl) where
  Some_of : Type 0
  Some_of = (last : Moment) × (n : ℕ) × (n < serving.count) × HasTurns serving (record { state = s; keeper = keeper; door = faults }) last tables_now door door_now n × (last.keeper ≡ keeper_now) × Rose last.door faults_now × Rose faults faults_now

  risen : Rose faults faults_now
  risen = subst (λ (n : ℕ). Rose n faults_now) same rose

  go : (o : Option Told) → door ≡ o → Some_of
  go None e = (
    record { state = now; keeper = keeper_now; door = faults },
    0,
    (omega arith),
    record {
      turns = λ t told. absurd (let f : None ≡ Some t = sym e ∙ told in cc);
      comes = comes;
      kept = agrees;
    },
    refl,
    risen,
    risen,
  )
  go (Some t) e =
      let it = serves (opened_at serving.port t) (opens t e) in
      let state : now ≡ it.0.state = it.4 in (
        it.0,
        it.1,
        it.2,
        record {
          turns = λ u told.
              let one : t ≡ u = (let f : Some t ≡ Some u = sym e ∙ told in cc) in
              subst (λ (x : Told). HaveTurns meant (record { state = s; keeper = keeper; door = faults }) (opened_at serving.port x) it.1 it.0 door_now) one
              (subst (λ (n : ℕ). HaveTurns meant (record { state = s; keeper = keeper; door = n }) (opened_at serving.port t) it.1 it.0 door_now) same it.3);
          comes = subst (λ (x : State). Comes meant s x) state comes;
          kept = subst (λ (x : State). Agrees tables_now x.tables) state agrees;
        },
        sym it.5,
        it.6,
        risen,
      )

pub served : (serving : Serving) (s now : State) (tables tables_now : Option Rows) (keeper keeper_now : ℕ) (door mid door_now : Option Told) (faults begun faults_now : ℕ) (r : Result (Unit {0}) Failed)
    → 1 ≤ serving.count
    → begun ≡ faults
    → ((t : Told) → door ≡ Some t → mid ≡ Some (opened_at serving.port t))
    → ((u : Told) → mid ≡ Some u → Turns.ServesAll {E = Failed} meant (record { state = s; keeper = keeper; door = begun }) u serving.count r (record { state = now; keeper = keeper_now; door = faults_now }) door_now)
    → HasNextCause begun faults_now r
    → Comes meant s now → Agrees tables_now now.tables
    → ServesFrom {E = Failed} serving s now tables tables_now keeper keeper_now door door_now faults faults_now r
served serving s now tables tables_now keeper keeper_now door mid door_now faults begun faults_now (Ok done) any same opens serves cause comes agrees =
    served_all serving s now tables tables_now keeper keeper_now door mid door_now faults begun faults_now same opens serves comes agrees
served serving s now tables tables_now keeper keeper_now door mid door_now faults begun faults_now (Err failed) any same opens serves cause comes agrees =
    served_some serving s now tables tables_now keeper keeper_now door mid door_now faults begun faults_now failed any same opens serves cause comes agrees

-- the door failed when it was to be opened
pub shut : (serving : Serving) (s : State) (tables : Option Rows) (keeper : ℕ) (door door_now : Option Told) (faults faults_now : ℕ) (failed : Failed)
    → ((t : Told) → door ≡ Some t → door_now ≡ Some t) → Rose faults faults_now
    → ServesFrom {E = Failed} serving s s tables tables keeper keeper door door_now faults faults_now (Err failed)
shut serving s tables keeper door door_now faults faults_now failed stays rose = inl (refl, refl, stays, rose)

-- ---- a desk of these users

-- what the keeper was before and after, with the door as it was
pub not_begun : (content : Option Content) (serving : Serving) (users : List User) (tables tables_now : Option Rows) (shown shown_now : Option (List ℕ)) (door : Option Told) (files keeper keeper_now gate : ℕ) (stop : DeskStop)
    → ((c : Content) → content ≡ Some c → users_at c serving.users ≡ Ok users)
    → tables_now ≡ tables
    → BeginsWith users tables shown_now serving.store keeper keeper_now (Err stop)
    → DeskComes content serving
    (record { tables = tables; shown = shown; door = door; file_faults = files; keeper_faults = keeper; door_faults = gate })
    (record { tables = tables_now; shown = shown_now; door = door; file_faults = files; keeper_faults = keeper_now; door_faults = gate })
    (Err stop)
not_begun content serving users tables tables_now shown shown_now door files keeper keeper_now gate (Refused refusal) read same is =
    (inr ((λ c e. (users, read c e)), is.0), record { tables = same; door = refl; door_faults = refl }, is.1, refl)
not_begun content serving users tables tables_now shown shown_now door files keeper keeper_now gate StoreFault read same is = ((λ c e. (users, read c e)), is, record { tables = same; door = refl; door_faults = refl }, refl)
not_begun content serving users tables tables_now shown shown_now door files keeper keeper_now gate NoMemory read same is = (record { tables = same; door = refl; door_faults = refl }, is, refl)
not_begun content serving users tables tables_now shown shown_now door files keeper keeper_now gate ReadFault read same is = absurd is
not_begun content serving users tables tables_now shown shown_now door files keeper keeper_now gate DoorFault read same is = absurd is

-- the desk began
pub has_served : (content : Option Content) (serving : Serving) (users : List User) (s : State) (last : Moment) (tables tables_mid tables_now : Option Rows) (shown shown_now : Option (List ℕ)) (door door_now : Option Told) (files keeper keeper_mid keeper_now gate gate_now n : ℕ)
    → ((c : Content) → content ≡ Some c → users_at c serving.users ≡ Ok users)
    → s.users ≡ users → Agrees tables s.tables → first_bad_row s.tables ≡ None → keeper_mid ≡ keeper → shown_now ≡ Some serving.store
    → HasTurns serving (record { state = s; keeper = keeper_mid; door = gate }) last tables_now door door_now n
    → HasServed content serving
    (record { tables = tables; shown = shown; door = door; file_faults = files; keeper_faults = keeper; door_faults = gate })
    (record { tables = tables_now; shown = shown_now; door = door_now; file_faults = files; keeper_faults = keeper_now; door_faults = gate_now })
    (record { state = s; keeper = keeper_mid; door = gate }) last n
has_served content serving users s last tables tables_mid tables_now shown shown_now door door_now files keeper keeper_mid keeper_now gate gate_now n read of_users agrees good same is_shown turns = record {
  users = λ c e. read c e ∙ ap Ok (sym of_users);
  tables = agrees;
  valid = good;
  keeper = same;
  begun = refl;
  turns = turns.turns;
  comes = turns.comes;
  kept = turns.kept;
  shown = is_shown;
}

pub all_served : (content : Option Content) (serving : Serving) (users : List User) (s now : State) (tables tables_mid tables_now : Option Rows) (shown shown_mid shown_now : Option (List ℕ)) (door door_now : Option Told) (files keeper keeper_mid keeper_now gate gate_now : ℕ) (done : Unit {0})
    → ((c : Content) → content ≡ Some c → users_at c serving.users ≡ Ok users)
    → (s.users ≡ users) × Agrees tables s.tables × (first_bad_row s.tables ≡ None) × (shown_mid ≡ Some serving.store) × (keeper_mid ≡ keeper)
    → tables_mid ≡ tables → shown_now ≡ shown_mid
    → ServesFrom {E = Failed} serving s now tables_mid tables_now keeper_mid keeper_now door door_now gate gate_now (Ok done)
    → DeskComes content serving
    (record { tables = tables; shown = shown; door = door; file_faults = files; keeper_faults = keeper; door_faults = gate })
    (record { tables = tables_now; shown = shown_now; door = door_now; file_faults = files; keeper_faults = keeper_now; door_faults = gate_now })
    (Ok tt)
all_served content serving users s now tables tables_mid tables_now shown shown_mid shown_now door door_now files keeper keeper_mid keeper_now gate gate_now done read start same stays turns = (
  (
    record { state = s; keeper = keeper_mid; door = gate },
    record { state = now; keeper = keeper_now; door = gate_now },
    has_served content serving users s _ tables tables_mid tables_now shown shown_now door door_now files keeper keeper_mid keeper_now gate gate_now serving.count read start.0 start.1 start.2 start.4 (stays ∙ start.3) turns,
    refl,
    refl,
  ),
  refl,
)

pub some_served : (content : Option Content) (serving : Serving) (users : List User) (s now : State) (tables tables_mid tables_now : Option Rows) (shown shown_mid shown_now : Option (List ℕ)) (door door_now : Option Told) (files keeper keeper_mid keeper_now gate gate_now : ℕ) (failed : Failed)
    → ((c : Content) → content ≡ Some c → users_at c serving.users ≡ Ok users)
    → (s.users ≡ users) × Agrees tables s.tables × (first_bad_row s.tables ≡ None) × (shown_mid ≡ Some serving.store) × (keeper_mid ≡ keeper)
    → tables_mid ≡ tables → shown_now ≡ shown_mid
    → ServesFrom {E = Failed} serving s now tables_mid tables_now keeper_mid keeper_now door door_now gate gate_now (Err failed)
    → DeskComes content serving
    (record { tables = tables; shown = shown; door = door; file_faults = files; keeper_faults = keeper; door_faults = gate })
    (record { tables = tables_now; shown = shown_now; door = door_now; file_faults = files; keeper_faults = keeper_now; door_faults = gate_now })
    (Err DoorFault)
some_served content serving users s now tables tables_mid tables_now shown shown_mid shown_now door door_now files keeper keeper_mid keeper_now gate gate_now failed read start same stays (inl is) = (
  inl (record {
    users = λ c e. (users, read c e);
    valid = λ rows e. ap first_bad_row (subst (λ (o : Option Rows). Agrees o s.tables) e start.1) ∙ start.2;
    shown = stays ∙ start.3;
    tables = is.0 ∙ same;
    keeper = is.1 ∙ start.4;
    told = is.2;
    rose = is.3;
  }),
  refl,
)
some_served content serving users s now tables tables_mid tables_now shown shown_mid shown_now door door_now files keeper keeper_mid keeper_now gate gate_now failed read start same stays (inr is) = (
  inr (
    record { state = s; keeper = keeper_mid; door = gate },
    is.0,
    is.1,
    is.2,
    has_served content serving users s is.0 tables tables_mid tables_now shown shown_now door door_now files keeper keeper_mid keeper_now gate gate_now is.1 read start.0 start.1 start.2 start.4 (stays ∙ start.3) is.3,
    is.4,
    is.5,
    is.6,
  ),
  refl,
)

pub desk_served : (content : Option Content) (serving : Serving) (users : List User) (s now : State) (tables tables_mid tables_now : Option Rows) (shown shown_mid shown_now : Option (List ℕ)) (door door_now : Option Told) (files keeper keeper_mid keeper_now gate gate_now : ℕ) (r : Result (Unit {0}) Failed) (ended : Result (Unit {0}) DeskStop)
    → ((c : Content) → content ≡ Some c → users_at c serving.users ≡ Ok users)
    → (s.users ≡ users) × Agrees tables s.tables × (first_bad_row s.tables ≡ None) × (shown_mid ≡ Some serving.store) × (keeper_mid ≡ keeper)
    → tables_mid ≡ tables → shown_now ≡ shown_mid
    → ServesFrom {E = Failed} serving s now tables_mid tables_now keeper_mid keeper_now door door_now gate gate_now r
    → StopsAtDoor r ended
    → DeskComes content serving
    (around tables shown door files keeper gate)
    (around tables_now shown_now door_now files keeper_now gate_now)
    ended
desk_served content serving users s now tables tables_mid tables_now shown shown_mid shown_now door door_now files keeper keeper_mid keeper_now gate gate_now (Ok done) ended read start same stays turns is =
    subst (λ (e : Result (Unit {0}) DeskStop). DeskComes content serving (around tables shown door files keeper gate) (around tables_now shown_now door_now files keeper_now gate_now) e) (sym is)
    (all_served content serving users s now tables tables_mid tables_now shown shown_mid shown_now door door_now files keeper keeper_mid keeper_now gate gate_now done read start same stays turns)
desk_served content serving users s now tables tables_mid tables_now shown shown_mid shown_now door door_now files keeper keeper_mid keeper_now gate gate_now (Err failed) ended read start same stays turns is =
    subst (λ (e : Result (Unit {0}) DeskStop). DeskComes content serving (around tables shown door files keeper gate) (around tables_now shown_now door_now files keeper_now gate_now) e) (sym is)
    (some_served content serving users s now tables tables_mid tables_now shown shown_mid shown_now door door_now files keeper keeper_mid keeper_now gate gate_now failed read start same stays turns)

-- ---- the file of users

-- nothing came of it
pub unread : (content : Option Content) (serving : Serving) (tables : Option Rows) (shown : Option (List ℕ)) (door : Option Told) (files files_now keeper gate : ℕ) (stop : Stop) (ended : DeskStop)
    → IsSameStop stop ended
    → HasCause {A = List User} files files_now (Err stop)
    → ((c : Content) → content ≡ Some c → Gives (users_at c serving.users) (Err stop))
    → DeskComes content serving
    (record { tables = tables; shown = shown; door = door; file_faults = files; keeper_faults = keeper; door_faults = gate })
    (record { tables = tables; shown = shown; door = door; file_faults = files_now; keeper_faults = keeper; door_faults = gate })
    (Err ended)
unread content serving tables shown door files files_now keeper gate (FilesRefused refusal) ended is cause gives =
    subst (λ (e : DeskStop). DeskComes content serving (around tables shown door files keeper gate) (around tables shown door files_now keeper gate) (Err e)) (sym is) (inl gives, record { tables = refl; door = refl; door_faults = refl }, refl, cause)
unread content serving tables shown door files files_now keeper gate FilesFault ended is cause gives =
    subst (λ (e : DeskStop). DeskComes content serving (around tables shown door files keeper gate) (around tables shown door files_now keeper gate) (Err e)) (sym is) (cause.1, record { tables = refl; door = refl; door_faults = refl }, refl)
unread content serving tables shown door files files_now keeper gate NoFileMemory ended is cause gives =
    subst (λ (e : DeskStop). DeskComes content serving (around tables shown door files keeper gate) (around tables shown door files_now keeper gate) (Err e)) (sym is) (record { tables = refl; door = refl; door_faults = refl }, refl, cause)
