-- What is owed where the input is valid and nothing fails.
use Rattle.std.proofs.Common.{◌≡◌, ℕ, ◌⊎◌, inl, inr, List, Option, Some, None, Result, Ok, Err, take, sym, subst, refl, ◌∙◌}
use Rattle.outside.specs.Content.{Content}
use Rattle.outside.specs.Faults.{Rose}
use Rattle.doors.specs.Door.{Told}
use Rattle.desk_tables.specs.declared.rows.Rows.{Rows}
use Rattle.desk_tables.specs.declared.rows.User.{User}
use Rattle.stored_rows.specs.Stored.{first_bad_row}
use Rattle.review_rules.specs.State.{State}
use Rattle.review_rules.specs.Judging.{Judging}
use Rattle.desk_keeper.specs.Keeping.{Agrees}
use Rattle.desk_judge.specs.Judged.{meant}
use Rattle.command_words.specs.Commands.{Asked}
use Rattle.commands.specs.Running.{Answers, EndsWith, HasNoMemory, IsSilent, IsWritten, ending_of}
use Rattle.commands.specs.declared.refusals.Refusal.{Refusal}
use Rattle.commands.specs.declared.refusals.Refusal.TheVariants as Cause
use Rattle.serving.specs.Turns.{Comes, HaveTurns, Moment}
use Rattle.serving.specs.Calm.{AreAnswered}
use Rattle.serving.specs.Calm as Calm
use Rattle.serving.proofs.CalmLemmas.{answered_turns}
use Rattle.program.specs.declared.desk.DeskStop.{DeskStop}
use Rattle.program.specs.declared.desk.DeskStop.TheVariants.{Refused, ReadFault, StoreFault, DoorFault, NoMemory}
use Rattle.program.specs.Complete.{AllAnswered, CompletesDesk, GotAnswers, IsCalm, IsComplete, IsSound, IsSoundDesk}
use Rattle.program.specs.DeskEnding.{Around, DeskComes, DeskFinishes, HasServed, IsBadRow, IsDeskRefusal, RunsDesk, ServesAll, opened_at, served_line, users_at}
use Rattle.command_words.specs.Serving.{Serving}

-- ---- a command

pub complete : (content : Content) (asked : Asked) (before : List ℕ) (after : Option (List ℕ)) (ticks ticks_now status files files_now sink sink_now : ℕ)
    → ((status ≡ 4 → ⊥) → (status ≡ 5 → ⊥) → Answers content (Some asked) before after ticks ticks_now status)
    → (status ≡ 4 → Rose files files_now) → (status ≡ 5 → Rose sink sink_now)
    → IsSound content asked → (Rose files files_now → ⊥) → (Rose sink sink_now → ⊥)
    → IsComplete content asked before after status
complete content asked before after ticks ticks_now status files files_now sink sink_now answers reads writes sound calm quiet =
    go (answers (λ four. calm (reads four)) (λ five. quiet (writes five))) where
      go : Answers content (Some asked) before after ticks ticks_now status → IsComplete content asked before after status
      go (inr none) = inr none
      go (inl is) = inl record {
        input = sound.0;
        steps = sound.1;
        text = is.text;
        answer = subst (λ (r : Result (ending_of content asked).Input Refusal). EndsWith (ending_of content asked).Is r is.text status) sound.1 is.answer;
        written = is.written;
      }

-- ---- the desk

-- the state at its beginning
starts : (content : Content) (serving : Serving) (rows : Rows) (a b : Around) (first last : Moment) (n : ℕ)
    → a.tables ≡ Some rows → (sound : IsSoundDesk content serving rows) → HasServed (Some content) serving a b first last n
    → first.state ≡ record { users = sound.users; tables = rows }
starts content serving rows a b first last n tables sound served =
    let read : Ok sound.users ≡ Ok first.state.users = sym sound.read ∙ served.users content refl in
    let users : sound.users ≡ first.state.users = cc in
    let kept : rows ≡ first.state.tables = subst (λ (o : Option Rows). Agrees o first.state.tables) tables served.tables in
    λ i. record { users = sym users i; tables = sym kept i }

-- its conversations
got_answers : (content : Content) (serving : Serving) (rows : Rows) (a b : Around) (faults faults_now : ℕ) (first last : Moment) (t : Told)
    → a.tables ≡ Some rows → (sound : IsSoundDesk content serving rows) → IsCalm a b faults faults_now
    → HasServed (Some content) serving a b first last serving.count → last.keeper ≡ b.keeper_faults → last.door ≡ b.door_faults → a.door ≡ Some t
    → GotAnswers serving (record { users = sound.users; tables = rows }) last.state t b.door
got_answers content serving rows a b faults faults_now first last t tables sound calm served keeper door told = record {
  givens = turns.0;
  answered =
      subst (λ (s : State). AreAnswered meant s (take serving.count t.coming) turns.0 last.state) (starts content serving rows a b first last serving.count tables sound served)
      (answered_turns meant first last (take serving.count t.coming) turns.0 turns.3 quiet);
  all = turns.1;
  enough = turns.2;
  told = turns.4;
} where
  turns : HaveTurns meant first (opened_at serving.port t) serving.count last b.door
  turns = served.turns t told

  quiet : Calm.IsCalm first last
  quiet = record {
    keeper = λ rose. calm.keeper (subst (λ (n : ℕ). Rose n b.keeper_faults) served.keeper (subst (λ (n : ℕ). Rose first.keeper n) keeper rose));
    door = λ rose. calm.door (subst (λ (n : ℕ). Rose n b.door_faults) served.begun (subst (λ (n : ℕ). Rose first.door n) door rose));
  }

answers_all : (content : Content) (serving : Serving) (rows : Rows) (a b : Around) (faults faults_now : ℕ)
    → a.tables ≡ Some rows → IsSoundDesk content serving rows → IsCalm a b faults faults_now
    → ServesAll (Some content) serving a b → AllAnswered content serving rows a b
answers_all content serving rows a b faults faults_now tables sound calm (first, last, served, keeper, door) = record {
  users = sound.users;
  read = sound.read;
  last = last.state;
  comes = subst (λ (s : State). Comes meant s last.state) (starts content serving rows a b first last serving.count tables sound served) served.comes;
  kept = served.kept;
  answered = λ t told. got_answers content serving rows a b faults faults_now first last t tables sound calm served keeper door told;
}

-- valid input is not refused
no_row : (found : Option (ℕ × ℕ)) (row : ℕ × ℕ) → found ≡ None → found ≡ Some row → ⊥
no_row found row none some = let e : None ≡ Some row = sym none ∙ some in absurd (cc)

no_bad_row : (rows : Rows) (refusal : Refusal) → first_bad_row rows ≡ None → IsBadRow (Some rows) refusal → ⊥
no_bad_row rows (Cause.BadRow table row) valid bad = no_row (first_bad_row rows) (table, row) valid bad
no_bad_row rows (Cause.NoPath path) valid bad = bad
no_bad_row rows (Cause.Bundle side files refusal) valid bad = bad
no_bad_row rows (Cause.CasesLimit side cases) valid bad = bad
no_bad_row rows (Cause.Form form refusal) valid bad = bad

no_refusal : (content : Content) (serving : Serving) (rows : Rows) (tables : Option Rows) (refusal : Refusal)
    → tables ≡ Some rows → IsSoundDesk content serving rows → IsDeskRefusal (Some content) serving tables refusal → ⊥
no_refusal content serving rows tables refusal told sound (inl of_users) =
    let e : Ok sound.users ≡ Err refusal = sym sound.read ∙ of_users content refl in absurd (cc)
no_refusal content serving rows tables refusal told sound (inr (file, bad)) =
    no_bad_row rows refusal sound.valid (subst (λ (o : Option Rows). IsBadRow o refusal) told bad)

complete_desk : (content : Content) (serving : Serving) (rows : Rows) (a b : Around) (faults faults_now : ℕ) (before : List ℕ) (given given_now : Option (List ℕ)) (status : ℕ)
    → given ≡ Some before → a.tables ≡ Some rows
    → IsSoundDesk content serving rows → IsCalm a b faults faults_now
    → RunsDesk (Some content) serving a b faults faults_now given given_now status
    → CompletesDesk content serving rows a b before given_now status
complete_desk content serving rows a b faults faults_now before given given_now status is tables sound calm (ended, comes, finishes) = go ended comes finishes where
  silent : IsSilent faults faults_now given given_now status → HasNoMemory before given_now status
  silent s = record { status_is = s.ends; written = s.told ∙ is }

  answered : ServesAll (Some content) serving a b → AllAnswered content serving rows a b
  answered serves = answers_all content serving rows a b faults faults_now tables sound calm serves

  go : (ended : Result (Unit {0}) DeskStop) → DeskComes (Some content) serving a b ended → DeskFinishes serving.count ended faults faults_now given given_now status → CompletesDesk content serving rows a b before given_now status
  go (Ok done) comes (inl (inl whole)) = inl (answered comes.0, whole.ends, whole.told before is)
  go (Ok done) comes (inl (inr cut)) = absurd (calm.sink cut.rose)
  go (Ok done) comes (inr quiet) = inr (inl (answered comes.0), silent quiet)
  go (Err (Refused refusal)) comes finishes = absurd (no_refusal content serving rows a.tables refusal tables sound comes.0)
  go (Err ReadFault) comes finishes = absurd (calm.files comes.0)
  go (Err StoreFault) comes finishes = absurd (calm.keeper comes.1)
  go (Err DoorFault) (inl shut, files) finishes = absurd (calm.door shut.rose)
  go (Err DoorFault) (inr (first, last, n, less, served, keeper, door, rose), files) finishes = absurd (calm.door rose)
  go (Err NoMemory) comes quiet = inr (inr comes.0, silent quiet)

-- so for what the words ask, over the content that is told
pub desk_completes : (content : Option Content) (c : Content) (asked serving : Serving) (asks : Option Serving) (rows : Rows) (a b : Around) (faults faults_now : ℕ) (before : List ℕ) (given given_now : Option (List ℕ)) (status : ℕ)
    → Some asked ≡ asks → asks ≡ Some serving → content ≡ Some c → given ≡ Some before → a.tables ≡ Some rows
    → IsSoundDesk c serving rows → IsCalm a b faults faults_now
    → RunsDesk content asked a b faults faults_now given given_now status
    → CompletesDesk c serving rows a b before given_now status
desk_completes content c asked serving asks rows a b faults faults_now before given given_now status value is told given_is tables sound calm runs =
    let both : Some asked ≡ Some serving = value ∙ is in
    let same : asked ≡ serving = cc in
    complete_desk c serving rows a b faults faults_now before given given_now status given_is tables sound calm
    (subst (λ (s : Serving). RunsDesk (Some c) s a b faults faults_now given given_now status) same
    (subst (λ (o : Option Content). RunsDesk o asked a b faults faults_now given given_now status) told runs))

-- without memory for the words nothing was done
pub nothing_run : (content : Option Content) (serving : Serving) (a : Around) (faults : ℕ) (given : Option (List ℕ)) (status : ℕ) → status ≡ 8 → RunsDesk content serving a a faults faults given given status
nothing_run content serving a faults given status eight =
    (Err NoMemory, (record { tables = refl; door = refl; door_faults = refl }, refl, refl), record { ends = eight; still = refl; told = refl })
