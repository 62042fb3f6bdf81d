-- What a keeper tells, and what a performed request does.
use Rattle.std.specs.Prelude.{ℕ, ◌≡◌, ◌⊎◌, List, Option, Some, None, Result, Ok, Err}
use Rattle.std.specs.Option.{option_map}
use Rattle.outside.specs.Faults.{Rose}
use Rattle.desk_tables.specs.declared.rows.Rows.{Rows}
use Rattle.desk_tables.specs.declared.rows.User.{User}
use Rattle.review_rules.specs.State.{State}
use Rattle.review_rules.specs.Rules.{Outcome, Repeated, Refused, Accepted}
use Rattle.review_rules.specs.State.{Held}
use Rattle.stored_rows.specs.Stored.{first_bad_row}
use Rattle.review_rules.specs.Laws.{IsAccepted}
use Rattle.desk_keeper.specs.declared.keeper.KeeperError.{KeeperError}
use Rattle.desk_keeper.specs.declared.keeper.KeeperError.TheVariants.{Failed, NoMemory as NoKeeperMemory}
use Rattle.desk_keeper.specs.declared.store.StartRefusal.{StartRefusal}
use Rattle.desk_keeper.specs.declared.store.StartRefusal.TheVariants.{Failed as StartFailed, BadRow, NoMemory as NoStartMemory}
use Rattle.desk_keeper.specs.declared.store.Performed.{Performed}
use Rattle.desk_keeper.specs.declared.store.Performed.TheVariants.{Accepted as PerformedAccepted, Repeated as PerformedRepeated, Refused as PerformedRefused, StoreFault, NoMemory}

-- the count of a keeper's faults rises where a call fails, and stands where it does not
abbrev pub IsRefusal : ℕ → ℕ → KeeperError → Type 0
IsRefusal before now Failed = Rose before now
IsRefusal before now NoKeeperMemory = now ≡ before

abbrev pub HasCause : {A : Type 0} → ℕ → ℕ → Result A KeeperError → Type 0
HasCause before now (Ok a) = now ≡ before
HasCause before now (Err refusal) = IsRefusal before now refusal

-- where tables are told, they are these
abbrev pub Agrees : Option Rows → Rows → Type 0
Agrees None tables = Unit {0}
Agrees (Some told) tables = told ≡ tables

-- from the old state and told tables, a performed request may leave the new ones, where this is the machine's outcome;
-- the keeper's count rises at a fault, and at a fault alone
abbrev pub Performs : Outcome → State → State → Option Rows → Option Rows → ℕ → ℕ → Performed → Type 0
-- accepted: the machine's reply and tables, told too
Performs outcome old new told now before after (PerformedAccepted reply) = (outcome ≡ Accepted new.tables reply) × (new.users ≡ old.users) × (now ≡ option_map (λ t. new.tables) told) × (after ≡ before)
-- repeated and refused: the machine's reply or rule, and all as before
Performs outcome old new told now before after (PerformedRepeated reply) = (outcome ≡ Repeated reply) × (new ≡ old) × (now ≡ told) × (after ≡ before)
Performs outcome old new told now before after (PerformedRefused rule) = (outcome ≡ Refused rule) × (new ≡ old) × (now ≡ told) × (after ≡ before)
-- a fault of the keeper: the machine accepts, the keeper's count rose, and all is as before
Performs outcome old new told now before after StoreFault = IsAccepted outcome × Rose before after × (new ≡ old) × (now ≡ told)
-- want of memory: all is as before
Performs outcome old new told now before after NoMemory = (new ≡ old) × (now ≡ told) × (after ≡ before)

-- the kept reply, or want of memory
abbrev pub AnswersKept : Outcome → Performed → Type 0
AnswersKept outcome (PerformedRepeated reply) = outcome ≡ Repeated reply
AnswersKept outcome NoMemory = Unit {0}
AnswersKept outcome _ = ⊥

-- what `start` comes to: a store of these users, whose tables are those that are told; or why there is none. At a
-- fault and without memory the keeper is open under the name where it was opened, else it is not open
abbrev pub BadWhereTold : Option Rows → ℕ → ℕ → Type 0
BadWhereTold None table row = Unit {0}
BadWhereTold (Some told) table row = first_bad_row told ≡ Some (table, row)

abbrev pub IsOpenOrShut : Option (List ℕ) → List ℕ → Type 0
IsOpenOrShut shown name = (shown ≡ Some name) ⊎ (shown ≡ None)

abbrev pub Starts : List User → Option Rows → Option (List ℕ) → List ℕ → ℕ → ℕ → Result Held StartRefusal → Type 0
Starts users told shown name before now (Ok store) =
    (store.state.users ≡ users) × Agrees told store.state.tables × (first_bad_row store.state.tables ≡ None) × (shown ≡ Some name) × (now ≡ before)
Starts users told shown name before now (Err StartFailed) = Rose before now × IsOpenOrShut shown name
Starts users told shown name before now (Err (BadRow table row)) = BadWhereTold told table row × (shown ≡ Some name) × (now ≡ before)
Starts users told shown name before now (Err NoStartMemory) = (now ≡ before) × IsOpenOrShut shown name
