-- The keeper in memory: its calls, the name under which it is open, and its tables, each in the order of its keys.
use Rattle.std.specs.Prelude.{ℕ, ◌≡◌, true, false, List, Option, Result, Ok, Err}
use Rattle.std.specs.Ordering.{nat_cmp}
use Rattle.outside.specs.Calls.{CallsValue, fails}
use Rattle.desk_tables.specs.Order.{Ascends, numbered_cmp, texts_cmp}
use Rattle.desk_tables.specs.Tables.{policy_key, review_key, file_key, approval_key, certificate_key, kept_key}
use Rattle.desk_tables.specs.Valid.{IsValid}
use Rattle.desk_tables.specs.declared.rows.Rows.{Rows}
use Rattle.desk_keeper.specs.declared.keeper.KeeperError.{KeeperError}
use Rattle.desk_keeper.specs.declared.keeper.KeeperError.TheVariants.{Failed, NoMemory}

pub record KeeperValue : Type 0 where
  pub calls : CallsValue
  pub name : Option (List ℕ)
  pub rows : Rows

pub record AreInOrder (t : Rows) : Type 0 where
  pub policies : Ascends nat_cmp policy_key t.policies
  pub reviews : Ascends nat_cmp review_key t.reviews
  pub files : Ascends numbered_cmp file_key t.files
  pub approvals : Ascends numbered_cmp approval_key t.approvals
  pub certificates : Ascends nat_cmp certificate_key t.certificates
  pub kept : Ascends texts_cmp kept_key t.kept

-- valid tables are in the order of their keys
abbrev pub ValidTablesAreInOrder : Type 0
ValidTablesAreInOrder = (t : Rows) → IsValid t → AreInOrder t

-- a call fails exactly where it is one of those that are to fail
abbrev pub FailsExactly : {A : Type 0} → CallsValue → Result A KeeperError → Type 0
FailsExactly calls (Ok a) = fails calls ≡ false
FailsExactly calls (Err Failed) = fails calls ≡ true
FailsExactly calls (Err NoMemory) = fails calls ≡ false
