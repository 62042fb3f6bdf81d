-- What the tables of an array give together, said by their places.
use Rattle.std.specs.Prelude.{ℕ, zero, suc, ◌≡◌, ◌<◌, ◌+◌, List as Seq, Option, Some, None, option_and_then, Ok, Err, slice_get}
use Rattle.toml.specs.Data.{Data, Items, no_items, item, Members, as_table}
use Rattle.net_types.specs.declared.refusals.FormRefusal.{FormRefusal}
use Rattle.net_types.specs.declared.refusals.FormRefusal.TheVariants.{BadField}
use Rattle.toml_fields.specs.Tables.{rows_from}

-- the item behind so many others
abbrev pub item_at : Items → ℕ → Option Data
item_at no_items k = None
item_at (item value more) zero = Some value
item_at (item value more) (suc k) = item_at more k

-- what the table behind so many others gives
abbrev pub row_at : {A : Type 0} → (Members → Option A) → Items → ℕ → Option A
row_at read items k = option_and_then read (option_and_then as_table (item_at items k))

-- the item behind k others is the first that gives nothing
pub record IsFirstBad {A : Type 0} (read : Members → Option A) (items : Items) (k : ℕ) : Type 0 where
  pub there : (value : Data) × (item_at items k ≡ Some value)
  pub bad : row_at read items k ≡ None
  pub earlier : (j : ℕ) → j < k → (row : A) × (row_at read items j ≡ Some row)

-- rows are what the tables give, each in its place; a refusal names the first table that gives nothing, counted from 1
abbrev pub RowsByPlace : {A : Type 0} → (Members → Option A) → Type 0
RowsByPlace {A} read =
    ((items : Items) (rows : Seq A) → rows_from read 1 items ≡ Ok rows → (k : ℕ) → slice_get rows k ≡ row_at read items k) ×
    ((items : Items) (refusal : FormRefusal) → rows_from read 1 items ≡ Err refusal →
    (k : ℕ) × (refusal ≡ BadField (k + 1)) × IsFirstBad read items k)
