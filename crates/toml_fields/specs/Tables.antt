-- The tables of an array of tables, in their order, counted from 1; what they give together, or the first
-- place that stops it.
use Rattle.std.specs.Prelude.{ℕ, ◌+◌, ◌&&◌, Bool, true, false, List as Seq, [], ◌∷◌, ◌++◌, Option, Some, None, option_and_then, Result, Ok, Err, if◌then◌else◌}
use Rattle.std.specs.List.{list_any}
use Rattle.toml.specs.Data.{Data, Items, no_items, item, Members, as_array, as_table, get_member, table}
use Rattle.net_types.specs.declared.refusals.FormRefusal.{FormRefusal}
use Rattle.net_types.specs.declared.refusals.FormRefusal.TheVariants.{BadField}

-- whether each item of an array is a table
abbrev pub is_table : Data → Bool
is_table (table fields) = true
is_table _ = false

abbrev pub are_tables : Items → Bool
are_tables no_items = true
are_tables (item value more) = is_table value && are_tables more

abbrev pub if_tables : Items → Option Items
if_tables items = if are_tables items then Some items else None

-- the tables of the array at a key: none where there is no such key, and no answer where the value there is
-- no array or holds anything else
abbrev pub tables_in : Option Data → Option Items
tables_in None = Some no_items
tables_in (Some value) = option_and_then if_tables (as_array value)

abbrev pub tables_at : Seq ℕ → Members → Option Items
tables_at key fields = tables_in (get_member key fields)

-- what a table gives is put in front of what the later ones give; a table that gives nothing is named by its
-- place
abbrev pub before_all : {A : Type 0} → A → Result (Seq A) FormRefusal → Result (Seq A) FormRefusal
before_all row (Ok more) = Ok (row ∷ more)
before_all row (Err refusal) = Err refusal

abbrev pub or_bad_field : {A : Type 0} → Option A → ℕ → Result (Seq A) FormRefusal → Result (Seq A) FormRefusal
or_bad_field (Some row) place more = before_all row more
or_bad_field None place more = Err (BadField place)

-- what the tables give, or the place of the first that gives nothing, the first of these being at `place`
abbrev pub rows_from : {A : Type 0} → (Members → Option A) → ℕ → Items → Result (Seq A) FormRefusal
rows_from read place no_items = Ok []
rows_from read place (item value more) = or_bad_field (option_and_then read (as_table value)) place (rows_from read (place + 1) more)

-- the place of the first row that is the same as one before it
abbrev pub first_repeat : {A : Type 0} → (A → A → Bool) → ℕ → Seq A → Seq A → Option ℕ
first_repeat same place before [] = None
first_repeat same place before (row ∷ more) =
    if list_any (λ earlier. same earlier row) before then Some place else first_repeat same (place + 1) (before ++ row ∷ []) more

-- what the items of an array give, where each gives something
abbrev pub in_front : {A : Type 0} → Option A → Option (Seq A) → Option (Seq A)
in_front (Some a) (Some more) = Some (a ∷ more)
in_front _ _ = None

abbrev pub each_of : {A : Type 0} → (Data → Option A) → Items → Option (Seq A)
each_of read no_items = Some []
each_of read (item value more) = in_front (read value) (each_of read more)
