-- The file of users: what its TOML says, or its first refusal.
use Rattle.std.specs.Prelude.{ℕ, ◌+◌, ◌&&◌, ◌||◌, nat_le, nat_lt, Bool, true, false, List as Seq, [], ◌∷◌, length, codes, Option, Some, None, option_and_then, Result, Ok, Err, if◌then◌else◌}
use Rattle.std.specs.List.{list_all}
use Rattle.toml.specs.Data.{Data, Items, no_items, item, Members, as_str}
use Rattle.net_types.specs.declared.refusals.FormRefusal.{FormRefusal}
use Rattle.net_types.specs.declared.refusals.FormRefusal.TheVariants.{BadField, SameName, TooMany}
use Rattle.net_types.specs.Names.{is_name_byte}
use Rattle.net_types.specs.Order.{same_text}
use Rattle.toml_fields.specs.Fields.{text_at, host_at, array_at, has_only}
use Rattle.toml_fields.specs.Tables.{tables_at, rows_from, first_repeat}
use Rattle.toml_fields.specs.Document.{document_of, then_form}
use Rattle.desk_tables.specs.declared.rows.User.{User}

-- a token has 1 to 128 bytes that are printed, and no blank
abbrev pub is_token : Seq ℕ → Bool
is_token text = nat_le 1 (length text) && nat_le (length text) 128 && list_all is_name_byte text

abbrev pub if_token : Seq ℕ → Option (Seq ℕ)
if_token text = if is_token text then Some text else None

abbrev pub token_at : Members → Option (Seq ℕ)
token_at fields = option_and_then if_token (text_at (codes "token") fields)

-- a value is this word
abbrev pub says : Seq ℕ → Option (Seq ℕ) → Bool
says word None = false
says word (Some text) = same_text text word

abbrev pub is_word : Seq ℕ → Data → Bool
is_word word value = says word (as_str value)

-- a role
abbrev pub is_role : Data → Bool
is_role value = is_word (codes "author") value || is_word (codes "approver") value || is_word (codes "admin") value

abbrev pub are_roles : Items → Bool
are_roles no_items = true
are_roles (item value more) = is_role value && are_roles more

-- how often a word stands in an array
abbrev pub one_if : Bool → ℕ
one_if true = 1
one_if false = 0

abbrev pub count_of : Seq ℕ → Items → ℕ
count_of word no_items = 0
count_of word (item value more) = one_if (is_word word value) + count_of word more

abbrev pub at_most_once : Seq ℕ → Items → Bool
at_most_once word items = nat_le (count_of word items) 1

-- the roles of a user: each is one of the three, and stands at most once
abbrev pub fit : Items → Bool
fit items = are_roles items && at_most_once (codes "author") items && at_most_once (codes "approver") items && at_most_once (codes "admin") items

abbrev pub if_fit : Items → Option Items
if_fit items = if fit items then Some items else None

abbrev pub roles_at : Members → Option Items
roles_at fields = option_and_then if_fit (array_at (codes "roles") fields)

abbrev pub has_role : Seq ℕ → Items → Bool
has_role word items = nat_le 1 (count_of word items)

abbrev pub keys : Seq (Seq ℕ)
keys = codes "name" ∷ codes "token" ∷ codes "roles" ∷ []

abbrev pub assembled : Members → Option (Seq ℕ) → Option (Seq ℕ) → Option Items → Option User
assembled fields (Some name) (Some token) (Some roles) =
    if has_only keys fields
    then Some (record { name = name; token = token; author = has_role (codes "author") roles; approver = has_role (codes "approver") roles; admin = has_role (codes "admin") roles }) else None
assembled fields _ _ _ = None

-- the user of a table, where each of its fields is there, known and in range
unfoldable pub user_in : Members → Option User
user_in fields = assembled fields (host_at (codes "name") fields) (token_at fields) (roles_at fields)

-- the tables of the array `user`, where the top level has nothing else
unfoldable pub tables_of : Members → Option Items
tables_of top = if has_only (codes "user" ∷ []) top then tables_at (codes "user") top else None

-- two users have one name or one token
abbrev pub is_same_user : User → User → Bool
is_same_user a b = same_text a.name b.name || same_text a.token b.token

abbrev pub if_few : Seq User → Result (Seq User) FormRefusal
if_few users = if nat_lt 256 (length users) then Err (TooMany (length users)) else Ok users

abbrev pub unless_repeated : Option ℕ → Seq User → Result (Seq User) FormRefusal
unless_repeated (Some place) users = Err (SameName place)
unless_repeated None users = if_few users

-- the users, unless one repeats the name or the token of one before it, whose place is told, or there are too many
abbrev pub with_names : Seq User → Result (Seq User) FormRefusal
with_names users = unless_repeated (first_repeat is_same_user 1 [] users) users

abbrev pub users_of_tables : Option Items → Result (Seq User) FormRefusal
users_of_tables None = Err (BadField 0)
users_of_tables (Some items) = then_form (rows_from user_in 1 items) with_names

abbrev pub users_of_top : Members → Result (Seq User) FormRefusal
users_of_top top = users_of_tables (tables_of top)

-- the users of a file, or the first refusal: too long, no TOML, a bad field, a repeated name or token, too many
unfoldable pub users_of : Seq ℕ → Result (Seq User) FormRefusal
users_of text = then_form (document_of text) users_of_top
