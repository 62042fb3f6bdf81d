-- The property file: what its TOML says, or its first refusal.
use Rattle.std.specs.Prelude.{ℕ, ◌≤◌, nat_lt, Bool, List as Seq, [], ◌∷◌, length, codes, Option, Some, None, option_and_then, option_map, Result, Ok, Err, if◌then◌else◌}
use Rattle.toml.specs.Data.{Items, Members}
use Rattle.net_types.specs.declared.refusals.FormRefusal.{FormRefusal}
use Rattle.net_types.specs.declared.refusals.FormRefusal.TheVariants.{BadField, SameName, TooMany}
use Rattle.net_types.specs.PrefixValue.{PrefixValue}
use Rattle.net_types.specs.Order.{same_text}
use Rattle.toml_fields.specs.Fields.{text_at, host_at, prefix_at, number_at, has_only}
use Rattle.toml_fields.specs.Tables.{tables_at, rows_from, first_repeat}
use Rattle.toml_fields.specs.Document.{document_of, then_form}
use Rattle.property_book.specs.declared.property.Kind.{Kind}
use Rattle.property_book.specs.declared.property.Kind.TheVariants.{Reach, Isolated, Waypoint}
use Rattle.property_book.specs.declared.property.Property.{Property}

-- the kind of a property's word, a waypoint going through the host of `via`
abbrev pub kind_of : Seq ℕ → Option (Seq ℕ) → Option Kind
kind_of word via =
    if same_text word (codes "reach") then Some Reach else
    if same_text word (codes "isolated") then Some Isolated else
    if same_text word (codes "waypoint") then option_map Waypoint via else None

abbrev pub kind_at : Members → Option Kind
kind_at fields = option_and_then (λ word. kind_of word (host_at (codes "via") fields)) (text_at (codes "kind") fields)

-- the fields that a property has: `via` is one of a waypoint alone
abbrev pub every_keys : Seq (Seq ℕ)
every_keys = codes "name" ∷ codes "kind" ∷ codes "router" ∷ codes "prefix" ∷ codes "failures" ∷ []

abbrev pub keys_of : Kind → Seq (Seq ℕ)
keys_of (Waypoint via) = codes "via" ∷ every_keys
keys_of _ = every_keys

-- what can be asked: that a property holds with at most three failed links
abbrev pub IsAsked : Property → Type 0
IsAsked property = property.failures ≤ 3

abbrev pub assembled : Members → Option (Seq ℕ) → Option Kind → Option (Seq ℕ) → Option PrefixValue → Option ℕ → Option Property
assembled fields (Some name) (Some kind) (Some router) (Some prefix) (Some failures) =
    if has_only (keys_of kind) fields
    then Some (record { name = name; kind = kind; router = router; prefix = prefix; failures = failures }) else None
assembled fields _ _ _ _ _ = None

-- the property of a table, where each of its fields is there, known and in range
unfoldable pub property_of : Members → Option Property
property_of fields =
    assembled fields (host_at (codes "name") fields) (kind_at fields) (host_at (codes "router") fields)
    (prefix_at (codes "prefix") fields) (number_at 0 3 (codes "failures") fields)

-- the tables of the array `property`, where the top level has nothing else
unfoldable pub tables_of : Members → Option Items
tables_of top = if has_only (codes "property" ∷ []) top then tables_at (codes "property") top else None

-- two properties have one name
abbrev pub is_same_name : Property → Property → Bool
is_same_name a b = same_text a.name b.name

abbrev pub if_few : Seq Property → Result (Seq Property) FormRefusal
if_few properties = if nat_lt 64 (length properties) then Err (TooMany (length properties)) else Ok properties

abbrev pub unless_repeated : Option ℕ → Seq Property → Result (Seq Property) FormRefusal
unless_repeated (Some place) properties = Err (SameName place)
unless_repeated None properties = if_few properties

-- the properties, unless one repeats the name of one before it, whose place is told, or there are too many
abbrev pub with_names : Seq Property → Result (Seq Property) FormRefusal
with_names properties = unless_repeated (first_repeat is_same_name 1 [] properties) properties

abbrev pub book_of_tables : Option Items → Result (Seq Property) FormRefusal
book_of_tables None = Err (BadField 0)
book_of_tables (Some items) = then_form (rows_from property_of 1 items) with_names

abbrev pub book_of_top : Members → Result (Seq Property) FormRefusal
book_of_top top = book_of_tables (tables_of top)

-- the properties of a file, or the first refusal: too long, no TOML, a bad field, a repeated name, too many
unfoldable pub book_of : Seq ℕ → Result (Seq Property) FormRefusal
book_of text = then_form (document_of text) book_of_top
