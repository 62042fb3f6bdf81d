-- What a text gives is a book of at most 64 properties, or a refusal that is no want of memory.
use Rattle.std.proofs.Common.{ℕ, ◌≡◌, ◌≢◌, ◌+◌, ◌≤◌, Bool, true, false, cond, nat_lt, List, [], length, Option, Some, None, arith, refl, subst}
use Rattle.std.specs.Prelude.{Result, Ok, Err, option_and_then}
use Rattle.std.proofs.lemmas.Bool.Decides.{nat_tests}
use Rattle.std.specs.Str.{is_utf8}
use Rattle.toml.specs.Data.{Items, Members, as_table, item, no_items}
use Rattle.toml.specs.Parse.{parse_document}
use Rattle.net_types.specs.declared.refusals.FormRefusal.{FormRefusal}
use Rattle.net_types.specs.declared.refusals.FormRefusal.TheVariants.{BadField, NoMemory, NotToml, SameName, TooLong, TooMany}
use Rattle.toml_fields.specs.Document.{document_of, or_no_toml, then_form}
use Rattle.toml_fields.specs.Tables.{before_all, first_repeat, or_bad_field, rows_from}
use Rattle.property_book.specs.Book.{book_of, book_of_tables, book_of_top, is_same_name, property_of, tables_of, unless_repeated, with_names}
use Rattle.property_book.specs.declared.property.Property.{Property}

-- a value, or a refusal that is no want of memory
abbrev IsSound : {A : Type 0} → Result A FormRefusal → Type 0
IsSound (Ok value) = Unit {0}
IsSound (Err refusal) = refusal ≢ NoMemory

-- few properties, or such a refusal
abbrev IsSmall : Result (List Property) FormRefusal → Type 0
IsSmall (Ok book) = length book ≤ 64
IsSmall (Err refusal) = refusal ≢ NoMemory

bad_field : (place : ℕ) → BadField place ≢ NoMemory
bad_field place e = cc

too_many : (count : ℕ) → TooMany count ≢ NoMemory
too_many count e = cc

same_name : (place : ℕ) → SameName place ≢ NoMemory
same_name place e = cc

too_long : TooLong ≢ NoMemory
too_long e = cc

not_toml : NotToml ≢ NoMemory
not_toml e = cc

-- ---- the properties of tables

before_sound : {A : Type 0} (row : A) (more : Result (List A) FormRefusal) → IsSound more → IsSound (before_all row more)
before_sound row (Ok rows) h = tt
before_sound row (Err refusal) h = h

row_sound : {A : Type 0} (row : Option A) (place : ℕ) (more : Result (List A) FormRefusal) → IsSound more → IsSound (or_bad_field row place more)
row_sound (Some row) place more h = before_sound row more h
row_sound None place more h = bad_field place

rows_sound : {A : Type 0} (read : Members → Option A) (place : ℕ) (items : Items) → IsSound (rows_from read place items)
rows_sound read place no_items = tt
rows_sound read place (item value more) = row_sound (option_and_then read (as_table value)) place (rows_from read (place + 1) more) (rows_sound read (place + 1) more)

few_small : (properties : List Property) (many : Bool) → nat_lt 64 (length properties) ≡ many → IsSmall (cond many (Err (TooMany (length properties))) (Ok properties))
few_small properties true e = too_many (length properties)
few_small properties false e = at_most (length properties) e where
  at_most : (n : ℕ) → nat_lt 64 n ≡ false → n ≤ 64
  at_most n h = grind (arith, nat_tests)

names_small : (repeat : Option ℕ) (properties : List Property) → IsSmall (unless_repeated repeat properties)
names_small (Some place) properties = same_name place
names_small None properties = few_small properties (nat_lt 64 (length properties)) refl

then_small : {A : Type 0} (first : Result A FormRefusal) (next : A → Result (List Property) FormRefusal) → IsSound first → ((value : A) → IsSmall (next value)) → IsSmall (then_form first next)
then_small (Ok value) next h all = all value
then_small (Err refusal) next h all = h

tables_small : (tables : Option Items) → IsSmall (book_of_tables tables)
tables_small None = bad_field 0
tables_small (Some items) =
    then_small (rows_from property_of 1 items) with_names (rows_sound property_of 1 items) (λ properties. names_small (first_repeat is_same_name 1 [] properties) properties)

-- ---- the document

document_sound : (text : List ℕ) → IsSound (document_of text)
unfolding document_of
document_sound text = go (nat_lt 262144 (length text)) (is_utf8 text) (parse_document text) where
  go : (long utf8 : Bool) (top : Option Members) → IsSound (cond long (Err TooLong) (cond utf8 (or_no_toml top) (Err NotToml)))
  go true utf8 top = too_long
  go false false top = not_toml
  go false true None = not_toml
  go false true (Some top) = tt

book_small : (text : List ℕ) → IsSmall (book_of text)
unfolding book_of
book_small text = then_small (document_of text) book_of_top (document_sound text) (λ top. tables_small (tables_of top))

pub book_refusal : (text : List ℕ) (refusal : FormRefusal) → book_of text ≡ Err refusal → refusal ≢ NoMemory
book_refusal text refusal e = subst (λ (r : Result (List Property) FormRefusal). IsSmall r) e (book_small text)

pub book_few : (text : List ℕ) (book : List Property) → book_of text ≡ Ok book → length book ≤ 64
book_few text book e = subst (λ (r : Result (List Property) FormRefusal). IsSmall r) e (book_small text)
