-- The label file: a prefix, the links that have failed, and what each router holds.
use Rattle.std.specs.Prelude.{ℕ, ◌==◌, ◌&&◌, nat_lt, nat_le, Bool, true, List as Seq, [], ◌∷◌, length, map, find, codes, Option, Some, None, option_map, option_and_then, Result, Ok, Err, if◌then◌else◌}
use Rattle.std.specs.List.{range_with_len}
use Rattle.toml.specs.Data.{Data, Items, Members, as_integer, as_array, get_member}
use Rattle.net_types.specs.declared.refusals.FormRefusal.{FormRefusal}
use Rattle.net_types.specs.declared.refusals.FormRefusal.TheVariants.{BadField, SameName}
use Rattle.net_types.specs.declared.routes.Route.{Route}
use Rattle.net_types.specs.PrefixValue.{PrefixValue}
use Rattle.net_types.specs.NetValue.{NetValue}
use Rattle.toml_fields.specs.Fields.{within, prefix_at, has_only}
use Rattle.toml_fields.specs.Tables.{each_of, tables_at, rows_from, first_repeat}
use Rattle.toml_fields.specs.Document.{document_of, then_form}
use Rattle.label_file.specs.declared.contents.Label.{Label}
use Rattle.label_file.specs.declared.contents.Labels.{Labels}
use Rattle.label_file.specs.Tables.{label_of, is_same_router}

-- a link of the network, by its number
abbrev pub if_link : NetValue → ℕ → Option ℕ
if_link net number = if nat_lt number (length net.links) then Some number else None

abbrev pub link_in : NetValue → Data → Option ℕ
link_in net value = option_and_then (if_link net) (option_and_then (within 0 255) (as_integer value))

-- a failure set: at most three links, each number below the next
abbrev pub is_below_first : ℕ → Seq ℕ → Bool
is_below_first number [] = true
is_below_first number (next ∷ more) = nat_lt number next

abbrev pub ascends : Seq ℕ → Bool
ascends [] = true
ascends (number ∷ more) = is_below_first number more && ascends more

abbrev pub if_failure_set : Seq ℕ → Option (Seq ℕ)
if_failure_set links = if nat_le (length links) 3 && ascends links then Some links else None

-- the failed links that the key `down` names: none where there is no such key
abbrev pub down_of : NetValue → Items → Option (Seq ℕ)
down_of net items = option_and_then if_failure_set (each_of (link_in net) items)

abbrev pub down_in : NetValue → Option Data → Option (Seq ℕ)
down_in net None = Some []
down_in net (Some value) = option_and_then (down_of net) (as_array value)

abbrev pub down_at : NetValue → Members → Option (Seq ℕ)
down_at net top = down_in net (get_member (codes "down") top)

-- what a router holds: the route of its label; without one it holds none
abbrev pub held : Seq Label → ℕ → Option Route
held labels router = option_map (λ (label : Label). label.route) (find (λ (label : Label). label.router == router) labels)

-- what each of so many routers holds
abbrev pub labelling : ℕ → Seq Label → Seq (Option Route)
labelling routers labels = map (held labels) (range_with_len 0 routers)

-- no two labels are of one router; else the place of the later is named
abbrev pub unless_repeated : NetValue → PrefixValue → Seq ℕ → Seq Label → Option ℕ → Result Labels FormRefusal
unless_repeated net prefix failed labels (Some place) = Err (SameName place)
unless_repeated net prefix failed labels None = Ok (record {
  prefix = prefix;
  failed = failed;
  labels = labelling (length net.routers) labels;
})

abbrev pub with_labels : NetValue → PrefixValue → Seq ℕ → Seq Label → Result Labels FormRefusal
with_labels net prefix failed labels = unless_repeated net prefix failed labels (first_repeat is_same_router 1 [] labels)

abbrev pub labels_of_parts : NetValue → Option PrefixValue → Option (Seq ℕ) → Option Items → Result Labels FormRefusal
labels_of_parts net (Some prefix) (Some failed) (Some tables) = then_form (rows_from (label_of net) 1 tables) (with_labels net prefix failed)
labels_of_parts net _ _ _ = Err (BadField 0)

abbrev pub top_keys : Seq (Seq ℕ)
top_keys = codes "prefix" ∷ codes "down" ∷ codes "label" ∷ []

-- the labels of a top level, or its first refusal
unfoldable pub labels_of_top : NetValue → Members → Result Labels FormRefusal
labels_of_top net top =
    if has_only top_keys top
    then labels_of_parts net (prefix_at (codes "prefix") top) (down_at net top) (tables_at (codes "label") top) else Err (BadField 0)

-- the labels of a file, or its first refusal: too long, no TOML, the least place with a bad field, the least
-- place that repeats a router
unfoldable pub labels_of : NetValue → Seq ℕ → Result Labels FormRefusal
labels_of net text = then_form (document_of text) (labels_of_top net)
