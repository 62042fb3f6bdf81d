use Rattle.std.proofs.Common.{◌≡◌, drop, fold, option_map}
use Rattle.toml.specs.View.{items_view}
use Rattle.toml_fields.specs.Tables.{each_of}
use Rattle.label_file.specs.Communities.{with_number}
use Rattle.label_file.specs.Values.{member_of, communities_in}
use Rattle.label_file.proofs.values.communities_in.Given as goal

abbrev pub invariant-loop-value : goal.invariant-loop-value
invariant-loop-value l =
    option_map (fold with_number l.set) (each_of (member_of l.net) (items_view (drop l.value-index l.value-items))) ≡ communities_in l.net (items_view l.value-items)
