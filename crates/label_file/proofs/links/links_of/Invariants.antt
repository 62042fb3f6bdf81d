use Rattle.std.proofs.Common.{◌≡◌, drop}
use Rattle.toml.specs.View.{items_view}
use Rattle.toml_fields.proofs.Gathered.{behind_all}
use Rattle.toml_fields.specs.Tables.{each_of}
use Rattle.label_file.specs.File.{link_in}
use Rattle.label_file.proofs.links.links_of.Given as goal

abbrev pub invariant-loop-value : goal.invariant-loop-value
invariant-loop-value l =
    behind_all l.links (each_of (link_in l.net) (items_view (drop l.value-index l.value-items))) ≡ each_of (link_in l.net) (items_view l.value-items)
