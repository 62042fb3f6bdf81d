use Rattle.std.proofs.Common.{◌≡◌, drop}
use Rattle.toml.specs.View.{items_view}
use Rattle.toml_fields.proofs.Gathered.{behind_all}
use Rattle.toml_fields.specs.Tables.{each_of}
use Rattle.label_file.specs.Values.{hop_of}
use Rattle.label_file.proofs.values.hops_of.Given as goal

abbrev pub invariant-loop-value : goal.invariant-loop-value
invariant-loop-value l =
    behind_all l.path (each_of (hop_of l.net) (items_view (drop l.value-index l.value-items))) ≡ each_of (hop_of l.net) (items_view l.value-items)
