use Rattle.std.proofs.Common.{◌≡◌, filter, fold}
use Rattle.std.specs.Vec.Iter.{into_iter_items}
use Rattle.net_types.specs.Order.{same_text, text_before}
use Rattle.topology.specs.Ascending.{put}
use Rattle.commands.specs.Folder.{config_names, is_config}
use Rattle.commands.proofs.folder.config_names.Given as goal

abbrev pub invariant-loop-name : goal.invariant-loop-name
invariant-loop-name l = fold (λ done name. put same_text text_before done name) l.done.items (filter is_config (into_iter_items l.name-iterator)) ≡ config_names l.fn.names
