use Rattle.std.proofs.Common.{◌≡◌, Some}
use Rattle.std.specs.Vec.Iter.{into_iter_items}
use Rattle.outside.specs.Content.{Content}
use Rattle.commands.specs.Folder.{after_files, files_of}
use Rattle.commands.proofs.folder.read_files.Given as goal

abbrev pub invariant-loop-name : goal.invariant-loop-name
invariant-loop-name g l =
    (g.F.Shelf.faults l.shelf ≡ g.F.Shelf.faults l.initial.shelf) ×
    (g.F.Shelf.content l.shelf ≡ g.F.Shelf.content l.initial.shelf) ×
    ((c : Content) → g.F.Shelf.content l.initial.shelf ≡ Some c → after_files l.files (files_of c l.folder (into_iter_items l.name-iterator)) ≡ files_of c l.folder l.fn.names.items)
