use Rattle.std.proofs.Common.{◌≡◌, take}
use Rattle.bundle_reader.specs.Bundle.{bytes_of, named}
use Rattle.bundle_reader.proofs.bundles.bytes_of.Given as goal

abbrev pub invariant-loop-file : goal.invariant-loop-file
invariant-loop-file l = l.bytes ≡ named (bytes_of (take l.file-index l.files))
