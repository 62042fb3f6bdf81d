use Rattle.std.proofs.Common.{◌≡◌, map}
use Rattle.std.specs.List.{range_with_len}
use Rattle.ladder.specs.Files.{file_of}
use Rattle.ladder.specs.Links.{ladder_links}
use Rattle.ladder.proofs.files.generate.Given as goal

abbrev pub invariant-loop-router : goal.invariant-loop-router
invariant-loop-router l = l.files ≡ map (file_of l.columns (ladder_links l.columns)) (range_with_len 0 l.router)
