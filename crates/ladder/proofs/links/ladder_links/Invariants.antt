use Rattle.std.proofs.Common.{◌≡◌}
use Rattle.ladder.specs.Links.{links_before}
use Rattle.ladder.proofs.links.ladder_links.Given as goal

abbrev pub invariant-loop-column : goal.invariant-loop-column
invariant-loop-column l = l.links ≡ links_before l.columns l.column
