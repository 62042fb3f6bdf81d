use Rattle.std.proofs.Common.{◌≡◌, length}
use Rattle.outside.specs.Entries.{are_distinct}
use Rattle.outside.proofs.entries.pass_distinct.Given as goal

abbrev pub invariant-loop-first : goal.invariant-loop-first
invariant-loop-first l = are_distinct l.rest ≡ are_distinct l.entries

abbrev pub decreases-loop-first : goal.decreases-loop-first
decreases-loop-first l = length l.rest
