use Rattle.std.proofs.Common.{◌≡◌}
use Rattle.label_file.specs.File.{labelling}
use Rattle.label_file.proofs.reading.labelling.Given as goal

abbrev pub invariant-loop-router : goal.invariant-loop-router
invariant-loop-router l = l.all ≡ labelling l.router l.labels
