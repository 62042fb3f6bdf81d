use Rattle.std.proofs.Common.{ap, Some, sym, ◌∙◌}
use Rattle.failure_sets.proofs.LawLemmas.{empty_set_is_first}
use Rattle.failure_sets.proofs.walk.first.Goals as goal

pub returns-clause-first : goal.returns-clause-first
returns-clause-first c = λ links most. empty_set_is_first links most ∙ ap Some (sym c.empty.ensures)
