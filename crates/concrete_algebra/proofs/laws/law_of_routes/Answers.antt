use Rattle.concrete_algebra.proofs.ReadingLemmas.{imports_set, open_arcs_carry}
use Rattle.concrete_algebra.proofs.laws.law_of_routes.Goals as goal

pub returns : goal.returns
returns c = record { arcs = open_arcs_carry; imports = imports_set }
