use Rattle.possible_fixpoint.proofs.AliveLemmas.{possible_falls}
use Rattle.possible_fixpoint.proofs.laws.law_of_less_alive.Goals as goal

pub returns : goal.returns
returns c = possible_falls
