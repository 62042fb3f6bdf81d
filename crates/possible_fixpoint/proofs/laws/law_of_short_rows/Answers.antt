use Rattle.possible_fixpoint.proofs.ShortLemmas.{possible_is_short}
use Rattle.possible_fixpoint.proofs.laws.law_of_short_rows.Goals as goal

pub returns : goal.returns
returns c = possible_is_short
