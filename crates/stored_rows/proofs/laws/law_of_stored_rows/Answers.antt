use Rattle.stored_rows.proofs.OutLemmas.{good_tables}
use Rattle.stored_rows.proofs.ValidLemmas.{valid_tables}
use Rattle.stored_rows.proofs.laws.law_of_stored_rows.Goals as goal

pub returns : goal.returns
returns c = λ t. (good_tables t, valid_tables t)
