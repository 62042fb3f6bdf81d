use Rattle.net_types.proofs.NumberLemmas.{numbers_read_back, numbers_have_one_text}
use Rattle.net_types.proofs.laws.law_of_numbers.Goals as goal

pub returns-clause-back : goal.returns-clause-back
returns-clause-back c = numbers_read_back

pub returns-clause-one : goal.returns-clause-one
returns-clause-one c = numbers_have_one_text
