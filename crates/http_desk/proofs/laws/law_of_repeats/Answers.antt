use Rattle.http_desk.proofs.OneLemmas.{acts_once}
use Rattle.http_desk.proofs.laws.law_of_repeats.Goals as goal

pub returns : goal.returns
returns c = acts_once
