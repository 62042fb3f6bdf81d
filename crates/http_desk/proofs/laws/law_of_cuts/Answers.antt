use Rattle.http_desk.proofs.OneLemmas.{alike}
use Rattle.http_desk.proofs.laws.law_of_cuts.Goals as goal

pub returns : goal.returns
returns c = alike
