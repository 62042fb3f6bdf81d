use Rattle.flow_board.proofs.PassLemmas.{raise_is_seen, met_is_between, both_is_join}
use Rattle.flow_board.proofs.laws.law_of_raises.Goals as goal

pub returns : goal.returns
returns c = record { seen = raise_is_seen; met = met_is_between; both = both_is_join }
