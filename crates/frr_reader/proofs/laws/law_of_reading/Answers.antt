use Rattle.frr_reader.proofs.FirstRefusalLemmas.{read_once}
use Rattle.frr_reader.proofs.laws.law_of_reading.Goals as goal

pub returns : goal.returns
returns c = read_once c.args._text.now
