use Rattle.frr_reader.specs.Reading.{reading}
use Rattle.frr_reader.proofs.ConfigLemmas.{reading_kept, answer_kept}
use Rattle.frr_reader.proofs.reading.read_router.Goals as goal

pub returns-clause-kept : goal.returns-clause-kept
returns-clause-kept c = answer_kept (reading c.args.text.now) c.read_text.result (reading_kept c.args.text.now) c.read_text.ensures
