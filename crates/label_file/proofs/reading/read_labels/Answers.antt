use Rattle.label_file.proofs.FactLemmas.{kept}
use Rattle.label_file.proofs.reading.read_labels.Goals as goal

pub returns-clause-kept : goal.returns-clause-kept
returns-clause-kept c = kept c.args.net.now c.args.text.now c.labels_of_text.result c.valid.ensures.few_communities c.labels_of_text.ensures
