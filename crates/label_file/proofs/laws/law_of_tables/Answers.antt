use Rattle.toml_fields.proofs.PlaceLemmas.{rows_by_place}
use Rattle.label_file.specs.Tables.{label_of}
use Rattle.label_file.proofs.laws.law_of_tables.Goals as goal

pub returns : goal.returns
returns c = λ net. rows_by_place (label_of net)
