use Rattle.std.proofs.Common.{rules}
use Rattle.toml.specs.View.{table_view}
use Rattle.toml_fields.proofs.DocumentLemmas.{short_document_of-some, short_document_of-none}
use Rattle.toml_fields.proofs.documents.short_document.Goals as goal

pub returns-in-Ok : goal.returns-in-Ok
returns-in-Ok c = short_document_of-some c.args.text.now (table_view c.in-Ok.top) c.in-Ok.ensures.ok.0 c.in-Ok.ensures.ok.1

pub returns-else-is_memory : goal.returns-else-is_memory
returns-else-is_memory c = short_document_of-none c.args.text.now (c.in-Err.ensures.refused (search rules))
