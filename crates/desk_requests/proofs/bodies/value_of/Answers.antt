use Rattle.std.proofs.lemmas.Bool.{false≢true}
use Rattle.serde_json.specs.View.{view}
use Rattle.desk_requests.proofs.BodyLemmas.{data_is, data_none}
use Rattle.desk_requests.proofs.bodies.value_of.Goals as goal

pub returns-in-Ok-clause-ok : goal.returns-in-Ok-clause-ok
returns-in-Ok-clause-ok c = let h = c.in-Ok.ensures.ok in data_is c.args.text.now (view c.in-Ok.value) h.0 h.1

pub returns-else-is_memory-clause-other : goal.returns-else-is_memory-clause-other
returns-else-is_memory-clause-other c = λ _. data_none c.args.text.now (c.in-Err.ensures.err (λ m. false≢true (c.if-is_memory.ensures.1 m)))
