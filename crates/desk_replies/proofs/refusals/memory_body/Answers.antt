use Rattle.desk_replies.proofs.TextLemmas.{text_NoMemory}
use Rattle.desk_replies.proofs.refusals.memory_body.Goals as goal

pub returns : goal.returns
returns c = text_NoMemory
