use Rattle.desk_replies.proofs.TextLemmas.{text_StoreFault}
use Rattle.desk_replies.proofs.refusals.store_body.Goals as goal

pub returns : goal.returns
returns c = text_StoreFault
