use Rattle.std.proofs.Common.{sym, take}
use Rattle.httparse.specs.Spans.{IsRequestAt}
use Rattle.desk_requests.proofs.OneLemmas.{asks_refusal, asks_head, head_found}
use Rattle.desk_requests.proofs.laws.law_of_requests.Goals as goal

pub returns-in-Ok : goal.returns-in-Ok
returns-in-Ok c =
    let found = head_found (IsRequestAt (take c.in-Ok.len c.args.input.now) c.parsed-found.new.headers) (take c.in-Ok.len c.args.input.now) c.parsed-found.result c.parsed-found.ensures.some c.parsed-found.ensures.none in
    asks_head c.args.input.now c.in-Ok.len found.0 (sym c.in-Ok.ensures.frame) found.1

pub returns-in_default : goal.returns-in_default
returns-in_default c = asks_refusal c.args.input.now c.in_default.field-0 (sym c.in_default.ensures.frame)
