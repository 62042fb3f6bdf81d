use Rattle.std.proofs.Common.{rules, arith, ◌≡◌, ◌≤◌, [], length, ap, sym, ◌∙◌, append-nil}
use Rattle.httparse.specs.Grammar.{print_request}
use Rattle.httparse.specs.Spans.{IsRequestAt}
use Rattle.desk_requests.proofs.FeedLemmas.{few_fields}
use Rattle.desk_requests.proofs.parsing.parsed.Goals as goal

pub returns-else-spans-head-clause-none : goal.returns-else-spans-head-clause-none
returns-else-spans-head-clause-none c = λ _ h reads.
    let fits : length h.fields ≤ 32 = few_fields c.args.head.now [] h reads c.requires.few in
    let few : length h.fields ≤ length c.args.headers.now = omega (arith, fits, c.requires.room) in
    let at : IsRequestAt c.args.head.now c.parse_request.new.headers c.in-Ok-Complete.spans h = search (rules, c.in-Ok-Complete.ensures.found) in
    let long : c.in-Ok-Complete.spans.len ≡ length c.args.head.now = at.len ∙ ap length (sym (reads.1 ∙ append-nil (print_request h))) in
    c.if-spans-head.false long

pub returns-in_default-2-clause-none : goal.returns-in_default-2-clause-none
returns-in_default-2-clause-none c = λ _ h reads.
    let fits : length h.fields ≤ 32 = few_fields c.args.head.now [] h reads c.requires.few in
    let few : length h.fields ≤ length c.args.headers.now = omega (arith, fits, c.requires.room) in
    search (rules, c.parse_request.ensures.found)
