use Rattle.std.proofs.Common.{◌≡◌, ◌+◌, ◌-◌, ◌≤◌, ◌∙◌, ap, length, take, drop, arith}
use Rattle.desk_requests.specs.Bodies.{command_of}
use Rattle.desk_requests.proofs.HearLemmas.{hears_body}
use Rattle.desk_requests.proofs.hearing.hear_body.Goals as goal

pub returns-in-Ok-clause-told : goal.returns-in-Ok-clause-told
returns-in-Ok-clause-told g c = λ t e.
    let read = rw c.in-Ok-true.field-0-test at (c.in-Ok-true.ensures.told t e) in
    let same = c.deref.ensures.value in
    let enough : c.args.len + c.args.size ≤ length c.read_to.new.bytes.items = read.1 in
    let m : c.args.len + c.args.size - c.args.len ≡ c.args.size = omega arith in
    (hears_body t c.read_to.new.bytes.items _ c.args.form c.args.len c.args.size _ c.in-Ok.command read.0 enough m (c.in-Ok.ensures.command ∙ ap (λ xs. command_of c.args.form (take (c.args.len + c.args.size - c.args.len) (drop c.args.len xs))) same), (_, read.0.told))
