use Rattle.std.proofs.Common.{◌≡◌, ◌∙◌, ap, min, length, take, arith}
use Rattle.std.proofs.lemmas.List.{take_min}
use Rattle.desk_requests.specs.Head.{head_len, framed_at}
use Rattle.desk_requests.proofs.laws.framed.Goals as goal

pub returns-clause-frame : goal.returns-clause-frame
returns-clause-frame c =
    let input = c.args.input.now in
    let most : c.min-most.result ≡ min 16384 (length input) = omega (arith, c.min-most.ensures) in
    let front = ap (λ k. take k input) most ∙ take_min 16384 input in
    c.framed_at.ensures.frame ∙ ap (framed_at input) (c.head_len.ensures.len ∙ ap head_len front)
