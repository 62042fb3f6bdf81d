use Rattle.std.proofs.Common.{◌≤◌, ◌∙◌, ap, subst, ℕ, List, length}
use Rattle.std.specs.Prelude.{IfOk}
use Rattle.desk_requests.specs.Head.{framed_at}
use Rattle.desk_requests.proofs.ReadLemmas.{frames}
use Rattle.desk_requests.proofs.heads.read_head.Goals as goal

pub returns-in-Ok-clause-told : goal.returns-in-Ok-clause-told
returns-in-Ok-clause-told g c = λ t e.
    let same = c.as_slice.ensures.value in
    frames t c.end_of_head.new.bytes.items _ c.in-Ok.end c.framed_at.result (c.in-Ok.ensures.told t e)
    (c.framed_at.ensures.frame ∙ ap (λ xs. framed_at xs c.in-Ok.end) same)
    (subst (λ (xs : List ℕ). IfOk c.framed_at.result (λ n. n ≤ length xs)) same c.framed_at.ensures.within)
