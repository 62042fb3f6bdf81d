use Rattle.doors.proofs.TakingLemmas.{reads_none}
use Rattle.doors.specs.Door.{left_of}
use Rattle.desk_requests.proofs.HearLemmas.{hears_refusal}
use Rattle.desk_requests.proofs.hearing.hear.Goals as goal

pub returns-in-Ok-Err-clause-told : goal.returns-in-Ok-Err-clause-told
returns-in-Ok-Err-clause-told g c = λ t e.
    let start = reads_none t c.new-bytes.result.items _ c.new-bytes.ensures.items e in
    let read = rw c.in-Ok-Err.field-0-is at (c.in-Ok-Err.ensures.told t start) in
    (hears_refusal (left_of t) c.in-Ok-Err.refusal read.1, (_, read.0.told))
