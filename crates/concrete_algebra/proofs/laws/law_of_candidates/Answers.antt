use Rattle.concrete_algebra.proofs.ReadingLemmas.{others_leave_theirs, others_may_take_theirs, owners_keep_theirs}
use Rattle.concrete_algebra.proofs.laws.law_of_candidates.Goals as goal

pub returns : goal.returns
returns c = record { owners = owners_keep_theirs; others = others_may_take_theirs; learned = others_leave_theirs }
