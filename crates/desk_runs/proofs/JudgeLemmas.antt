-- The same report once more means the same.
use Rattle.std.proofs.Common.{◌≡◌, ℕ, List, subst}
use Rattle.review_rules.specs.Judging.{Means}
use Rattle.review_rules.specs.declared.requests.JudgeAnswer.{JudgeAnswer}
use Rattle.desk_runs.specs.Fixed.{run_answer}
use Rattle.desk_runs.specs.declared.fixed_judge.RunAnswer.{RunAnswer}

pub same_report : (answer : RunAnswer) (r s : List ℕ) (a : JudgeAnswer) → r ≡ s → Means (run_answer answer r) a → Means (run_answer answer s) a
same_report answer r s a is means = subst (λ (t : List ℕ). Means (run_answer answer t) a) is means
