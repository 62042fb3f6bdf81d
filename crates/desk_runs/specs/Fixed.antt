-- What a judge with fixed answers means.
use Rattle.std.specs.Prelude.{ℕ, List, Option, Some, None, nat_lt, if◌then◌else◌}
use Rattle.net_types.specs.declared.refusals.BundleRefusal.TheVariants.{TooManyFiles}
use Rattle.net_types.specs.declared.refusals.FormRefusal.TheVariants.{NotToml}
use Rattle.review_rules.specs.declared.requests.BundleSide.TheVariants.{Base, New}
use Rattle.review_rules.specs.declared.requests.JudgeAnswer.{JudgeAnswer}
use Rattle.review_rules.specs.declared.requests.JudgeAnswer.TheVariants.{Fine, Refused, BookRefused, Limit, Judged}
use Rattle.desk_runs.specs.declared.fixed_judge.BundleAnswer.{BundleAnswer}
use Rattle.desk_runs.specs.declared.fixed_judge.BundleAnswer.TheVariants.{Fine as FineBundle, Many}
use Rattle.desk_runs.specs.declared.fixed_judge.BookAnswer.{BookAnswer}
use Rattle.desk_runs.specs.declared.fixed_judge.BookAnswer.TheVariants.{Fine as FineBook, NotToml as NoBook}
use Rattle.desk_runs.specs.declared.fixed_judge.RunAnswer.{RunAnswer}
use Rattle.desk_runs.specs.declared.fixed_judge.RunAnswer.TheVariants.{Base as BaseRefused, New as NewRefused, NotToml as NoRunBook, Limit as RunLimit, Judged as RunJudged}

-- a position below 64
abbrev pub position : Option ℕ → Option ℕ
position None = None
position (Some at) = if nat_lt at 64 then Some at else None

abbrev pub bundle_answer : BundleAnswer → JudgeAnswer
bundle_answer FineBundle = Fine
bundle_answer (Many files) = Refused New (TooManyFiles files)

abbrev pub book_answer : BookAnswer → JudgeAnswer
book_answer FineBook = Fine
book_answer NoBook = BookRefused NotToml

abbrev pub run_answer : RunAnswer → List ℕ → JudgeAnswer
run_answer (BaseRefused files) report = Refused Base (TooManyFiles files)
run_answer (NewRefused files) report = Refused New (TooManyFiles files)
run_answer NoRunBook report = BookRefused NotToml
run_answer (RunLimit cases) report = Limit cases
run_answer (RunJudged missing) report = Judged (position missing) report
