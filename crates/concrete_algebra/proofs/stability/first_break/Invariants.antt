use Rattle.std.proofs.Common.{ℕ, ◌<◌}
use Rattle.concrete_algebra.specs.Findings.{problem_asked}
use Rattle.concrete_algebra.specs.Stability.{IsStableAt}
use Rattle.concrete_algebra.proofs.stability.first_break.Given as goal

abbrev pub invariant-loop-router : goal.invariant-loop-router
invariant-loop-router l = (v : ℕ) → v < l.router → IsStableAt (problem_asked l.asked) l.labels v
