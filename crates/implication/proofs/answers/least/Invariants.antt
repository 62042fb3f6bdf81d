use Rattle.std.proofs.Common.{ℕ, ◌≡◌, ◌<◌, false}
use Rattle.net_types.specs.Sets.{has}
use Rattle.implication.proofs.answers.least.Given as goal

abbrev pub invariant-loop-number : goal.invariant-loop-number
invariant-loop-number l = (x : ℕ) → x < l.number → has l.set x ≡ false
